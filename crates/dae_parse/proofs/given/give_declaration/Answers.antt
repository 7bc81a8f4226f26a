use Rattle.dae_parse_states.specs.States.{frames_of}
use Rattle.dae_parse.proofs.Others.{other_declaration}
use Rattle.dae_parse.proofs.given.give_declaration.Goals as goal

pub returns-in_default : goal.returns-in_default
returns-in_default c = λ d s h k l m. other_declaration d (frames_of c.args.machine.now) s _ _ k.0 c.in_default.ensures.stack
