use Rattle.dae_parse_states.specs.States.{frames_of}
use Rattle.dae_parse.proofs.Others.{other_initialiser}
use Rattle.dae_parse.proofs.given.give_initialiser.Goals as goal

pub returns-in_default : goal.returns-in_default
returns-in_default c = λ x h s k. other_initialiser x (frames_of c.args.machine.now) s _ _ k.0 c.in_default.ensures.stack
