use Rattle.dae_parse_states.specs.States.{frames_of}
use Rattle.dae_parse.proofs.Others.{other_specifiers}
use Rattle.dae_parse.proofs.given.give_specifiers.Goals as goal

pub returns-in_default : goal.returns-in_default
returns-in_default c = λ ws h s k. other_specifiers ws (frames_of c.args.machine.now) s _ _ k.0 c.in_default.ensures.stack
