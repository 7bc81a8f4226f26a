use Rattle.std.proofs.lemmas.Result.{on_ok_weaker}
use Rattle.dae_alias.specs.Meeting.{known_in}
use Rattle.dae_alias.proofs.Sets.{met_once}
use Rattle.dae_alias.proofs.turning.turn_load.Goals as goal

pub meet-requires-clause-times : goal.meet-requires-clause-times
meet-requires-clause-times c = c.requires.seldom c.args.load.variable

pub returns-clause-once : goal.returns-clause-once
returns-clause-once c =
    on_ok_weaker c.write_turned.result (λ h. met_once (known_in c.args.walk.now) (known_in c.meet.new.walk) c.args.load.variable c.in_ok-given.given (let m = c.in_ok-given.ensures in m.known)) c.write_turned.ensures
