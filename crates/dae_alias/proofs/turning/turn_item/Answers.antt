use Rattle.std.proofs.lemmas.Result.{on_ok_weaker}
use Rattle.dae_alias.specs.Meeting.{known_in}
use Rattle.dae_alias.proofs.Marks.{no_load}
use Rattle.dae_alias.proofs.Sets.{passed_once}
use Rattle.dae_alias.proofs.turning.turn_item.Goals as goal

pub pass-requires-clause-load : goal.pass-requires-clause-load
pass-requires-clause-load c = no_load c.args.item.now (λ v kind x. c.in_default.not-Load v kind x)

pub returns-clause-once : goal.returns-clause-once
returns-clause-once c =
    on_ok_weaker c.write_item.result (λ h. passed_once (known_in c.args.walk.now) (known_in c.pass.new.walk) c.args.item.now (let p = c.in_ok-pass.ensures in p.known)) c.write_item.ensures
