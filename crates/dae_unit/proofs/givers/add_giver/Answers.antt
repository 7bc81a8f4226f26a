use Rattle.std.proofs.Common.{◌≡◌, true, false, rules}
use Rattle.dae_unit.specs.Linkage.{refers}
use Rattle.dae_unit.proofs.Kept.{giver_noted, no_giver}
use Rattle.dae_unit.proofs.givers.add_giver.Goals as goal

pub returns-then-refers : goal.returns-then-refers
returns-then-refers c ds all =
    let holds : refers c.args.row ≡ true = search rules in
    no_giver c.args.files.now c.args.row c.args.givers.now.keys holds ds all

pub returns : goal.returns
returns c ds all =
    let fails : refers c.args.row ≡ false = search rules in
    let noted = c.in_ok-add_identity.ensures in
    giver_noted c.args.files.now c.args.row noted.0 c.args.givers.now.keys c.add_identity.new.seen.keys c.in_ok-add_identity.field-0 fails noted.1 noted.2 ds all
