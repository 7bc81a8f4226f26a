use Rattle.std.proofs.Common.{◌≡◌, drop}
use Rattle.dae_unit.specs.declared.errors.Clash.TheVariants.{Types}
use Rattle.dae_unit.specs.Clashes.{first_clash}
use Rattle.dae_unit.specs.Couples.{AreKnownOf}
use Rattle.dae_unit.specs.Later.{AreLater}
use Rattle.dae_unit.proofs.clashes.first_difference.Given as goal

abbrev pub invariant-loop-number : goal.invariant-loop-number
invariant-loop-number l =
    record {
      found : l.found ≡ first_clash l.files Types (drop l.number l.rows);
      known : AreKnownOf l.files l.known.entries;
      kept : AreLater l.files (drop l.number l.rows) l.later.entries;
    }
