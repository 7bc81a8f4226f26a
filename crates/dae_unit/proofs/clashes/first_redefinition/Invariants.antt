use Rattle.std.proofs.Common.{◌≡◌, drop}
use Rattle.dae_unit.specs.declared.errors.Clash.TheVariants.{Definitions}
use Rattle.dae_unit.specs.Clashes.{first_clash}
use Rattle.dae_unit.specs.Later.{AreNextDefinitions}
use Rattle.dae_unit.proofs.clashes.first_redefinition.Given as goal

abbrev pub invariant-loop-number : goal.invariant-loop-number
invariant-loop-number l =
    record {
      found : l.found ≡ first_clash l.files Definitions (drop l.number l.rows);
      kept : AreNextDefinitions l.files (drop l.number l.rows) l.next.entries;
    }
