use Rattle.std.proofs.Common.{◌≡◌, find, reverse, take}
use Rattle.dae_unit.specs.Clashes.{types_differ}
use Rattle.dae_unit.specs.Couples.{AreKnownOf}
use Rattle.dae_unit.proofs.clashes.last_differing.Given as goal

abbrev pub invariant-loop-number : goal.invariant-loop-number
invariant-loop-number l =
    record {
      last : find (types_differ l.files l.row) (reverse (take l.number l.others)) ≡ find (types_differ l.files l.row) (reverse l.others);
      known : AreKnownOf l.files l.known.entries;
    }
