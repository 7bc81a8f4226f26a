use Rattle.std.proofs.Common.{◌≡◌, drop, []}
use Rattle.dae_unit.specs.Identities.{AreDeclaredIn}
use Rattle.dae_unit.specs.Placing.{placed_rows}
use Rattle.dae_unit_join.proofs.placing.placed_rows.Given as goal

abbrev pub invariant-loop-row : goal.invariant-loop-row
invariant-loop-row l =
    record {
      seen : AreDeclaredIn l.files l.placed.items l.seen.keys;
      rest : placed_rows l.files l.placed.items (drop l.row-index l.rows) ≡ placed_rows l.files [] l.rows;
    }
