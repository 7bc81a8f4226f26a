use Rattle.std.specs.Prelude.{◌≡◌, drop}
use Rattle.dae_ir.specs.Form.{form_of}
use Rattle.dae_ir.specs.Classes.{classes_of}
use Rattle.dae_split.specs.Making.{is_a, fits}
use Rattle.dae_split.proofs.regions.+fits.Given as goal

abbrev pub invariant-list_fits-loop-statement : goal.invariant-list_fits-loop-statement
invariant-list_fits-loop-statement l =
    fits (is_a l.side) (classes_of l.tables l.function) l.inside (form_of (drop l.statement-index l.statements))
    ≡ fits (is_a l.side) (classes_of l.tables l.function) l.inside (form_of l.statements)
