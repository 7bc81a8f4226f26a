-- The numbers of names that stand for something.
use Rattle.std.specs.Prelude.{ℕ, List, map}
use Rattle.dae_types_kinds.specs.declared.tables.Designation.{Designation}

abbrev pub number_of : Designation → ℕ
number_of row = row.name

abbrev pub numbers_of : List Designation → List ℕ
numbers_of rows = map number_of rows
