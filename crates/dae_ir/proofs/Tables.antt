-- Tables of classes, a row for each function, behind their first row.
use Rattle.std.proofs.Common.{◌≡◌, ℕ, suc, List, [], ◌∷◌, refl}
use Rattle.std.specs.Prelude.{slice_get}
use Rattle.dae_ir.specs.Classes.{classes_of, row_of, rows_behind}
use Rattle.dae_ir.specs.declared.stream.Class.{Class}

pub row_behind : (tables : List (List Class)) (k : ℕ) → row_of (slice_get tables (suc k)) ≡ row_of (slice_get (rows_behind tables) k)
row_behind [] k = refl
row_behind (row ∷ tables) k = refl

pub classes_behind : (tables : List (List Class)) (k : ℕ) → classes_of (rows_behind tables) k ≡ classes_of tables (suc k)
classes_behind [] k = refl
classes_behind (row ∷ tables) k = refl
