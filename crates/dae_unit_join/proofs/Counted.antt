-- Lists that are as long as another, whose items they don't look at.
use Rattle.std.proofs.Common.{◌≡◌, ℕ, zero, suc, ◌+◌, ◌<◌, List, [], ◌∷◌, ◌++◌, length, drop, refl, arith}
use Rattle.dae_types_kinds.specs.declared.tables.Entity.TheVariants as entity
use Rattle.dae_types_kinds.specs.declared.tables.StaticObject.{StaticObject}
use Rattle.dae_types_kinds.specs.declared.tables.Routine.{Routine}
use Rattle.dae_types_typed.specs.declared.files.FileParts.{FileParts}
use Rattle.dae_unit.specs.declared.rows.FileRow.{FileRow}
use Rattle.dae_unit.specs.Meanings.{object_place, object_places, function_number, function_numbers}

pub places_on : (files : List FileParts) (placed : List FileRow) (places : List ℕ) (k : ℕ) (done : List ℕ) (xs : List StaticObject) (o n : ℕ) → o < length xs → object_places files placed places k done n (drop o xs) ≡ object_places files placed places k (done ++ object_place files placed places k (entity.Object n) ∷ []) (n + 1) (drop (o + 1) xs)
places_on files placed places k done [] o n h = absurd (omega arith)
places_on files placed places k done (x ∷ xs) zero n h = let e : n + 1 ≡ suc n = omega arith in rw e refl
places_on files placed places k done (x ∷ xs) (suc o) n h = let e : suc o + 1 ≡ suc (o + 1) = omega arith in rw e (places_on files placed places k done xs o n (omega arith))

pub numbers_on : (files : List FileParts) (bodies : List FileRow) (k : ℕ) (done : List ℕ) (xs : List Routine) (r n : ℕ) → r < length xs → function_numbers files bodies k done n (drop r xs) ≡ function_numbers files bodies k (done ++ function_number files bodies k (entity.Function n) ∷ []) (n + 1) (drop (r + 1) xs)
numbers_on files bodies k done [] r n h = absurd (omega arith)
numbers_on files bodies k done (x ∷ xs) zero n h = let e : n + 1 ≡ suc n = omega arith in rw e refl
numbers_on files bodies k done (x ∷ xs) (suc r) n h = let e : suc r + 1 ≡ suc (r + 1) = omega arith in rw e (numbers_on files bodies k done xs r n (omega arith))
