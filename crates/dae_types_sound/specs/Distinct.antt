-- Whether the names by which other files know the objects and functions of a file are different, one after the other.
use Rattle.std.specs.Borrow.{Bor}
use Rattle.std.specs.Prelude.{◌≡◌, map, Bool, true, ◌&&◌, not, ℕ, List, [], ◌∷◌, ◌++◌, Option, Some, None}
use Rattle.std.specs.List.{list_any}
use Rattle.std.specs.Str.{bytes_eq}
use Rattle.dae_types_kinds.specs.declared.tables.StaticObject.{StaticObject}
use Rattle.dae_types_kinds.specs.declared.tables.Routine.{Routine}
use Rattle.dae_types_typed.specs.declared.files.FileParts.{FileParts}
use Rattle.dae_types_typed.specs.Linkage.{object_name, routine_name}

-- a name, if there is one, is none of those before
abbrev pub is_new : List (List ℕ) → Option (List ℕ) → Bool
is_new done None = true
is_new done (Some x) = not (list_any (bytes_eq x) done)

abbrev pub with_name : List (List ℕ) → Option (List ℕ) → List (List ℕ)
with_name done None = done
with_name done (Some x) = done ++ x ∷ []

abbrev pub are_new : List (List ℕ) → List (Option (List ℕ)) → Bool
are_new done [] = true
are_new done (x ∷ xs) = is_new done x && are_new (with_name done x) xs

abbrev pub with_names : List (List ℕ) → List (Option (List ℕ)) → List (List ℕ)
with_names done [] = done
with_names done (x ∷ xs) = with_names (with_name done x) xs

-- names that are noted, by their bytes
abbrev pub bytes_noted : List (Bor (List ℕ)) → List (List ℕ)
bytes_noted ks = map (λ k. k.now) ks

abbrev pub IsNewName : List (Bor (List ℕ)) → Option (List ℕ) → Type 0
IsNewName ks x = is_new (bytes_noted ks) x ≡ true

abbrev pub IsNoted : (old new : List (Bor (List ℕ))) → Option (List ℕ) → Type 0
IsNoted old new x = bytes_noted new ≡ with_name (bytes_noted old) x

abbrev pub AreNew : List (Bor (List ℕ)) → List (Option (List ℕ)) → Type 0
AreNew ks xs = are_new (bytes_noted ks) xs ≡ true

abbrev pub AreNoted : (old new : List (Bor (List ℕ))) → List (Option (List ℕ)) → Type 0
AreNoted old new xs = bytes_noted new ≡ with_names (bytes_noted old) xs

-- the names of objects and of functions
abbrev pub object_names : FileParts → List StaticObject → List (Option (List ℕ))
object_names f [] = []
object_names f (o ∷ os) = object_name f (Some o) ∷ object_names f os

abbrev pub routine_names : FileParts → List Routine → List (Option (List ℕ))
routine_names f [] = []
routine_names f (r ∷ rs) = routine_name f (Some r) ∷ routine_names f rs

-- those of a file
abbrev pub have_own_names : FileParts → Bool
have_own_names f = are_new [] (object_names f f.objects) && are_new (with_names [] (object_names f f.objects)) (routine_names f f.routines)
