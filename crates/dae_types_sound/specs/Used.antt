-- The numbers of the objects and the functions that are used.
use Rattle.std.specs.Prelude.{◌≡◌, ℕ, Bool, false, nat_eq, List, Option, Some, None}
use Rattle.indexmap.specs.IndexSet.{IndexSet, contains}
use Rattle.dae_types_kinds.specs.declared.tables.Entity.{Entity}
use Rattle.dae_types_kinds.specs.declared.tables.Entity.TheVariants as entity
use Rattle.dae_types_kinds.specs.declared.tables.EntityUse.{EntityUse}
use Rattle.dae_types_typed.specs.Sound.{is_used}

-- the number of an object, and of a function
abbrev pub used_object : Entity → Option ℕ
used_object (entity.Object n) = Some n
used_object _ = None

abbrev pub used_function : Entity → Option ℕ
used_function (entity.Function n) = Some n
used_function _ = None

abbrev pub has_number : Option ℕ → ℕ → Bool
has_number None n = false
has_number (Some m) n = nat_eq n m

-- of what has a number, those of these numbers are used
abbrev pub AreUsed : {S : Type 0} → List EntityUse → (ℕ → Entity) → IndexSet ℕ S → Type 0
AreUsed uses of numbers = (n : ℕ) → contains nat_eq numbers n ≡ is_used uses (of n)
