-- What tells objects and functions of several files apart, and what is kept of rows by it.
use Rattle.std.specs.Prelude.{◌≡◌, ℕ, Bool, true, false, not, ◌&&◌, cond, List, length, drop, Option, Some, None, nat_eq}
use Rattle.std.specs.List.{list_any}
use Rattle.std.specs.Map.{lookup}
use Rattle.std.specs.Option.{unwrap_or}
use Rattle.std.specs.Str.{bytes_eq}
use Rattle.dae_types_kinds.specs.declared.tables.Entity.{Entity}
use Rattle.dae_types_kinds.specs.declared.tables.Entity.TheVariants as entity
use Rattle.dae_types_typed.specs.declared.files.FileParts.{FileParts}
use Rattle.dae_types_typed.specs.Sound.{same_entity}
use Rattle.dae_unit.specs.declared.identities.Identity.{Identity}
use Rattle.dae_unit.specs.declared.identities.Identity.TheVariants.{Named, Object, Function}
use Rattle.dae_unit.specs.declared.numbers.NumberedRows.{NumberedRows}
use Rattle.dae_unit.specs.declared.rows.FileRow.{FileRow}
use Rattle.dae_unit.specs.Clashes.{gives}
use Rattle.dae_unit.specs.Linkage.{external_name, entity_of, is_one}
use Rattle.dae_unit.specs.Meanings.{number_from}

-- its name, where other files know it by one; else its file and its number there; and nothing for what is neither an object nor a
-- function
abbrev pub IsIdentity : List FileParts → (file : ℕ) → Entity → Option Identity → Type 0
IsIdentity files k e None = (external_name files k e ≡ None) × (same_entity e e ≡ false)
IsIdentity files k e (Some (Named name)) = external_name files k e ≡ Some name.now
IsIdentity files k e (Some (Object j n)) = (external_name files k e ≡ None) × (j ≡ k) × (e ≡ entity.Object n)
IsIdentity files k e (Some (Function j n)) = (external_name files k e ≡ None) × (j ≡ k) × (e ≡ entity.Function n)

abbrev pub same_identity : Identity → Identity → Bool
same_identity (Named x) (Named y) = bytes_eq x.now y.now
same_identity (Object j m) (Object k n) = nat_eq j k && nat_eq m n
same_identity (Function j m) (Function k n) = nat_eq j k && nat_eq m n
same_identity _ _ = false

-- one more is among them, and whether it is new
pub record AddsOne (i : Identity) (old new : List Identity) (is_new : Bool) : Type 0 where
  pub among : (q : Identity) → list_any (same_identity q) new ≡ cond (same_identity i q) true (list_any (same_identity q) old)
  pub fresh : is_new ≡ not (list_any (same_identity i) old)
  pub same : is_new ≡ false → new ≡ old

abbrev pub AddsIdentity : Option Identity → (old new : List Identity) → (fresh : Bool) → Type 0
AddsIdentity None old new fresh = (new ≡ old) × (fresh ≡ true)
AddsIdentity (Some i) old new fresh = AddsOne i old new fresh

-- these are the objects and functions that the rows give
abbrev pub AreGivers : List FileParts → List FileRow → List Identity → Type 0
AreGivers files rows givers =
    (k : ℕ) (e : Entity) (i : Identity) → IsIdentity files k e (Some i) → list_any (same_identity i) givers ≡ list_any (gives files k e) rows

-- these are the objects and functions that the rows declare
abbrev pub AreDeclaredIn : List FileParts → List FileRow → List Identity → Type 0
AreDeclaredIn files rows seen =
    (k : ℕ) (e : Entity) (i : Identity) → IsIdentity files k e (Some i) →
    list_any (same_identity i) seen ≡ list_any (λ (d : FileRow). is_one files k e d.file (entity_of d)) rows

-- a number is put for it
abbrev pub PutsNumber : Option Identity → (number : ℕ) → (old new : List (Identity × ℕ)) → Type 0
PutsNumber None n old new = new ≡ old
PutsNumber (Some i) n old new = (q : Identity) → lookup (same_identity q) new ≡ cond (same_identity i q) (Some n) (lookup (same_identity q) old)

-- these are the numbers of the first rows among those from a number on
abbrev pub AreFirstNumbers : List FileParts → List FileRow → (from : ℕ) → List (Identity × ℕ) → Type 0
AreFirstNumbers files rows n numbers =
    (k : ℕ) (e : Entity) (i : Identity) → IsIdentity files k e (Some i) →
    unwrap_or (lookup (same_identity i) numbers) (length rows) ≡ number_from files n k e (drop n rows)

abbrev pub IsIndexed : List FileParts → NumberedRows → Type 0
IsIndexed files index = AreFirstNumbers files index.rows.now 0 index.numbers.now.entries
