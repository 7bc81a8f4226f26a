-- Definitions are total, and so they answer also where a rule is broken. Where none is broken, what is written is what the text
-- says: a constant is known, an item is a constant of its type, a name is that of an object, a local object or an enumerator,
-- and a name of a type is that of one.
use Rattle.std.specs.Prelude.{◌≡◌, ℕ, Option, Some, None, true, false}
use Rattle.dae_base.specs.declared.Place.{Place}
use Rattle.dae_types_kinds.specs.declared.tables.Entity.{Entity}
use Rattle.dae_types_kinds.specs.declared.tables.Entity.TheVariants as entity
use Rattle.dae_types_kinds.specs.declared.values.Known.TheVariants as known
use Rattle.dae_types_kinds.specs.Tables.{Tables}
use Rattle.dae_types_kinds.specs.Types.{shape_of}
use Rattle.dae_types_kinds.specs.Values.{Typed, is_constant, known_as}
use Rattle.dae_types_rules.specs.Sites.{AtConstant, AtCount, AtItem, AtName, AtTypeName}
use Rattle.dae_types_rules.specs.Table.{is_broken}

abbrev pub IsNumber : Typed → Type 0
IsNumber x = (w : ℕ) × (x.known ≡ known.Number w)

abbrev pub NamesValue : Option Entity → Type 0
NamesValue (Some (entity.Object n)) = Unit {0}
NamesValue (Some (entity.Local n)) = Unit {0}
NamesValue (Some (entity.Enumerator w)) = Unit {0}
NamesValue (Some (entity.Type t)) = ⊥
NamesValue (Some (entity.Function f)) = ⊥
NamesValue None = ⊥

pub record NothingIsMadeUp : Type 0 where
  pub constants : (p : Place) (s : Tables) (x : Typed) → is_broken (AtConstant p s x) ≡ false → IsNumber x
  pub counts : (p : Place) (s : Tables) (x : Typed) → is_broken (AtCount p s x) ≡ false → IsNumber x
  pub items :
      (p : Place) (s : Tables) (x : Typed) (t : ℕ) → is_broken (AtItem p s x t) ≡ false →
      is_constant (known_as (shape_of s x.type_id) (shape_of s t) x.known) ≡ true
  pub names : (p : Place) (found : Option Entity) → is_broken (AtName p found) ≡ false → NamesValue found
  pub types : (p : Place) (found : Option Entity) → is_broken (AtTypeName p found) ≡ false → (t : ℕ) × (found ≡ Some (entity.Type t))
