-- Entries of names, each with what it hides, and a map of the latest.
use Rattle.std.specs.Prelude.{◌≡◌, ℕ, List, [], ◌∷◌, map, reverse, nat_eq}
use Rattle.indexmap.specs.IndexMap.{IndexMap, get}
use Rattle.dae_names.specs.declared.index.IndexedName.{IndexedName}
use Rattle.dae_names.specs.Latest.{latest_of}

abbrev pub name_of : IndexedName → ℕ
name_of e = e.name

abbrev pub names_of : List IndexedName → List ℕ
names_of entries = map name_of entries

-- of entries, the latest first: each hides the latest of its name behind it
abbrev pub AreLinked : List IndexedName → Type 0
AreLinked [] = Unit {0}
AreLinked (e ∷ es) = (e.hidden ≡ latest_of (names_of es) e.name) × AreLinked es

-- the map has the place of the latest entry of each name
pub record IsIndexed {S : Type 0} (entries : List IndexedName) (latest : IndexMap ℕ ℕ S) : Type 0 where
  pub linked : AreLinked (reverse entries)
  pub places : (name : ℕ) → get nat_eq latest name ≡ latest_of (names_of (reverse entries)) name
