-- What a part in memory shows of a tree: the places of the tree's first nodes, down to 200 below its top, and the tree
-- itself where no node in it is deeper than that.
use Rattle.std.specs.Prelude.{◌≡◌, ℕ, ◌<◌, ◌≤◌, List, [], ◌∷◌, ◌++◌, map, length, slice_get, Option, Some, None, Box, Vec}
use Rattle.std.specs.declared.alloc.Global.{Global}
use Rattle.dae_base.specs.declared.Place.{Place}
use Rattle.dae_parse_grammar.specs.FirstPlaces.{Places, nowhere, both}
use Rattle.dae_parse_grammar.specs.Machine.{onto}
use Rattle.dae_parse_parts.specs.declared.reading.Read.{Read}

-- the places of the first nodes, as a list
pub record Lists (places : List Place) (firsts : Places) : Type 0 where
  pub short : length places ≤ 201
  pub entries : (i : ℕ) → i < 201 → slice_get places i ≡ firsts i

-- a tree is there where so many places fit, and not there otherwise
abbrev pub IsKept : {T : Type 0} → Option T → ℕ → Type 0
IsKept None n = 200 < n
IsKept (Some t) n = n ≤ 200

pub record Holds {T : Type 0} (read : Read T) (firsts : Places) : Type 0 where
  pub places : Lists read.depths.places.items firsts
  pub kept : IsKept read.tree (length read.depths.places.items)

-- the tree that is there, seen as this one
abbrev pub IsSeen : {T A : Type 0} → (T → A) → Option T → A → Type 0
IsSeen view None a = Unit {0}
IsSeen view (Some t) a = view t ≡ a

pub record Shows {T A : Type 0} (view : T → A) (firsts : A → Places) (read : Read T) (a : A) : Type 0 where
  pub holds : Holds read (firsts a)
  pub seen : IsSeen view read.tree a

-- a tree in a box, seen as it would be without
abbrev pub in_box : {T A : Type 0} → (T → A) → Box T Global → A
in_box view b = view b.value

abbrev pub box_value : {T : Type 0} → Option (Box T Global) → Option T
box_value None = None
box_value (Some b) = Some b.value

-- the first nodes of trees in a list
abbrev pub firsts_list : {A : Type 0} → (A → Places) → List A → Places
firsts_list firsts [] = nowhere
firsts_list firsts (a ∷ list) = both (firsts a) (firsts_list firsts list)

-- a list in memory shows trees, here the last first
abbrev pub ShowsList : {T A : Type 0} → (T → A) → (A → Places) → Read (Vec T Global) → List A → Type 0
ShowsList view firsts read before = Shows (λ list. map view list.items) (firsts_list firsts) read (onto before [])

-- ---- how a tree comes from those of its parts

abbrev pub IsFrom : {T : Type 0} → Option T → Option T → Type 0
IsFrom part None = Unit {0}
IsFrom part (Some t) = part ≡ Some t

abbrev pub IsMade : {T N : Type 0} → (T → N → Type 0) → Option T → Option N → Type 0
IsMade make part None = Unit {0}
IsMade {T} make part (Some n) = (t : T) × (part ≡ Some t) × make t n

abbrev pub IsPair : {T U : Type 0} → Option T → Option U → Option (T × U) → Type 0
IsPair left right None = Unit {0}
IsPair left right (Some pair) = (left ≡ Some pair.0) × (right ≡ Some pair.1)

abbrev pub IsLonger : {T : Type 0} → Option (Vec T Global) → Option T → Option (Vec T Global) → Type 0
IsLonger {T} before item None = Unit {0}
IsLonger {T} before item (Some list) =
    (known : Vec T Global) × (last : T) × (before ≡ Some known) × (item ≡ Some last) × (list.items ≡ known.items ++ last ∷ [])
