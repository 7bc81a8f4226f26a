-- Couples of a type of one file and a type of another that are compared, and what is known of them.
use Rattle.std.specs.Prelude.{◌≡◌, ℕ, zero, suc, ◌+◌, ◌*◌, Bool, true, false, ◌&&◌, List, [], ◌∷◌, Option, Some, None, map, max, nat_eq, slice_get}
use Rattle.std.specs.HashMap.{HashMap}
use Rattle.std.specs.List.{AllByRecursion, list_all}
use Rattle.std.specs.Map.{lookup}
use Rattle.dae_types_kinds.specs.declared.types.Shape.{Shape}
use Rattle.dae_types_kinds.specs.declared.types.Shape.TheVariants as shape
use Rattle.dae_types_kinds.specs.Types.{shape_of}
use Rattle.dae_types_typed.specs.declared.files.FileParts.{FileParts}
use Rattle.dae_types_typed.specs.Sound.{tables_of}
use Rattle.dae_unit.specs.declared.couples.Compared.{Compared}
use Rattle.dae_unit.specs.declared.couples.Compared.TheVariants.{Further, Differs, TooDeep}
use Rattle.dae_unit.specs.declared.couples.Couple.{Couple}
use Rattle.dae_unit.specs.declared.couples.CoupleTask.{CoupleTask}
use Rattle.dae_unit.specs.declared.couples.CoupleTask.TheVariants.{Compare, Note}
use Rattle.dae_unit.specs.declared.couples.CoupleVerdict.{CoupleVerdict}
use Rattle.dae_unit.specs.declared.couples.CoupleVerdict.TheVariants.{Same, Other}
use Rattle.dae_unit.specs.contracts.couples.CouplePartialEq.TheImpl as couple_eq
use Rattle.dae_unit.specs.Across.{shape_across, same_within_files}

-- the shape of a type, by its number or, of a structure, by that of the structure
abbrev pub shape_in : FileParts → (structures : Bool) → ℕ → Shape
shape_in f true n = shape.Struct n
shape_in f false n = shape_of (tables_of f) n

-- the types of a couple are the same, as far as so many levels tell
abbrev pub agree_within : ℕ → FileParts → FileParts → Couple → Bool
agree_within zero f g c = false
agree_within (suc k) f g c = shape_across (same_within_files k f g) f g c.behind (shape_in f c.structures c.left) (shape_in g c.structures c.right)

abbrev pub all_agree : ℕ → FileParts → FileParts → List Couple → Bool
all_agree k f g cs = list_all (agree_within k f g) cs

-- they differ, however many levels are looked at
abbrev pub AreOther : FileParts → FileParts → Couple → Type 0
AreOther f g c = (k : ℕ) → agree_within k f g c ≡ false

-- where the types of the one couple differ, those of the other do
abbrev pub Needs : FileParts → FileParts → (whole part : Couple) → Type 0
Needs f g whole part = AreOther f g part → AreOther f g whole

-- ---- what is known

abbrev pub same_couple : Couple → Couple → Bool
same_couple = (couple_eq.ghosts).eq

abbrev pub IsSo : FileParts → FileParts → Couple → CoupleVerdict → Type 0
IsSo f g c (Same k) = agree_within k f g c ≡ true
IsSo f g c Other = AreOther f g c

-- what is noted of each couple is so
abbrev pub AreKnown : FileParts → FileParts → List (Couple × CoupleVerdict) → Type 0
AreKnown f g known = (c : Couple) (v : CoupleVerdict) → lookup (same_couple c) known ≡ Some v → IsSo f g c v

-- levels within which a couple is known to be the same
abbrev pub levels_of : Option CoupleVerdict → Option ℕ
levels_of (Some (Same k)) = Some k
levels_of (Some Other) = None
levels_of None = None

-- the least number of levels, from a given one on, within which each of these is known to be the same, where each is
abbrev pub depth_of : List (Couple × CoupleVerdict) → ℕ → List Couple → Option ℕ
depth_of known k [] = Some k
depth_of known k (c ∷ cs) = elim (levels_of (lookup (same_couple c) known)) [ None ↦ None | Some j ↦ depth_of known (max k j) cs ]

-- the same two files, by their numbers
abbrev pub same_two : (a b : ℕ × ℕ) → Bool
same_two a b = nat_eq a.0 b.0 && nat_eq a.1 b.1

abbrev pub entries_or_none : {S : Type 0} → Option (HashMap Couple CoupleVerdict S) → List (Couple × CoupleVerdict)
entries_or_none None = []
entries_or_none (Some couples) = couples.entries

-- that holds of what is noted for each two files
abbrev pub AreKnownOf : {S : Type 0} → List FileParts → List ((ℕ × ℕ) × HashMap Couple CoupleVerdict S) → Type 0
AreKnownOf {S} files known =
    (x y : ℕ) (f g : FileParts) (couples : HashMap Couple CoupleVerdict S) → slice_get files x ≡ Some f → slice_get files y ≡ Some g →
    lookup (same_two (x, y)) known ≡ Some couples → AreKnown f g couples.entries

-- ---- what is still to be done

-- couples that are to be compared within so many levels
abbrev pub goals_at : ℕ → List Couple → List CoupleTask
goals_at k cs = map (λ c. Compare (record { couple = c; depth = k })) cs

abbrev pub holds : FileParts → FileParts → CoupleTask → Bool
holds f g (Compare x) = agree_within x.depth f g x.couple
holds f g (Note c) = true

abbrev pub all_hold : FileParts → FileParts → List CoupleTask → Bool
all_hold f g tasks = list_all (holds f g) tasks

abbrev pub couple_of : CoupleTask → Couple
couple_of (Compare x) = x.couple
couple_of (Note c) = c

-- a couple that is to be noted needs all that is to be done before
abbrev pub AreEnclosed : FileParts → FileParts → List CoupleTask → Type 0
AreEnclosed f g [] = Unit {0}
AreEnclosed f g (Compare x ∷ tasks) = AreEnclosed f g tasks
AreEnclosed f g (Note c ∷ tasks) = AllByRecursion (λ t. Needs f g c (couple_of t)) tasks × AreEnclosed f g tasks

-- the couples that are to be noted differ
abbrev pub IsNotedOther : FileParts → FileParts → CoupleTask → Type 0
IsNotedOther f g (Compare x) = Unit {0}
IsNotedOther f g (Note c) = AreOther f g c

abbrev pub goes_on : Compared → Bool
goes_on Further = true
goes_on Differs = false
goes_on TooDeep = false

-- what is found to differ does
abbrev pub IsFound : FileParts → FileParts → Couple → Compared → Type 0
IsFound f g c Further = Unit {0}
IsFound f g c Differs = AreOther f g c
IsFound f g c TooDeep = Unit {0}

-- how many steps it takes at most to compare within so many levels, where a couple has so many parts at most
abbrev pub cost : (parts : ℕ) → ℕ → ℕ
cost n zero = 1
cost n (suc k) = suc (suc (n * cost n k))

abbrev pub weight : (parts : ℕ) → List CoupleTask → ℕ
weight n [] = 0
weight n (Compare x ∷ tasks) = cost n x.depth + weight n tasks
weight n (Note c ∷ tasks) = suc (weight n tasks)
