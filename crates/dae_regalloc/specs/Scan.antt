-- A scan over spans in the order of their first places. Each register is free from some place on. A span gets the first
-- register that is free at its first place, and where there is none, the slot of its variable's number.
use Rattle.std.specs.Prelude.{◌≡◌, ◌≢◌, ℕ, ◌+◌, ◌≤◌, ◌⊎◌, true, ◌&&◌, nat_lt, nat_le, List, [], ◌∷◌, slice_set, Option, Some, None, if◌then◌else◌}
use Rattle.dae_ir.specs.Classes.{VariableSet}
use Rattle.dae_select_walks.specs.declared.Home.{Home}
use Rattle.dae_select_walks.specs.declared.Home.TheVariants.{Register, Slot}
use Rattle.dae_regalloc.specs.declared.Span.{Span}

-- the registers that variables may have: x8, x9, x11 to x16, x18 to x27
abbrev pub register_at : ℕ → ℕ
register_at i = if nat_lt i 2 then 8 + i else (if nat_lt i 8 then 9 + i else 10 + i)

-- the first of these, from the k-th on, that is free at a place
abbrev pub free_at : List ℕ → ℕ → ℕ → Option ℕ
free_at [] place k = None
free_at (e ∷ es) place k = if nat_le e place then Some k else free_at es place (k + 1)

abbrev pub placed : Option ℕ → Span → (List ℕ → List Home) → List ℕ → List Home
placed None x later ends = Slot x.variable ∷ later ends
placed (Some i) x later ends = Register (register_at i) ∷ later (slice_set ends i (x.last + 1))

abbrev pub scan : List Span → List ℕ → List Home
scan [] ends = []
scan (x ∷ xs) ends = placed (free_at ends x.first 0) x (scan xs) ends

-- ---- what is wanted of it

-- the spans share a place
abbrev pub Overlap : Span → Span → Type 0
Overlap x y = (y.first ≤ x.last) × (x.first ≤ y.last)

-- the home is another than those of later spans that share a place with this one
abbrev pub IsClear : Span → Home → List Span → List Home → Type 0
IsClear x h [] gs = Unit {0}
IsClear x h (y ∷ ys) [] = ⊥
IsClear x h (y ∷ ys) (g ∷ gs) = (Overlap x y → x.variable ≢ y.variable → h ≢ g) × IsClear x h ys gs

abbrev pub AreClear : List Span → List Home → Type 0
AreClear [] hs = Unit {0}
AreClear (x ∷ xs) [] = ⊥
AreClear (x ∷ xs) (h ∷ hs) = IsClear x h xs hs × AreClear xs hs

-- how many spans hold a place
abbrev pub depth_at : List Span → ℕ → ℕ
depth_at [] place = 0
depth_at (x ∷ xs) place = (if nat_le x.first place && nat_le place x.last then 1 else 0) + depth_at xs place

abbrev pub NoSlot : List Home → Type 0
NoSlot [] = Unit {0}
NoSlot (Register r ∷ hs) = NoSlot hs
NoSlot (Slot i ∷ hs) = ⊥

-- in the order of their first places, none of which is behind the last
abbrev pub AreInOrder : ℕ → List Span → Type 0
AreInOrder from' [] = Unit {0}
AreInOrder from' (x ∷ xs) = (from' ≤ x.first) × (x.first ≤ x.last) × AreInOrder x.first xs

-- the span is in the list, with this home
abbrev pub IsPaired : Span → Home → List Span → List Home → Type 0
IsPaired x h [] gs = ⊥
IsPaired x h (y ∷ ys) [] = ⊥
IsPaired x h (y ∷ ys) (g ∷ gs) = ((x ≡ y) × (h ≡ g)) ⊎ IsPaired x h ys gs

-- each variable that is live at a place, counted from k on, has a span that holds it, with its home
abbrev pub AreCovered : List VariableSet → ℕ → (ℕ → Home) → List Span → List Home → Type 0
AreCovered [] k home xs hs = Unit {0}
AreCovered (lives ∷ rest) k home xs hs =
    ((v : ℕ) → lives v ≡ true → (x : Span) × (x.variable ≡ v) × (x.first ≤ k) × (k ≤ x.last) × IsPaired x (home v) xs hs) × AreCovered rest (k + 1) home xs hs
