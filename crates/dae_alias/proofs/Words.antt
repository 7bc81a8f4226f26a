-- Words, their remainders, and bytes of memory that a store leaves.
use Rattle.std.proofs.Common.{◌≡◌, ◌⊎◌, ℕ, zero, suc, ◌+◌, ◌-◌, ◌%◌, ◌^◌, ◌<◌, ◌≤◌, false, List, [], ◌∷◌, length, None, inl, inr, refl, ap, ◌∙◌, arith}
use Rattle.std.specs.Prelude.{slice_index, slice_set}
use Rattle.dae_base.specs.Words.{plus, minus, size, width_of, extended, loaded, stored, bytes_at, from_bytes, low_bytes, written}
use Rattle.dae_base.specs.declared.Width.{Width}
use Rattle.dae_base.specs.declared.Width.TheVariants.{B1, B2, B4}
use Rattle.dae_base.specs.declared.LoadKind.{LoadKind}
use Rattle.dae_base.proofs.Laws.{length-low_bytes}
use Rattle.dae_meaning.specs.Operations.{misplaced}
use Rattle.dae_alias.specs.Addresses.{ranges_meet}

-- two numbers are one word
abbrev pub Agree : ℕ → ℕ → Type 0
Agree a b = a % 2 ^ 32 ≡ b % 2 ^ 32

pub agree_plus : (a b o k : ℕ) → Agree a (b + o) → Agree (plus a k) (b + plus o k)
agree_plus a b o k h = omega (arith, h)

pub agree_zero : (a : ℕ) → Agree a (a + 0)
agree_zero a = omega arith

pub same_word : (a b : ℕ) → Agree a b → a < 2 ^ 32 → b < 2 ^ 32 → a ≡ b
same_word a b h l k = omega (arith, h, l, k)

-- ---- bytes

index_set : (m : List ℕ) (i j b : ℕ) → (i ≡ j → ⊥) → slice_index (slice_set m i b) j ≡ slice_index m j
index_set [] i j b h = refl
index_set (c ∷ m) zero zero b h = absurd (h refl)
index_set (c ∷ m) zero (suc j) b h = refl
index_set (c ∷ m) (suc i) zero b h = refl
index_set (c ∷ m) (suc i) (suc j) b h = index_set m i j b (λ e. h (ap suc e))

index_written : (bs : List ℕ) (y : ℕ) (m : List ℕ) (j : ℕ) → (j < y) ⊎ (y + length bs ≤ j) → slice_index (written y bs m) j ≡ slice_index m j
index_written [] y m j h = refl
index_written (b ∷ bs) y m j (inl h) =
    index_written bs (y + 1) (slice_set m y b) j (inl (omega (arith, h))) ∙ index_set m y j b (λ e. omega (arith, h, e))
index_written (b ∷ bs) y m j (inr h) =
    index_written bs (y + 1) (slice_set m y b) j (inr (omega (arith, h))) ∙ index_set m y j b (λ e. omega (arith, h, e))

bytes_written : (count a : ℕ) (bs : List ℕ) (y : ℕ) (m : List ℕ) → (a + count ≤ y) ⊎ (y + length bs ≤ a)
    → bytes_at count a (written y bs m) ≡ bytes_at count a m
bytes_written zero a bs y m h = refl
bytes_written (suc count) a bs y m (inl h) =
    rw (index_written bs y m a (inl (omega (arith, h))), bytes_written count (a + 1) bs y m (inl (omega (arith, h)))) refl
bytes_written (suc count) a bs y m (inr h) =
    rw (index_written bs y m a (inr (omega (arith, h))), bytes_written count (a + 1) bs y m (inr (omega (arith, h)))) refl

pub loaded_beside : (kind : LoadKind) (a : ℕ) (width : Width) (y x : ℕ) (m : List ℕ)
    → (a + size (width_of kind) ≤ y) ⊎ (y + size width ≤ a) → loaded kind a (stored width y x m) ≡ loaded kind a m
loaded_beside kind a width y x m h =
    ap (λ (bs : List ℕ). extended kind (from_bytes bs))
    (bytes_written (size (width_of kind)) a (low_bytes (size width) x) y m (rw (length-low_bytes (size width) x) h))

-- ---- accesses that are apart

-- the least of the ranges is below the other
apart_numbers : (a y b p q s t : ℕ) → Agree a (b + p) → Agree y (b + q) → p < 2 ^ 32 → q < 2 ^ 32 → a + s ≤ 2 ^ 32 → y + t ≤ 2 ^ 32
    → s ≤ (q + (2 ^ 32 - p)) % 2 ^ 32 → t ≤ (p + (2 ^ 32 - q)) % 2 ^ 32 → (a + s ≤ y) ⊎ (y + t ≤ a)
apart_numbers a y b p q s t h k hp hq ha hy i j = grind (arith, h, k, hp, hq, ha, hy, i, j)

not_meet : (p q : ℕ) (wp wq : Width) → ranges_meet p wp q wq ≡ false → (size wp ≤ minus q p) × (size wq ≤ minus p q)
not_meet p q wp wq h = grind (arith, h)

pub apart_accesses : (a y b p q : ℕ) (wp wq : Width) → Agree a (b + p) → Agree y (b + q) → p < 2 ^ 32 → q < 2 ^ 32 → a + size wp ≤ 2 ^ 32 → y + size wq ≤ 2 ^ 32
    → ranges_meet p wp q wq ≡ false → (a + size wp ≤ y) ⊎ (y + size wq ≤ a)
apart_accesses a y b p q wp wq h k hp hq ha hy m =
    let n = not_meet p q wp wq m in apart_numbers a y b p q (size wp) (size wq) h k hp hq ha hy n.0 n.1

-- ---- what is well placed

pub placed_within : (width : Width) (a n : ℕ) → misplaced width a n ≡ None → a + size width ≤ n
unfolding misplaced
placed_within width a n h = grind (arith, h)

pub size_some : (width : Width) → 1 ≤ size width
size_some B1 = omega arith
size_some B2 = omega arith
size_some B4 = omega arith
