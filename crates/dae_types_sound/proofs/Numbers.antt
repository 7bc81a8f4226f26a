-- Alignment, and parts of tests.
use Rattle.std.proofs.Common.{◌≡◌, ℕ, ◌+◌, ◌*◌, ◌/◌, ◌%◌, ◌^◌, ◌≤◌, true, ◌&&◌, ap, sym, ◌∙◌, arith}
use Rattle.std.proofs.lemmas.Bool.{and_from, eqb-true, leb-true, eq-eqb, le-leb}
use Rattle.std.proofs.lemmas.Nat.{div-add-mod', mul-mod_second}
use Rattle.std.specs.Prelude.{nat_eq, nat_le}
use Rattle.dae_base.specs.Words.{plus, size}
use Rattle.dae_base.specs.declared.Width.{Width}
use Rattle.dae_base.specs.declared.Width.TheVariants.{B1, B2, B4}
use Rattle.dae_base.proofs.Laws.{and_first, and_second}
use Rattle.dae_types_kinds.specs.declared.types.Layout.{Layout}
use Rattle.dae_program.specs.Lawful.{is_good}

-- a multiple of a multiple
multiple : (a b s : ℕ) → a % b ≡ 0 → b % s ≡ 0 → a % s ≡ (a / b * 0) % s
multiple a b s h g =
    let whole : a / b * b ≡ a = omega (arith, div-add-mod' a b, h) in
    sym (ap (λ n. n % s) whole) ∙ sym (mul-mod_second (a / b) b s) ∙ ap (λ r. (a / b * r) % s) g

nothing_times : (n : ℕ) → n * 0 ≡ 0
nothing_times n = omega arith

aligned_to : (width : Width) (a b : ℕ) → a % b ≡ 0 → b % size width ≡ 0 → a % size width ≡ 0
aligned_to B1 a b h g = omega arith
aligned_to B2 a b h g = multiple a b 2 h g ∙ ap (λ n. n % 2) (nothing_times (a / b))
aligned_to B4 a b h g = multiple a b 4 h g ∙ ap (λ n. n % 4) (nothing_times (a / b))

sum_aligned : (width : Width) (a k : ℕ) → a % size width ≡ 0 → k % size width ≡ 0 → (a + k) % size width ≡ 0
sum_aligned B1 a k h g = omega arith
sum_aligned B2 a k h g = omega (arith, h, g)
sum_aligned B4 a k h g = omega (arith, h, g)

-- an access within an object that has room is a good one
pub good_within : (width : Width) (a k memory : ℕ) (l : Layout) → a % l.align ≡ 0 → 16 ≤ a → a + l.size ≤ memory → memory ≤ 2 ^ 26 → ((nat_eq (l.align % size width) 0 && nat_eq (k % size width) 0) && nat_le (k + size width) l.size) ≡ true → is_good width (plus a k) memory ≡ true
good_within width a k memory l aligned low fits small h =
    let suits = and_first (nat_eq (l.align % size width) 0 && nat_eq (k % size width) 0) (nat_le (k + size width) l.size) h in
    let room : k + size width ≤ l.size = leb-true (k + size width) l.size (and_second (nat_eq (l.align % size width) 0 && nat_eq (k % size width) 0) (nat_le (k + size width) l.size) h) in
    let whole : plus a k ≡ a + k = omega (arith, room, fits, small) in
    let even : (a + k) % size width ≡ 0 = sum_aligned width a k (aligned_to width a l.align aligned (eqb-true _ 0 (and_first _ _ suits))) (eqb-true _ 0 (and_second _ _ suits)) in
    rw whole (and_from (nat_eq ((a + k) % size width) 0) (nat_le 16 (a + k) && nat_le (a + k + size width) memory) (eq-eqb _ 0 even)
    (and_from (nat_le 16 (a + k)) (nat_le (a + k + size width) memory) (le-leb 16 (a + k) (omega (arith, low))) (le-leb (a + k + size width) memory (omega (arith, room, fits)))))
