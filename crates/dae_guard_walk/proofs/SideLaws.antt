-- What an instruction that computes leaves.
use Rattle.std.proofs.Common.{◌≡◌, ℕ, ◌+◌, ◌-◌, ◌*◌, ◌/◌, ◌%◌, ◌^◌, ◌<◌, ◌≤◌, Bool, true, false, not, ◌&&◌, List, ◌∷◌, map, ◌≢◌, refl, ap, sym, ◌∙◌, subst, arith, []}
use Rattle.std.specs.Prelude.{Option, Some, None, option_map, nat_eq, if◌then◌else◌}
use Rattle.std.proofs.lemmas.Bool.Decides.{nat_tests}
use Rattle.std.proofs.lemmas.Nat.{mul-le}
use Rattle.dae_base.specs.Words.{word, plus}
use Rattle.dae_encode.specs.declared.Inst.{Inst}
use Rattle.dae_encode.specs.declared.Inst.TheVariants.{Jalr}
use Rattle.dae_encode.specs.Instructions.{next}
use Rattle.dae_ranges.specs.declared.Range.{Range}
use Rattle.dae_ranges.specs.Ranges.{Has, single, is_single, all_from, each, decided}
use Rattle.dae_ranges.proofs.Laws.{each_has, same_each}
use Rattle.dae_guard.specs.Moves as moves
use Rattle.dae_guard.specs.Moves.{shape, test, order, against, narrowed, told, either, outcomes_by}
use Rattle.dae_guard_walk.specs.declared.kinds.TestInstruction.{TestInstruction}
use Rattle.dae_guard_walk.specs.declared.sides.ComputeFields.{ComputeFields}
use Rattle.dae_guard_walk.specs.Kinds.{IsComparison, compares, second_word}
use Rattle.dae_guard.specs.Kept.{IsProper}
use Rattle.dae_guard_walk.specs.Steps.{Left, told_of, told_by_test, either_told, tested_by}

-- ---- ranges of registers

-- ---- single words

pub decided_second : (f : ℕ → ℕ → Bool) (x y : Range) → is_single y ≡ true → decided f x y ≡ decided f x (single y.lo)
unfolding all_from
decided_second f x y h =
    rw (
      same_each (λ v. each (f v) y) (λ v. each (f v) (single y.lo)) x.lo x.step x.count (λ v. here (f v)),
      same_each (λ v. each (λ w. not (f v w)) y) (λ v. each (λ w. not (f v w)) (single y.lo)) x.lo x.step x.count (λ v. here (λ w. not (f v w))),
    ) refl
  where
    none : y.count ≡ 0
    none = grind (arith, nat_tests)

    here : (t : ℕ → Bool) → each t y ≡ each t (single y.lo)
    here t = rw none refl

pub decided_first : (f : ℕ → ℕ → Bool) (x y : Range) → is_single x ≡ true → decided f x y ≡ decided f (single x.lo) y
unfolding all_from
decided_first f x y h = rw none refl
  where
    none : x.count ≡ 0
    none = grind (arith, nat_tests)

-- ---- tests

told_is : (i : Inst) (k : TestInstruction) (c rd : ℕ) (rs : List Range) (b : Bool) → IsComparison i k → told_of rd (told i c rs b) ≡ told_by_test k c rd rs b
told_is i k c rd rs b h = rw (h.goes c b, h.told b) refl

either_is : (i : Inst) (k : TestInstruction) (c : ℕ) (f : ComputeFields) (rs : List Range) (x z : Range) (o : Option Bool) → IsComparison i k
    → map (told_of f.target) (either i c f.first f.second x z rs o) ≡ either_told k c f rs x z o
either_is i k c f rs x z (Some b) h = ap (λ (l : Left). l ∷ []) (told_is i k c f.target rs b h)
either_is i k c f rs x z None h =
    let no = told_is i k c f.target (narrowed (order i) false f.first f.second x z rs) false h in
    let yes = told_is i k c f.target (narrowed (order i) true f.first f.second x z rs) true h in
    rw (no, yes, h.by_order) refl

pub tests_are : (i : Inst) (k : TestInstruction) (c : ℕ) (f : ComputeFields) (rs : List Range) (x y : Range) → IsComparison i k
    → option_map (map (told_of f.target)) (outcomes_by (shape i) i c f.first f.second x y rs) ≡ Some (tested_by k c f rs x (second_word k.immediate y))
tests_are i k c f rs x y h =
    let same : decided (test i) x (against i y) ≡ decided (compares k.test) x (second_word k.immediate y) = h.by_test x y ∙ ap (decided (compares k.test) x) (h.by_second y) in
    let one = either_is i k c f rs x (against i y) (decided (test i) x (against i y)) h in
    rw h.tests (ap Some (one ∙ rw (same, h.by_second y) refl))

-- ---- jumps and others

-- ---- targets

-- of three words no two pairs can lead to one target
far_apart : (a s w : ℕ) → 0 < s → a + 2 * s < 2 ^ 32 → (a + s + w) % 2 ^ 32 / 2 * 2 ≡ (a + w) % 2 ^ 32 / 2 * 2 → (a + 2 * s + w) % 2 ^ 32 / 2 * 2 ≡ (a + w) % 2 ^ 32 / 2 * 2 → ⊥
far_apart a s w p l e f = omega arith

times_one : (s : ℕ) → 1 * s ≡ s
times_one s = omega arith

has_word : (r : Range) (k : ℕ) → k ≤ r.count → IsProper r → Has r (r.lo + k * r.step)
has_word r k l h =
    let w = h.words in let m : k * r.step ≤ r.count * r.step = mul-le k r.step r.count r.step l (omega arith) in
    record { at = k; fits = l; is = refl; small = omega arith }

-- a base of more than two words leads to more than one target
pub many_targets : (i : Inst) (c : ℕ) (x : Range) → shape i ≡ moves.Jumps → IsProper x → 1 < x.count → each (λ v. nat_eq (next i c v 0) (next i c x.lo 0)) x ≡ false
unfolding shape next
many_targets (Jalr rd b imm) c x h p l = by (each (λ v. nat_eq (plus v (word imm) / 2 * 2) (plus x.lo (word imm) / 2 * 2)) x) refl
  where
    at : (k : ℕ) → k ≤ x.count → each (λ v. nat_eq (plus v (word imm) / 2 * 2) (plus x.lo (word imm) / 2 * 2)) x ≡ true → plus (x.lo + k * x.step) (word imm) / 2 * 2 ≡ plus x.lo (word imm) / 2 * 2
    at k m e = let t = each_has (λ v. nat_eq (plus v (word imm) / 2 * 2) (plus x.lo (word imm) / 2 * 2)) x (x.lo + k * x.step) e (has_word x k m p) in grind (arith, nat_tests)

    by : (b : Bool) → each (λ v. nat_eq (plus v (word imm) / 2 * 2) (plus x.lo (word imm) / 2 * 2)) x ≡ b → b ≡ false
    by false e = refl
    by true e =
        let s = p.steps in let w = p.words in
        let m : 2 * x.step ≤ x.count * x.step = mul-le 2 x.step x.count x.step (omega arith) (omega arith) in
        let one : (x.lo + x.step + word imm) % 2 ^ 32 / 2 * 2 ≡ (x.lo + word imm) % 2 ^ 32 / 2 * 2 = subst (λ z. (x.lo + z + word imm) % 2 ^ 32 / 2 * 2 ≡ (x.lo + word imm) % 2 ^ 32 / 2 * 2) (times_one x.step) (at 1 (omega arith) e) in
        absurd (far_apart x.lo x.step (word imm) s (omega arith) one (at 2 (omega arith) e))
many_targets i c x h p l = absurd cc

turned : (a b : ℕ) → nat_eq a b ≡ nat_eq b a
turned a b = by (nat_eq a b) (nat_eq b a) refl refl
  where
    by : (p q : Bool) → nat_eq a b ≡ p → nat_eq b a ≡ q → p ≡ q
    by true true e f = refl
    by true false e f = absurd (let same : a ≡ b = grind (arith, nat_tests) in let other : b ≢ a = grind (arith, nat_tests) in other (sym same))
    by false true e f = absurd (let same : b ≡ a = grind (arith, nat_tests) in let other : a ≢ b = grind (arith, nat_tests) in other (sym same))
    by false false e f = refl

pub one_target : (i : Inst) (c : ℕ) (x : Range) → x.count ≡ 0 → each (λ v. nat_eq (next i c v 0) (next i c x.lo 0)) x ≡ true
unfolding all_from
one_target i c x h = rw h (grind (arith, nat_tests))

pub two_targets : (i : Inst) (c : ℕ) (x : Range) → x.count ≡ 1 → each (λ v. nat_eq (next i c v 0) (next i c x.lo 0)) x ≡ nat_eq (next i c x.lo 0) (next i c (x.lo + x.step) 0)
unfolding all_from
two_targets i c x h = rw h (first (nat_eq (next i c x.lo 0) (next i c x.lo 0)) (nat_eq (next i c (x.lo + x.step) 0) (next i c x.lo 0)) (grind (arith, nat_tests)) ∙ turned (next i c (x.lo + x.step) 0) (next i c x.lo 0))
  where
    first : (a b : Bool) → a ≡ true → (a && b) ≡ b
    first true b e = refl
    first false b e = absurd cc

-- an instruction that tests, by its parts
pub tests_so : (i : Inst) (k : TestInstruction) (c : ℕ) (f : ComputeFields) (rs : List Range) (x y z a b : Range) (l : List Left) → IsComparison i k → x ≡ a → y ≡ b
    → z ≡ second_word k.immediate y → l ≡ tested_by k c f rs x z
    → Some l ≡ option_map (map (told_of f.target)) (outcomes_by (shape i) i c f.first f.second a b rs)
tests_so i k c f rs x y z a b l h e g m n =
    ap Some (n ∙ ap (tested_by k c f rs x) m)
    ∙ (sym (tests_are i k c f rs x y h) ∙ rw (e, g) refl)
