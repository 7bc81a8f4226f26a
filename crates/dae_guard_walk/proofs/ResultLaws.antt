-- Decisions, what a test that is not decided tells, and results.
use Rattle.std.proofs.Common.{◌≡◌, ℕ, zero, suc, ◌+◌, ◌-◌, ◌*◌, ◌%◌, ◌^◌, ◌<◌, ◌≤◌, ℤ, pos, Bool, true, false, not, ◌&&◌, refl, ap, sym, ◌∙◌, subst, arith}
use Rattle.std.specs.Prelude.{Option, Some, None, IfSome, option_map, nat_lt, nat_le, nat_eq, int_lt, unwrap_or, if◌then◌else◌}
use Rattle.std.proofs.lemmas.Bool.Decides.{nat_tests}
use Rattle.std.proofs.lemmas.Nat.{mul-le}
use Rattle.dae_base.specs.Words.{word, signed, plus}
use Rattle.dae_encode.specs.declared.Inst.{Inst}
use Rattle.dae_encode.specs.declared.Inst.TheVariants.{Addi, Add, Slli, Andi, Jalr}
use Rattle.dae_ranges.specs.declared.Range.{Range}
use Rattle.dae_ranges.specs.Ranges.{single, any_word, is_single, highest, decided, raised, scaled, shifted}
use Rattle.dae_ranges.proofs.Laws.{below_by, decided_not}
use Rattle.dae_guard.specs.Moves.{spread}
use Rattle.dae_guard_walk.specs.declared.kinds.TestKind.{TestKind}
use Rattle.dae_guard_walk.specs.declared.kinds.TestKind.TheVariants.{Equal, Unequal, Below, NotBelow, SignedBelow, NotSignedBelow}
use Rattle.dae_guard_walk.specs.Kinds.{compares}
use Rattle.dae_guard.specs.Kept.{IsProper}
use Rattle.dae_guard_walk.specs.Spots.{ShiftsOne}
use Rattle.dae_guard_walk.proofs.ProperLaws.{proper_shifted, proper_scaled, or_any}

-- ---- decisions

low_small : (r : Range) → IsProper r → r.lo < 2 ^ 32
low_small r h = let w = h.words in omega arith

-- the answer of a test turned round
pub turned_is : (f : ℕ → ℕ → Bool) (x y : Range) (o p : Option Bool) → IsProper x → IsProper y → o ≡ decided f x y → p ≡ option_map not o
    → p ≡ decided (λ v w. not (f v w)) x y
turned_is f x y o p h k e g = g ∙ (ap (option_map not) e ∙ sym (decided_not f x y (low_small x h) (low_small y k)))

map_none : (o : Option Bool) → option_map not o ≡ None → o ≡ None
map_none None e = refl
map_none (Some b) e = absurd cc

open_by : (a b : Bool) → (if a then Some true else (if b then Some false else None)) ≡ None → (a ≡ false) × (b ≡ false)
open_by true b e = absurd cc
open_by false true e = absurd cc
open_by false false e = (refl, refl)

-- where the order beside a number is open, there are words below it and others
pub open_first : (x : Range) (n : ℕ) → decided (λ v w. nat_lt v w) x (single n) ≡ None → (x.lo < n) × (n ≤ highest x)
open_first x n e =
    let o = open_by (nat_lt (highest x) n) (nat_le (n + 0 * 1) x.lo) (sym (below_by x (single n)) ∙ e) in
    let a = o.0 in let b = o.1 in
    (grind (arith, nat_tests), grind (arith, nat_tests))

pub open_second : (x : Range) (n : ℕ) → decided (λ v w. nat_lt v w) (single n) x ≡ None → (x.lo < n + 1) × (n + 1 ≤ highest x)
open_second x n e =
    let o = open_by (nat_lt (n + 0 * 1) x.lo) (nat_le (highest x) n) (sym (below_by (single n) x) ∙ e) in
    let a = o.0 in let b = o.1 in
    (grind (arith, nat_tests), grind (arith, nat_tests))

-- the same where the test is turned round
pub open_first_not : (x : Range) (n : ℕ) → n < 2 ^ 32 → IsProper x → decided (λ v w. not (nat_lt v w)) x (single n) ≡ None → (x.lo < n) × (n ≤ highest x)
open_first_not x n l h e =
    open_first x n (map_none (decided (λ v w. nat_lt v w) x (single n)) (sym (decided_not (λ v w. nat_lt v w) x (single n) (low_small x h) l) ∙ e))

pub open_second_not : (x : Range) (n : ℕ) → n < 2 ^ 32 → IsProper x → decided (λ v w. not (nat_lt v w)) (single n) x ≡ None → (x.lo < n + 1) × (n + 1 ≤ highest x)
open_second_not x n l h e =
    open_second x n (map_none (decided (λ v w. nat_lt v w) (single n) x) (sym (decided_not (λ v w. nat_lt v w) (single n) x l (low_small x h)) ∙ e))

-- a test by the order of numbers
abbrev pub Orders : TestKind → Type 0
Orders Below = Unit {0}
Orders NotBelow = Unit {0}
Orders Equal = ⊥
Orders Unequal = ⊥
Orders SignedBelow = ⊥
Orders NotSignedBelow = ⊥

pub cut_first : (t : TestKind) (x : Range) (n : ℕ) → n < 2 ^ 32 → IsProper x → Orders t → decided (compares t) x (single n) ≡ None → (x.lo < n) × (n ≤ highest x)
cut_first Below x n l h o e = open_first x n e
cut_first NotBelow x n l h o e = open_first_not x n l h e
cut_first Equal x n l h o e = absurd o
cut_first Unequal x n l h o e = absurd o
cut_first SignedBelow x n l h o e = absurd o
cut_first NotSignedBelow x n l h o e = absurd o

pub cut_second : (t : TestKind) (x : Range) (n : ℕ) → n < 2 ^ 32 → IsProper x → Orders t → decided (compares t) (single n) x ≡ None → (x.lo < n + 1) × (n + 1 ≤ highest x)
cut_second Below x n l h o e = open_second x n e
cut_second NotBelow x n l h o e = open_second_not x n l h e
cut_second Equal x n l h o e = absurd o
cut_second Unequal x n l h o e = absurd o
cut_second SignedBelow x n l h o e = absurd o
cut_second NotSignedBelow x n l h o e = absurd o

-- ---- results

pub spread_addi : (i : Inst) (rd f : ℕ) (imm : ℤ) (c : ℕ) (x y : Range) → i ≡ Addi rd f imm → spread i c x y ≡ unwrap_or (shifted (word imm) x) any_word
unfolding spread
spread_addi i rd f imm c x y e = rw e refl

pub spread_add : (i : Inst) (rd f g : ℕ) (c : ℕ) (x y : Range) → i ≡ Add rd f g → spread i c x y ≡ (if is_single y then unwrap_or (raised y.lo x) any_word else (if is_single x then unwrap_or (raised x.lo y) any_word else any_word))
unfolding spread
spread_add i rd f g c x y e = rw e refl

pub spread_slli : (i : Inst) (rd f : ℕ) (imm : ℤ) (c : ℕ) (x y : Range) → i ≡ Slli rd f imm → spread i c x y ≡ unwrap_or (scaled (2 ^ (word imm % 32)) x) any_word
unfolding spread
spread_slli i rd f imm c x y e = rw e refl

pub spread_andi : (i : Inst) (rd f : ℕ) (imm : ℤ) (c : ℕ) (x y : Range) → i ≡ Andi rd f imm
    → spread i c x y ≡ (if nat_lt (word imm) (2 ^ 31) then record { lo = 0; step = 1; count = word imm } else any_word)
unfolding spread
spread_andi i rd f imm c x y e = rw e refl

pub spread_jalr : (i : Inst) (rd f : ℕ) (imm : ℤ) (c : ℕ) (x y : Range) → i ≡ Jalr rd f imm → spread i c x y ≡ single (plus c 4)
unfolding spread
spread_jalr i rd f imm c x y e = rw e refl

pub spread_other : (i : Inst) (c : ℕ) (x y : Range) → ((rd f : ℕ) (imm : ℤ) → i ≡ Addi rd f imm → ⊥) → ((rd f g : ℕ) → i ≡ Add rd f g → ⊥)
    → ((rd f : ℕ) (imm : ℤ) → i ≡ Slli rd f imm → ⊥) → ((rd f : ℕ) (imm : ℤ) → i ≡ Andi rd f imm → ⊥) → ((rd f : ℕ) (imm : ℤ) → i ≡ Jalr rd f imm → ⊥)
    → spread i c x y ≡ any_word
unfolding spread
spread_other (Addi rd f imm) c x y a b d e g = absurd (a rd f imm refl)
spread_other (Add rd f h) c x y a b d e g = absurd (b rd f h refl)
spread_other (Slli rd f imm) c x y a b d e g = absurd (d rd f imm refl)
spread_other (Andi rd f imm) c x y a b d e g = absurd (e rd f imm refl)
spread_other (Jalr rd f imm) c x y a b d e g = absurd (g rd f imm refl)
spread_other i c x y a b d e g = refl

-- ---- results by their parts

pub addi_by : (o : Option Range) (r d x : Range) (n m : ℕ) → r ≡ unwrap_or o d → o ≡ shifted n x → d ≡ any_word → n ≡ m → r ≡ unwrap_or (shifted m x) any_word
addi_by o r d x n m h g e f = h ∙ (ap (λ (p : Option Range). unwrap_or p d) (g ∙ ap (λ (k : ℕ). shifted k x) f) ∙ ap (unwrap_or (shifted m x)) e)

pub slli_by : (o : Option Range) (r d x : Range) (p n m : ℕ) → r ≡ unwrap_or o d → o ≡ scaled p x → d ≡ any_word → p ≡ 2 ^ (n % 32) → n ≡ m
    → r ≡ unwrap_or (scaled (2 ^ (m % 32)) x) any_word
slli_by o r d x p n m h g e f k =
    h ∙ (ap (λ (q : Option Range). unwrap_or q d) (g ∙ ap (λ (j : ℕ). scaled j x) (f ∙ ap (λ (j : ℕ). 2 ^ (j % 32)) k)) ∙ ap (unwrap_or (scaled (2 ^ (m % 32)) x)) e)

pub andi_by : (r : Range) (n m : ℕ) → r ≡ (if nat_lt n (2 ^ 31) then record { lo = 0; step = 1; count = n } else any_word) → n ≡ m
    → r ≡ (if nat_lt m (2 ^ 31) then record { lo = 0; step = 1; count = m } else any_word)
andi_by r n m h e = subst (λ (k : ℕ). r ≡ (if nat_lt k (2 ^ 31) then record { lo = 0; step = 1; count = k } else any_word)) e h
