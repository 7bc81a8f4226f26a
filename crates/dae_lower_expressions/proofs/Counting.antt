-- Numbers of assignments tell what is assigned.
use Rattle.std.proofs.Common.{◌≡◌, ℕ, ◌+◌, Bool, true, false, not, ◌||◌, nat_eq, if◌then◌else◌, refl, ap, sym, ◌∙◌, arith, add-zero, zero-add}
use Rattle.std.proofs.lemmas.Bool.Decides.{nat_tests}
use Rattle.dae_lower.specs.Lowering.{or, assigned, assigned_in, assigned_target, assigned_all}
use Rattle.dae_lower_maker.specs.Counting.{MarkCounts, never, both, is_counted, Changes}
use Rattle.dae_lower_maker.specs.declared.later.Change.{Change}
use Rattle.dae_lower_maker.specs.declared.later.Change.TheVariants.{Add, Remove}
use Rattle.dae_lower_expressions.specs.Assignments.{assignments, target_assignments, all_assignments}
use Rattle.dae_program.specs.Trees.{Expression, Target, Expressions, Number, Address, Frame, Variable, Read, Convert, Not, Binary, Compare, And, Or, Conditional, Comma, Assign, Update, Step, Call, Putchar, Exit, Abort, InVariable, AtAddress, no_expressions, expression_then}

-- ---- sums

pub same_counts : {A : Type 0} (c d : ℕ → A) → ((v : ℕ) → c v ≡ d v) → c ≡ d
same_counts c d h = λ i v. h v i

swapped : (m n k : ℕ) → m + (n + k) ≡ (m + k) + n
swapped m n k = omega arith

pub with_never : (c : MarkCounts) → both c never ≡ c
with_never c = same_counts (both c never) c (λ v. add-zero (c v))

pub never_with : (c : MarkCounts) → both never c ≡ c
never_with c = same_counts (both never c) c (λ v. zero-add (c v))

together : (m n k : ℕ) → m + (n + k) ≡ (m + n) + k
together m n k = omega arith

pub parts_together : (c d e : MarkCounts) → both c (both d e) ≡ both (both c d) e
parts_together c d e = same_counts (both c (both d e)) (both (both c d) e) (λ v. together (c v) (d v) (e v))

pub part_last : (c d e : MarkCounts) → both c (both d e) ≡ both (both c e) d
part_last c d e = same_counts (both c (both d e)) (both (both c e) d) (λ v. swapped (c v) (d v) (e v))

-- ---- sets

sum_isnt_zero : (m n : ℕ) → not (nat_eq (m + n) 0) ≡ (not (nat_eq m 0) || not (nat_eq n 0))
sum_isnt_zero m n = by (nat_eq m 0) (nat_eq n 0) refl refl where
  by : (a b : Bool) → nat_eq m 0 ≡ a → nat_eq n 0 ≡ b → not (nat_eq (m + n) 0) ≡ (not a || not b)
  by true true h k = let e : nat_eq (m + n) 0 ≡ true = grind (arith, nat_tests, h, k) in ap not e
  by true false h k = let e : nat_eq (m + n) 0 ≡ false = grind (arith, nat_tests, h, k) in ap not e
  by false b h k = let e : nat_eq (m + n) 0 ≡ false = grind (arith, nat_tests, h, k) in ap not e

pub counted_both : (c d : MarkCounts) → is_counted (both c d) ≡ or (is_counted c) (is_counted d)
counted_both c d = same_counts (is_counted (both c d)) (or (is_counted c) (is_counted d)) (λ v. sum_isnt_zero (c v) (d v))

bit_isnt_zero : (b : Bool) → not (nat_eq (if b then 1 else 0) 0) ≡ b
bit_isnt_zero true = refl
bit_isnt_zero false = refl

or_false : (b : Bool) → b ≡ (b || false)
or_false true = refl
or_false false = refl

target_last : (i a t : Bool) → ((i || t) || a) ≡ (i || (a || t))
target_last true a t = refl
target_last false true true = refl
target_last false true false = refl
target_last false false true = refl
target_last false false false = refl

or_both : (f g : Bool) (m n : ℕ) → not (nat_eq m 0) ≡ f → not (nat_eq n 0) ≡ g → not (nat_eq (m + n) 0) ≡ (f || g)
or_both f g m n h k = sum_isnt_zero m n ∙ ap (λ b. b || not (nat_eq n 0)) h ∙ ap (λ b. f || b) k

mutual
  told : (e : Expression) (v : ℕ) → is_counted (assignments e) v ≡ assigned e v
  told (Number k) v = refl
  told (Address object offset) v = refl
  told (Frame p offset) v = refl
  told (Variable p u) v = refl
  told (Read p kind checked a) v = told a v
  told (Convert p kind a) v = told a v
  told (Not p a) v = told a v
  told (Binary p operator a b) v = or_both (assigned a v) (assigned b v) (assignments a v) (assignments b v) (told a v) (told b v)
  told (Compare p comparison turned a b) v = or_both (assigned a v) (assigned b v) (assignments a v) (assignments b v) (told a v) (told b v)
  told (And p a b) v = or_both (assigned a v) (assigned b v) (assignments a v) (assignments b v) (told a v) (told b v)
  told (Or p a b) v = or_both (assigned a v) (assigned b v) (assignments a v) (assignments b v) (told a v) (told b v)
  told (Conditional p a b c) v =
      or_both (assigned a v) (assigned b v || assigned c v) (assignments a v) (assignments b v + assignments c v) (told a v)
      (or_both (assigned b v) (assigned c v) (assignments b v) (assignments c v) (told b v) (told c v))
  told (Comma a b) v = or_both (assigned a v) (assigned b v) (assignments a v) (assignments b v) (told a v) (told b v)
  told (Assign p kind t a) v =
      or_both (assigned_in t v || assigned_target t v) (assigned a v) (target_assignments t v) (assignments a v) (told_target t v) (told a v)
      ∙ target_last (assigned_in t v) (assigned a v) (assigned_target t v)
  told (Update p kind t operator a) v =
      or_both (assigned_in t v || assigned_target t v) (assigned a v) (target_assignments t v) (assignments a v) (told_target t v) (told a v)
      ∙ target_last (assigned_in t v) (assigned a v) (assigned_target t v)
  told (Step p kind t change new) v = told_target t v
  told (Call p f xs) v = told_all xs v
  told (Putchar p a) v = told a v
  told (Exit p a) v = told a v
  told (Abort p) v = refl

  told_target : (t : Target) (v : ℕ) → is_counted (target_assignments t) v ≡ (assigned_in t v || assigned_target t v)
  told_target (InVariable u) v = bit_isnt_zero (nat_eq v u)
  told_target (AtAddress checked a) v = told a v ∙ or_false (assigned a v)

  told_all : (xs : Expressions) (v : ℕ) → is_counted (all_assignments xs) v ≡ assigned_all xs v
  told_all no_expressions v = refl
  told_all (expression_then a xs) v = or_both (assigned a v) (assigned_all xs v) (assignments a v) (all_assignments xs v) (told a v) (told_all xs v)

pub assigned_told : (e : Expression) → is_counted (assignments e) ≡ assigned e
assigned_told e = same_counts (is_counted (assignments e)) (assigned e) (told e)

pub both_told : (a b : Expression) → is_counted (both (assignments a) (assignments b)) ≡ or (assigned a) (assigned b)
both_told a b = counted_both (assignments a) (assignments b) ∙ ap (λ s. or s (is_counted (assignments b))) (assigned_told a) ∙ ap (or (assigned a)) (assigned_told b)

pub all_told : (xs : Expressions) → is_counted (all_assignments xs) ≡ assigned_all xs
all_told xs = same_counts (is_counted (all_assignments xs)) (assigned_all xs) (told_all xs)

-- ---- changes

pub never_changed : (change : Change) (c : MarkCounts) → Changes change never c c
never_changed Add c = sym (with_never c)
never_changed Remove c = λ rest h. h ∙ with_never rest

associated : (m n k : ℕ) → (m + n) + k ≡ m + (n + k)
associated m n k = omega arith

-- one part after the other
pub both_changed : (change : Change) (some others a b c : MarkCounts) → Changes change some a b → Changes change others b c → Changes change (both some others) a c
both_changed Add some others a b c h k = k ∙ ap (λ d. both d others) h ∙ same_counts (both (both a some) others) (both a (both some others)) (λ v. associated (a v) (some v) (others v))
both_changed Remove some others a b c h k = λ rest e. k rest (h (both rest others) (e ∙ part_last rest some others))

-- the first items of a list, and then the others
pub record Counted (change : Change) (xs : Expressions) (old now : MarkCounts) (ys : Expressions) : Type 0 where
  pub follows : (new : MarkCounts) → Changes change (all_assignments ys) now new → Changes change (all_assignments xs) old new

pub first_counted : (change : Change) (xs : Expressions) (old : MarkCounts) → Counted change xs old old xs
first_counted change xs old = record { follows = λ new h. h }

pub next_counted : (change : Change) (xs : Expressions) (old now new : MarkCounts) (y : Expression) (ys zs : Expressions) → zs ≡ expression_then y ys → Counted change xs old now zs → Changes change (assignments y) now new → Counted change xs old new ys
next_counted change xs old now new y ys zs e h k = record {
  follows = λ last g. h.follows last (rw e (both_changed change (assignments y) (all_assignments ys) now new last k g));
}

pub last_counted : (change : Change) (xs : Expressions) (old now : MarkCounts) (ys : Expressions) → ys ≡ no_expressions → Counted change xs old now ys → Changes change (all_assignments xs) old now
last_counted change xs old now ys e h = h.follows now (rw e (never_changed change now))
