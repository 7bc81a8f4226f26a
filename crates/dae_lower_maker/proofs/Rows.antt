-- What is appended stands behind.
use Rattle.std.proofs.Common.{◌≡◌, ◌⊎◌, ℕ, ◌+◌, ◌-◌, ◌^◌, ◌<◌, ◌≤◌, Bool, true, false, nat_lt, nat_le, List, [], ◌∷◌, ◌++◌, inl, inr, refl, ap, sym, ◌∙◌, subst, arith}
use Rattle.std.proofs.lemmas.Bool.{false≢true}
use Rattle.std.proofs.lemmas.Bool.Decides.{nat_tests}
use Rattle.std.specs.Prelude.{if◌then◌else◌}
use Rattle.dae_base.specs.declared.Place.{Place}
use Rattle.dae_ir.specs.Code.{Done, Do, If, Loop}
use Rattle.dae_ir.specs.Form.{Form, form_of, before}
use Rattle.dae_ir.specs.declared.form.Item.{Item}
use Rattle.dae_ir.specs.declared.form.Operand.{Operand}
use Rattle.dae_ir.specs.declared.form.Operand.TheVariants.{Variable}
use Rattle.dae_ir.specs.declared.form.Statement.{Statement, Simple, If', Loop'}
use Rattle.dae_lower.specs.Lowering.{Made, ◌≫◌, nothing, only, one, checks, ◌⨾◌}
use Rattle.dae_lower_maker.specs.Making.{CodeSoFar, Writes, Wrote}
use Rattle.dae_lower_maker.specs.Numbers.{late, late_in, number_after}

pub behind_behind : (a b c : Form) → ((a ⨾ b) ⨾ c) ≡ (a ⨾ (b ⨾ c))
behind_behind Done b c = refl
behind_behind (Do p x k) b c = ap (λ f. Do p x f) (behind_behind k b c)
behind_behind (If p t f g k) b c = ap (λ h. If p t f g h) (behind_behind k b c)
behind_behind (Loop p f g k) b c = ap (λ h. Loop p f g h) (behind_behind k b c)

pub behind_done : (a : Form) → (a ⨾ Done) ≡ a
behind_done Done = refl
behind_done (Do p x k) = ap (λ f. Do p x f) (behind_done k)
behind_done (If p t f g k) = ap (λ h. If p t f g h) (behind_done k)
behind_done (Loop p f g k) = ap (λ h. Loop p f g h) (behind_done k)

before_then : (s : Statement) (k c : Form) → before s (k ⨾ c) ≡ (before s k ⨾ c)
before_then (Simple place item) k c = refl
before_then (If' place test s p t q) k c = refl
before_then (Loop' place s body t step) k c = refl

pub form_of_pushed : (xs : List Statement) (s : Statement) → form_of (xs ++ s ∷ []) ≡ (form_of xs ⨾ before s Done)
form_of_pushed [] s = refl
form_of_pushed (x ∷ xs) s = ap (λ f. before x f) (form_of_pushed xs s) ∙ before_then x (form_of xs) (before s Done)

-- ---- numbers

pub after_grows : (n : ℕ) → n ≤ number_after n
after_grows n = by (nat_lt n (2 ^ 32 - 1)) where
  by : (b : Bool) → n ≤ (if b then n + 1 else n)
  by true = omega arith
  by false = omega arith

pub after_most : (n : ℕ) → number_after n ≤ n + 1
after_most n = by (nat_lt n (2 ^ 32 - 1)) where
  by : (b : Bool) → (if b then n + 1 else n) ≤ n + 1
  by true = omega arith
  by false = omega arith

pub after_fits : (n : ℕ) → number_after n < 2 ^ 32 - 1 → number_after n ≡ n + 1
after_fits n lt = by (nat_lt n (2 ^ 32 - 1)) refl lt where
  by : (b : Bool) → nat_lt n (2 ^ 32 - 1) ≡ b → (if b then n + 1 else n) < 2 ^ 32 - 1 → (if b then n + 1 else n) ≡ n + 1
  by true e lt = refl
  by false e lt = let t : nat_lt n (2 ^ 32 - 1) ≡ true = grind (arith, nat_tests, lt) in absurd (false≢true (sym e ∙ t))

pub after_full : (n : ℕ) → 2 ^ 32 - 1 ≤ number_after n → 2 ^ 32 - 1 ≤ n + 1
after_full n le = by (nat_lt n (2 ^ 32 - 1)) le where
  by : (b : Bool) → 2 ^ 32 - 1 ≤ (if b then n + 1 else n) → 2 ^ 32 - 1 ≤ n + 1
  by true le = le
  by false le = omega (arith, le)

pub late_there : (v : ℕ) → 2 ^ 32 - 1 ≤ v + 2 → late v ≡ 1
late_there v le = let t : nat_le (2 ^ 32 - 1) (v + 2) ≡ true = grind (arith, nat_tests, le) in by (nat_le (2 ^ 32 - 1) (v + 2)) t where
  by : (b : Bool) → b ≡ true → ◌≡◌ {A = ℕ} (if b then 1 else 0) 1
  by true e = refl
  by false e = absurd (false≢true e)

pub below_or_last : (n : ℕ) → (n < 2 ^ 32 - 1) ⊎ (2 ^ 32 - 1 ≤ n)
below_or_last n = by (nat_lt n (2 ^ 32 - 1)) refl where
  by : (b : Bool) → nat_lt n (2 ^ 32 - 1) ≡ b → (n < 2 ^ 32 - 1) ⊎ (2 ^ 32 - 1 ≤ n)
  by true e = inl (grind (arith, nat_tests, e))
  by false e = inr (grind (arith, nat_tests, e))

pub late_then : (a b : Form) → late_in (a ⨾ b) ≡ late_in a + late_in b
late_then Done b = omega arith
late_then (Do p x k) b = let h = late_then k b in omega (arith, h)
late_then (If p t f g k) b = let h = late_then k b in omega (arith, h)
late_then (Loop p f g k) b = let h = late_then k b in omega (arith, h)

pub late_checks : (f : Bool) (place : Place) (item : Item) (k : Form) → late_in (checks f place item k) ≡ late_in (checks f place item Done) + late_in k
late_checks true place item k = omega arith
late_checks false place item k = omega arith

-- ---- parts

-- one part, and then another
pub parts_written : {X Y Z : Type 0} (first : Made X) (second : Made Y) (all : Made Z) (a b c : CodeSoFar) (x : X) (y : Y) (z : Z) → Writes first a b x → Writes second b c y → (Wrote first a b x → Wrote second b c y → Wrote all a c z)
    → (0 < late_in first.code → 0 < late_in all.code) → (Wrote first a b x → 0 < late_in second.code → 0 < late_in all.code) → Writes all a c z
parts_written {X} {Y} {Z} first second all a b c x y z g h join here there = record {
  grows = omega (arith, g.grows, h.grows);
  fits = λ lt. join (g.fits (omega (arith, h.grows, lt))) (h.fits lt);
  full = λ start over. by start over (below_or_last b.next);
} where
  by : a.next < 2 ^ 32 - 1 → 2 ^ 32 - 1 ≤ c.next → (b.next < 2 ^ 32 - 1) ⊎ (2 ^ 32 - 1 ≤ b.next) → 0 < late_in all.code
  by start over (inl lt) = there (g.fits lt) (h.full lt over)
  by start over (inr le) = here (g.full start le)

-- the same code
pub given_written : {X Y : Type 0} (made : Made X) (all : Made Y) (a b : CodeSoFar) (x : X) (y : Y) → (Wrote made a b x → Wrote all a b y) → all.code ≡ made.code → Writes made a b x → Writes all a b y
given_written made all a b x y more same h = record {
  grows = h.grows;
  fits = λ lt. more (h.fits lt);
  full = λ start over. subst (λ (code : Form). 0 < late_in code) (sym same) (h.full start over);
}

-- the next variable stays
pub exact_written : {Y : Type 0} (what : Made Y) (a b : CodeSoFar) (y : Y) → Wrote what a b y → what.next ≡ a.next → Writes what a b y
exact_written what a b y h same = record {
  grows = omega (arith, h.next, same);
  fits = λ lt. h;
  full = λ start over. absurd (omega (arith, h.next, same, start, over));
}

-- the next variable is set
pub set_written : {Y : Type 0} (what : Made Y) (a b c : CodeSoFar) (y : Y) → Wrote (only what.code (tt {0}) a.next) a b tt → c ≡ record { code = b.code; next = number_after a.next } → y ≡ what.given → what.next ≡ a.next + 1 → late a.next ≤ late_in what.code
    → Writes what a c y
set_written {Y} what a b c y h is given next sets = record {
  grows = subst (λ (n : ℕ). a.next ≤ n) (sym number) (after_grows a.next);
  fits = λ lt. record {
    code = ap (λ (w : CodeSoFar). w.code) is ∙ h.code;
    given = given;
    next = number ∙ after_fits a.next (subst (λ (n : ℕ). n < 2 ^ 32 - 1) number lt) ∙ sym next;
  };
  full = λ start over.
      let more = after_full a.next (subst (λ (n : ℕ). 2 ^ 32 - 1 ≤ n) number over) in
      let one = late_there a.next (omega (arith, more)) in omega (arith, one, sets);
} where
  number : c.next ≡ number_after a.next
  number = ap (λ (w : CodeSoFar). w.next) is

-- a statement
statement_wrote : (xs : List Statement) (n : ℕ) (s : Statement) (code : Form) → before s Done ≡ code → Wrote (only code (tt {0}) n) (record { code = form_of xs; next = n }) (record { code = form_of (xs ++ s ∷ []); next = n }) tt
statement_wrote xs n s code e = record { code = form_of_pushed xs s ∙ ap (λ k. form_of xs ⨾ k) e; given = refl; next = refl }

pub statement_written : (xs : List Statement) (n : ℕ) (s : Statement) (code : Form) → before s Done ≡ code → Writes (only code (tt {0}) n) (record { code = form_of xs; next = n }) (record { code = form_of (xs ++ s ∷ []); next = n }) tt
statement_written xs n s code e = exact_written (only code (tt {0}) n) (record { code = form_of xs; next = n }) (record { code = form_of (xs ++ s ∷ []); next = n }) tt (statement_wrote xs n s code e) refl

-- an item
pub item_wrote : (xs : List Statement) (n : ℕ) (place : Place) (item : Item) → Wrote (only (one place item) (tt {0}) n) (record { code = form_of xs; next = n }) (record { code = form_of (xs ++ Simple place item ∷ []); next = n }) tt
item_wrote xs n place item = statement_wrote xs n (Simple place item) (one place item) refl

-- two items
pub items_wrote : (place : Place) (first second : Item) (a b c : CodeSoFar) → Wrote (only (one place first) (tt {0}) a.next) a b tt → Wrote (only (one place second) (tt {0}) b.next) b c tt → Wrote (only (Do place first (one place second)) (tt {0}) a.next) a c tt
items_wrote place first second a b c h i = record {
  code = i.code ∙ ap (λ k. k ⨾ one place second) h.code ∙ behind_behind a.code (one place first) (one place second);
  given = refl;
  next = i.next ∙ h.next;
}

-- nothing more
pub nothing_written : {Y : Type 0} (a : CodeSoFar) (y : Y) → Writes (nothing y a.next) a a y
nothing_written a y = exact_written (nothing y a.next) a a y (record { code = sym (behind_done a.code); given = refl; next = refl }) refl

checks_then : (f : Bool) (place : Place) (item : Item) (k : Form) → (checks f place item Done ⨾ k) ≡ checks f place item k
checks_then true place item k = refl
checks_then false place item k = refl

-- a check where the flag says so, and then an item that sets the next variable
pub checked_written : (f : Bool) (place : Place) (check : Item) (last : ℕ → Item) (n : ℕ) (a b c : CodeSoFar) (x : Unit {0}) (z : Operand) → a.next ≡ n → Writes (only (checks f place check Done) x a.next) a b x → Writes (only (one place (last b.next)) (Variable b.next) (b.next + 1)) b c z → Writes (only (checks f place check (one place (last n))) (Variable n) (n + 1)) a c z
checked_written f place check last n a b c x z e g k =
    parts_written (only (checks f place check Done) x a.next) (only (one place (last b.next)) (Variable b.next) (b.next + 1)) (only (checks f place check (one place (last n))) (Variable n) (n + 1)) a b c x z z g k
    (λ h i. record {
      code = i.code ∙ ap (λ k. k ⨾ one place (last b.next)) h.code ∙ behind_behind a.code (checks f place check Done) (one place (last b.next)) ∙ ap (λ k. a.code ⨾ k) (checks_then f place check (one place (last b.next)) ∙ ap (λ k. checks f place check (one place (last k))) (h.next ∙ e));
      given = i.given ∙ ap (λ k. Variable k) (h.next ∙ e);
      next = i.next ∙ ap (λ k. k + 1) (h.next ∙ e);
    })
    (λ some. let l = late_checks f place check (one place (last n)) in omega (arith, l, some))
    (λ h some. let l = late_checks f place check (one place (last n)) in let same = ap (λ k. late_in (one place (last k))) (h.next ∙ e) in omega (arith, l, same, some))

-- a check where the flag says so, and then an item
pub checked_item : {Y : Type 0} (f : Bool) (place : Place) (check last : Item) (a b c : CodeSoFar) (x z : Unit {0}) (y : Y) → Writes (only (checks f place check Done) x a.next) a b x → Writes (only (one place last) z b.next) b c z → Writes (only (checks f place check (one place last)) y a.next) a c y
checked_item f place check last a b c x z y g k =
    parts_written (only (checks f place check Done) x a.next) (only (one place last) z b.next) (only (checks f place check (one place last)) y a.next) a b c x z y g k
    (λ h i. record {
      code = i.code ∙ ap (λ k. k ⨾ one place last) h.code ∙ behind_behind a.code (checks f place check Done) (one place last) ∙ ap (λ k. a.code ⨾ k) (checks_then f place check (one place last));
      given = refl;
      next = i.next ∙ h.next;
    })
    (λ some. let l = late_checks f place check (one place last) in omega (arith, l, some))
    (λ h some. let l = late_checks f place check (one place last) in omega (arith, l, some))

-- an item that gives something
pub item_given : {Y : Type 0} (place : Place) (item : Item) (a b : CodeSoFar) (x : Unit {0}) (y : Y) → Writes (only (one place item) x a.next) a b x → Writes (only (one place item) y a.next) a b y
item_given place item a b x y h =
    given_written (only (one place item) x a.next) (only (one place item) y a.next) a b x y (λ h. record { code = h.code; given = refl; next = h.next }) refl h

-- one after the other, of which the second is that behind what the first gives
pub written_so : {X Y : Type 0} (made : Made X) (f : X → ℕ → Made Y) (second : Made Y) (a b c : CodeSoFar) (x : X) (y : Y) → (x ≡ made.given → second ≡ f x b.next) → Writes made a b x → Writes second b c y → Writes (made ≫ f) a c y
written_so {X} {Y} made f second a b c x y same w v =
    parts_written made second (made ≫ f) a b c x y y w v
    (λ g h. record {
      code = h.code ∙ ap (λ k. k ⨾ second.code) g.code ∙ behind_behind a.code made.code second.code ∙ ap (λ k. a.code ⨾ (made.code ⨾ k)) (both g (λ m. m.code));
      given = h.given ∙ both g (λ m. m.given);
      next = h.next ∙ both g (λ m. m.next);
    })
    (λ some. let l = late_then made.code (f made.given made.next).code in omega (arith, l, some))
    (λ g some. let l = late_then made.code (f made.given made.next).code in let same = both g (λ m. late_in m.code) in omega (arith, l, same, some)) where
      both : Wrote made a b x → {A : Type 0} (k : Made Y → A) → k second ≡ k (f made.given made.next)
      both g {A} k = ap k (same g.given) ∙ ap (λ z. k (f z b.next)) g.given ∙ ap (λ n. k (f made.given n)) g.next

-- one after the other
pub written_on : {X Y : Type 0} (made : Made X) (f : X → ℕ → Made Y) (a b c : CodeSoFar) (x : X) (y : Y) → Writes made a b x → Writes (f x b.next) b c y → Writes (made ≫ f) a c y
written_on made f a b c x y = written_so made f (f x b.next) a b c x y (λ e. refl)

-- one after the other, of which the flag says which is given
pub picked_written : {X : Type 0} (flag : Bool) (made : Made X) (f : X → ℕ → Made X) (a b c : CodeSoFar) (x y : X) → Writes made a b x → Writes (f x b.next) b c y → Writes (made ≫ λ x n. f x n ≫ λ y. nothing (if flag then y else x)) a c (if flag then y else x)
picked_written flag made f a b c x y g h =
    written_on made (λ x n. f x n ≫ λ y. nothing (if flag then y else x)) a b c x (if flag then y else x) g
    (written_on (f x b.next) (λ y. nothing (if flag then y else x)) b c c y (if flag then y else x) h (nothing_written c (if flag then y else x)))
