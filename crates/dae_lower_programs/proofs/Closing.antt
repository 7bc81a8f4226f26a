-- The end of a function's code.
use Rattle.std.proofs.Common.{◌≡◌, ℕ, ◌+◌, ◌<◌, ◌≤◌, Bool, true, false, ◌&&◌, ◌||◌, List, [], ◌∷◌, ◌++◌, length, drop, get_or, refl, ap, sym, ◌∙◌}
use Rattle.std.proofs.lemmas.List.{drop_all}
use Rattle.std.specs.Prelude.{if◌then◌else◌}
use Rattle.dae_base.proofs.Laws.{drop_at}
use Rattle.dae_base.specs.declared.Place.{Place}
use Rattle.dae_ir.specs.Code.{Done, Do}
use Rattle.dae_ir.specs.Form.{Form, before, form_of}
use Rattle.dae_ir.specs.declared.form.Check.{Check}
use Rattle.dae_ir.specs.declared.form.Item.{Item}
use Rattle.dae_ir.specs.declared.form.Item.TheVariants.{Expect}
use Rattle.dae_ir.specs.declared.form.Statement.{Statement, Simple, If', Loop'}
use Rattle.dae_lower_maker.proofs.Laws.{form_of_pushed}
use Rattle.dae_lower.specs.Lowering.{checks, closed, is_closed, is_done, one, ◌⨾◌}

split : (p : Place) (item : Item) (a b : Bool) (c d : Form) → Do p item (if b then c else d) ≡ (if (a && false) || b then Do p item c else Do p item d)
split p item true true c d = refl
split p item true false c d = refl
split p item false true c d = refl
split p item false false c d = refl

-- a check in front closes nothing
pub front_closed : (flag : Bool) (p : Place) (check : Check) (last : Item) (code : Form) → closed p last (checks flag p (Expect check) Done ⨾ code) ≡ checks flag p (Expect check) (closed p last code)
front_closed true p check last code = sym (split p (Expect check) (is_done code) (is_closed code) code (code ⨾ one p last))
front_closed false p check last code = refl

pub closed_there : (p : Place) (last : Item) (code : Form) → is_closed code ≡ true → code ≡ closed p last code
closed_there p last code e = ap (λ (b : Bool). if b then code else code ⨾ one p last) (sym e)

pub closed_behind : (p : Place) (last : Item) (xs all : List Statement) → is_closed (form_of xs) ≡ false → all ≡ xs ++ Simple p last ∷ [] → form_of all ≡ closed p last (form_of xs)
closed_behind p last xs all e is = ap form_of is ∙ form_of_pushed xs (Simple p last) ∙ ap (λ (b : Bool). if b then form_of xs else form_of xs ⨾ one p last) (sym e)

-- ---- going through statements

-- whether statements are closed, where those before them are or aren't
abbrev pub closed_after : Bool → List Statement → Bool
closed_after closed [] = closed
closed_after closed (x ∷ xs) = is_closed (form_of (x ∷ xs))

pub first_closed : (xs : List Statement) → closed_after false xs ≡ is_closed (form_of xs)
first_closed [] = refl
first_closed (x ∷ xs) = refl

further_closed : (closed : Bool) (x : Statement) (xs : List Statement) → closed_after closed (x ∷ xs) ≡ closed_after (is_closed (before x Done)) xs
further_closed closed x [] = refl
further_closed closed (Simple p item) (Simple q y ∷ xs) = refl
further_closed closed (Simple p item) (If' q t s f u g ∷ xs) = refl
further_closed closed (Simple p item) (Loop' q s f u g ∷ xs) = refl
further_closed closed (If' p t s f u g) (y ∷ xs) = refl
further_closed closed (Loop' p s f u g) (y ∷ xs) = refl

pub next_closed : (closed : Bool) (xs : List Statement) (i : ℕ) (x : Statement) (all : Bool) → i < length xs → x ≡ get_or xs i x → closed_after closed (drop i xs) ≡ all → closed_after (is_closed (before x Done)) (drop (i + 1) xs) ≡ all
next_closed closed xs i x all lt is h = sym (further_closed closed x (drop (i + 1) xs)) ∙ ap (closed_after closed) (sym (drop_at xs i x lt is)) ∙ h

pub last_closed : (closed : Bool) (xs : List Statement) (i : ℕ) (all : Bool) → length xs ≤ i → closed_after closed (drop i xs) ≡ all → closed ≡ all
last_closed closed xs i all le h = ap (closed_after closed) (sym (drop_all i xs le)) ∙ h
