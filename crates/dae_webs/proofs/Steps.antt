-- Statements are walked over one after the other.
use Rattle.std.proofs.Common.{◌≡◌, ℕ, zero, suc, ◌+◌, ◌<◌, ◌≤◌, true, List, [], ◌∷◌, ◌++◌, length, drop, get_or, set, Option, refl, ap, sym, ◌∙◌, subst, arith}
use Rattle.std.specs.Prelude.{Vec, IfOk, Result, Ok, Err}
use Rattle.std.specs.declared.alloc.Global.{Global}
use Rattle.dae_base.specs.declared.Place.{Place}
use Rattle.dae_ir.specs.Form.{Form, form_of}
use Rattle.dae_ir.specs.Classes.{has_test}
use Rattle.dae_ir.specs.declared.form.Test.{Test}
use Rattle.dae_ir.specs.declared.form.Statement.{Statement}
use Rattle.dae_ir.specs.declared.form.Statement.TheVariants as statement
use Rattle.dae_ir.proofs.Laws.{before_if, before_loop, rest, rest_one, rest_end, all_before, before_end, form_before}
use Rattle.dae_ir.specs.declared.unchanged.NotChanged.{NotChanged}
use Rattle.dae_webs.specs.declared.plan.WebPlan.{WebPlan}
use Rattle.dae_webs.specs.declared.plan.Renaming.{Renaming}
use Rattle.dae_webs.specs.Current.{Current, has_web}
use Rattle.dae_webs.specs.Renamed.{Starts, number_behind, without_started, without_both, webs_behind, renamed_test, renamed_code}
use Rattle.dae_webs.specs.Known.{IsKnown}
use Rattle.dae_webs.specs.Planned.{starts_in, owns_in, current_in, StatementForgets, ListForgets, renamed_from, IsKnownFrom, webs_from, StatementRenamed, ListRenamed}
use Rattle.dae_webs.proofs.Inside.{in_first, in_second, in_rest}

-- a write past the end
pub set_past : (m : Current) (v : ℕ) (o : Option ℕ) → length m ≤ v → set m v o ≡ m
set_past [] v o le = refl
set_past (x ∷ m) zero o le = absurd (omega (arith, le))
set_past (x ∷ m) (suc v) o le = ap (λ (l : Current). x ∷ l) (set_past m v o (omega (arith, le)))

-- ---- webs that start inside

module _ (b : Starts) (p q : Vec Statement Global) (n n1 n2 : ℕ) (m m1 m2 : Current) (first : ListForgets b p.items n n1 m m1) (second : ListForgets b q.items n1 n2 m1 m2) where
  pub if_forgets : (place : Place) (test : Test) → StatementForgets b (statement.If place test p q) n n2 m m2
  if_forgets place test = record {
    webs = λ k. ap (λ (c : Form). without_started b n m c) (before_if place test p q k) ∙ rw (second.webs, second.number, first.webs, first.number) refl;
    number = λ k. ap (λ (c : Form). number_behind n c) (before_if place test p q k) ∙ rw (second.number, first.number) refl;
  }

  pub loop_forgets : (place : Place) → StatementForgets b (statement.Loop place p q) n n2 m m2
  loop_forgets place = record {
    webs = λ k. ap (λ (c : Form). without_started b n m c) (before_loop place p q k) ∙ rw (second.webs, second.number, first.webs, first.number) refl;
    number = λ k. ap (λ (c : Form). number_behind n c) (before_loop place p q k) ∙ rw (second.number, first.number) refl;
  }

pub ok_more : (r : Result ℕ NotChanged) (P Q : ℕ → Type 0) → ((n : ℕ) → P n → Q n) → IfOk r P → IfOk r Q
ok_more (Ok n) P Q h k = h n k
ok_more (Err e) P Q h k = tt

-- behind the first i statements
pub record ForgottenTo (b : Starts) (ss : List Statement) (i n n' : ℕ) (m m' : Current) : Type 0 where
  pub webs : without_started b n' m' (form_of (drop i ss)) ≡ without_started b n m (form_of ss)
  pub number : number_behind n' (form_of (drop i ss)) ≡ number_behind n (form_of ss)

pub both_lists : (b : Starts) (n : ℕ) (m m' : Current) (ps qs ps' qs' : List Statement) → ps ≡ ps' → qs ≡ qs' → m' ≡ without_both b n (form_of ps) (form_of qs) m
    → m' ≡ without_both b n (form_of ps') (form_of qs') m
both_lists b n m m' ps qs ps' qs' e h is = is ∙ rw (e, h) refl

-- ---- renaming

module _ (plan : WebPlan) (old : Renaming) (w1 w3 w5 : Vec (Option ℕ) Global) (r2 r4 : Renaming) (p q p' q' : Vec Statement Global) where
  abbrev b : Starts
  b = starts_in plan

  abbrev n : ℕ
  n = old.definitions

  abbrev x : Form
  x = form_of p.items

  abbrev y : Form
  y = form_of q.items

  abbrev m : Current
  m = current_in old

  abbrev new : Renaming
  new = record { webs = w5; definitions = r4.definitions }

  module _ (e1 : w1.items ≡ without_both b n x y m) (one : ListRenamed plan p.items (record { webs = w1; definitions = n }) r2 p'.items)
      (e3 : w3.items ≡ without_both b n x y (current_in r2)) (two : ListRenamed plan q.items (record { webs = w3; definitions = r2.definitions }) r4 q'.items)
      (e5 : w5.items ≡ without_both b n x y (current_in r4)) where
    second_is : w3.items ≡ in_second b n x y m
    second_is = e3 ∙ ap (λ (z : Current). without_both b n x y z) (one.webs ∙ ap (λ (z : Current). webs_behind b n z x) e1)

    behind_is : r4.definitions ≡ number_behind (number_behind n x) y
    behind_is = two.number ∙ ap (λ (k : ℕ). number_behind k y) one.number

    rest_is : w5.items ≡ in_rest b n x y m
    rest_is =
        e5
        ∙ ap (λ (z : Current). without_both b n x y z)
        (two.webs ∙ ap (λ (k : ℕ). webs_behind b k w3.items y) one.number ∙ ap (λ (z : Current). webs_behind b (number_behind n x) z y) second_is)

    first_code : form_of p'.items ≡ renamed_code b n (in_first b n x y m) x
    first_code = one.code ∙ ap (λ (z : Current). renamed_code b n z x) e1

    second_code : form_of q'.items ≡ renamed_code b (number_behind n x) (in_second b n x y m) y
    second_code = two.code ∙ ap (λ (k : ℕ). renamed_code b k w3.items y) one.number ∙ ap (λ (z : Current). renamed_code b (number_behind n x) z y) second_is

    rest_code : (k : Form) → renamed_code b r4.definitions w5.items k ≡ renamed_code b (number_behind (number_behind n x) y) (in_rest b n x y m) k
    rest_code k = ap (λ (i : ℕ). renamed_code b i w5.items k) behind_is ∙ ap (λ (z : Current). renamed_code b (number_behind (number_behind n x) y) z k) rest_is

    abbrev Known : ℕ → Current → Form → Type 0
    Known i z k = IsKnown (owns_in plan) b i z k

    first_known : Known n (in_first b n x y m) x
    first_known = subst (λ (z : Current). Known n z x) e1 one.known

    second_known : Known (number_behind n x) (in_second b n x y m) y
    second_known = subst (λ (z : Current). Known (number_behind n x) z y) second_is (subst (λ (k : ℕ). Known k w3.items y) one.number two.known)

    rest_known : (k : Form) → Known r4.definitions w5.items k → Known (number_behind (number_behind n x) y) (in_rest b n x y m) k
    rest_known k h = subst (λ (z : Current). Known (number_behind (number_behind n x) y) z k) rest_is (subst (λ (i : ℕ). Known i w5.items k) behind_is h)

    rest_webs : (k : Form) → webs_behind b r4.definitions w5.items k ≡ webs_behind b (number_behind (number_behind n x) y) (in_rest b n x y m) k
    rest_webs k = ap (λ (i : ℕ). webs_behind b i w5.items k) behind_is ∙ ap (λ (z : Current). webs_behind b (number_behind (number_behind n x) y) z k) rest_is

    pub if_renamed : (place : Place) (t t' : Test) → t' ≡ renamed_test m t → has_test (has_web m) t ≡ true
        → StatementRenamed plan (statement.If place t p q) old new (statement.If place t' p' q')
    if_renamed place t t' is known = record {
      code = λ k.
          ap (λ (c : Form). renamed_code b n m c) (before_if place t p q k)
          ∙ sym (before_if place t' p' q' (renamed_code b r4.definitions w5.items k) ∙ rw (is, first_code, second_code, rest_code k) refl);
      known = λ k h. subst (λ (c : Form). Known n m c) (sym (before_if place t p q k)) (known, first_known, second_known, rest_known k h);
      webs = λ k. ap (λ (c : Form). webs_behind b n m c) (before_if place t p q k) ∙ sym (rest_webs k);
      number = λ k. ap (λ (c : Form). number_behind n c) (before_if place t p q k) ∙ ap (λ (i : ℕ). number_behind i k) (sym behind_is);
    }

    pub loop_renamed : (place : Place) → StatementRenamed plan (statement.Loop place p q) old new (statement.Loop place p' q')
    loop_renamed place = record {
      code = λ k.
          ap (λ (c : Form). renamed_code b n m c) (before_loop place p q k)
          ∙ sym (before_loop place p' q' (renamed_code b r4.definitions w5.items k) ∙ rw (first_code, second_code, rest_code k) refl);
      known = λ k h. subst (λ (c : Form). Known n m c) (sym (before_loop place p q k)) (first_known, second_known, rest_known k h);
      webs = λ k. ap (λ (c : Form). webs_behind b n m c) (before_loop place p q k) ∙ sym (rest_webs k);
      number = λ k. ap (λ (c : Form). number_behind n c) (before_loop place p q k) ∙ ap (λ (i : ℕ). number_behind i k) (sym behind_is);
    }

-- the first i statements are renamed
pub record RenamedTo (plan : WebPlan) (ss : List Statement) (i : ℕ) (old now : Renaming) (out : List Statement) : Type 0 where
  pub code : all_before out (renamed_from plan now (form_of (drop i ss))) ≡ renamed_from plan old (form_of ss)
  pub known : IsKnownFrom plan now (form_of (drop i ss)) → IsKnownFrom plan old (form_of ss)
  pub webs : webs_from plan now (form_of (drop i ss)) ≡ webs_from plan old (form_of ss)
  pub number : number_behind now.definitions (form_of (drop i ss)) ≡ number_behind old.definitions (form_of ss)

pub renamed_next : (plan : WebPlan) (ss : List Statement) (i : ℕ) (s s' : Statement) (old now new : Renaming) (out out' : List Statement) → i < length ss → s ≡ get_or ss i s
    → RenamedTo plan ss i old now out → StatementRenamed plan s now new s' → out' ≡ out ++ s' ∷ [] → RenamedTo plan ss (i + 1) old new out'
renamed_next plan ss i s s' old now new out out' lt is so_far t longer =
    let split = rest_one ss i s lt is in
    record {
      code =
          ap (λ (xs : List Statement). all_before xs (renamed_from plan new (rest (i + 1) ss))) longer
          ∙ before_end out s' (renamed_from plan new (rest (i + 1) ss))
          ∙ ap (λ (c : Form). all_before out c) (sym (t.code (rest (i + 1) ss)) ∙ ap (λ (c : Form). renamed_from plan now c) (sym split))
          ∙ so_far.code;
      known = λ h. so_far.known (subst (λ (c : Form). IsKnownFrom plan now c) (sym split) (t.known (rest (i + 1) ss) h));
      webs = sym (t.webs (rest (i + 1) ss)) ∙ ap (λ (c : Form). webs_from plan now c) (sym split) ∙ so_far.webs;
      number = sym (t.number (rest (i + 1) ss)) ∙ ap (λ (c : Form). number_behind now.definitions c) (sym split) ∙ so_far.number;
    }

pub renamed_end : (plan : WebPlan) (ss : List Statement) (i : ℕ) (old now : Renaming) (out : List Statement) → length ss ≤ i → RenamedTo plan ss i old now out → ListRenamed plan ss old now out
renamed_end plan ss i old now out le so_far =
    let none = rest_end ss i le in
    record {
      code = form_before out ∙ sym (ap (λ (c : Form). all_before out (renamed_from plan now c)) none) ∙ so_far.code;
      known = so_far.known (subst (λ (c : Form). IsKnownFrom plan now c) (sym none) tt);
      webs = sym (ap (λ (c : Form). webs_from plan now c) none) ∙ so_far.webs;
      number = sym (ap (λ (c : Form). number_behind now.definitions c) none) ∙ so_far.number;
    }
