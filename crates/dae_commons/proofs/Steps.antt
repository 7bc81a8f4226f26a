-- Statements are walked over one after the other.
use Rattle.std.proofs.Common.{◌≡◌, ℕ, ◌+◌, ◌<◌, ◌≤◌, List, [], ◌∷◌, ◌++◌, length, drop, get_or, Option, Some, refl, ap, sym, ◌∙◌, subst}
use Rattle.std.specs.Prelude.{Vec}
use Rattle.std.specs.declared.alloc.Global.{Global}
use Rattle.dae_base.specs.declared.Place.{Place}
use Rattle.dae_ir.specs.Code.{Do}
use Rattle.dae_ir.specs.Form.{Form, form_of}
use Rattle.dae_ir.specs.Classes.{Classes}
use Rattle.dae_ir.specs.declared.form.Item.{Item}
use Rattle.dae_ir.specs.declared.form.Test.{Test}
use Rattle.dae_ir.specs.declared.form.Statement.{Statement}
use Rattle.dae_ir.specs.declared.form.Statement.TheVariants as statement
use Rattle.dae_ir.proofs.Laws.{before_if, before_loop, rest, rest_one, rest_end, all_before, before_end, form_before}
use Rattle.dae_commons.specs.declared.equations.Equation.{Equation}
use Rattle.dae_commons.specs.Equations.{equations_in, known_in_loop, met, without_item, without_set, IsWithoutStatement}
use Rattle.dae_commons.specs.Copies.{propagated_test}
use Rattle.dae_commons.specs.Commoned.{IsCommonedTo, IsCommonedList, commoned_item, known_behind, commoned_code, known_after}

-- ---- a statement

pub simple_commoned : (c : Classes) (place : Place) (item item' : Item) (old new : Option (List Equation)) → item' ≡ commoned_item c (equations_in old) item → new ≡ known_after c (equations_in old) item
    → IsCommonedTo c (statement.Simple place item) old new (statement.Simple place item')
simple_commoned c place item item' old new is behind = record {
  code = λ k.
      ap (λ (x : Item). Do place x (commoned_code c (equations_in (known_after c (equations_in old) item)) k)) (sym is)
      ∙ ap (λ (j : Option (List Equation)). Do place item' (commoned_code c (equations_in j) k)) (sym behind);
  known = λ k. ap (λ (j : Option (List Equation)). known_behind c j k) (sym behind);
}

module _ (c : Classes) (place : Place) (p q p' q' : Vec Statement Global) (old one two new : Option (List Equation)) where
  pub if_commoned : (t t' : Test) → t' ≡ propagated_test c (equations_in old) t → IsCommonedList c p.items (equations_in old) p'.items one → IsCommonedList c q.items (equations_in old) q'.items two → new ≡ met one two
      → IsCommonedTo c (statement.If place t p q) old new (statement.If place t' p' q')
  if_commoned t t' is first second behind = record {
    code = λ k.
        ap (λ (code : Form). commoned_code c (equations_in old) code) (before_if place t p q k)
        ∙ sym (before_if place t' p' q' (commoned_code c (equations_in new) k) ∙ rw (is, first.code, second.code, behind, first.known, second.known) refl);
    known = λ k.
        ap (λ (code : Form). known_behind c old code) (before_if place t p q k)
        ∙ sym (ap (λ (j : Option (List Equation)). known_behind c j k) behind ∙ rw (first.known, second.known) refl);
  }

  pub loop_commoned : (r : List Equation) → r ≡ known_in_loop (equations_in old) (form_of p.items) (form_of q.items) → IsCommonedList c p.items r p'.items one → IsCommonedList c q.items r q'.items two → new ≡ Some r
      → IsCommonedTo c (statement.Loop place p q) old new (statement.Loop place p' q')
  loop_commoned r is first second behind = record {
    code = λ k.
        ap (λ (code : Form). commoned_code c (equations_in old) code) (before_loop place p q k)
        ∙ sym (before_loop place p' q' (commoned_code c (equations_in new) k) ∙ rw (first.code, second.code, behind, is) refl);
    known = λ k.
        ap (λ (code : Form). known_behind c old code) (before_loop place p q k)
        ∙ sym (ap (λ (j : Option (List Equation)). known_behind c j k) behind ∙ ap (λ (z : List Equation). known_behind c (Some z) k) is);
  }

-- ---- what a statement sets

pub simple_without : (place : Place) (item : Item) (old new : List Equation) → new ≡ without_item old item → IsWithoutStatement (statement.Simple place item) old new
simple_without place item old new is = record { known = λ k. ap (λ (z : List Equation). without_set z k) (sym is) }

module _ (p q : Vec Statement Global) (old middle new : List Equation) (first : middle ≡ without_set old (form_of p.items)) (second : new ≡ without_set middle (form_of q.items)) where
  both_without : new ≡ without_set (without_set old (form_of p.items)) (form_of q.items)
  both_without = second ∙ ap (λ (z : List Equation). without_set z (form_of q.items)) first

  pub if_without : (place : Place) (t : Test) → IsWithoutStatement (statement.If place t p q) old new
  if_without place t = record { known = λ k. ap (λ (code : Form). without_set old code) (before_if place t p q k) ∙ ap (λ (z : List Equation). without_set z k) (sym both_without) }

  pub loop_without : (place : Place) → IsWithoutStatement (statement.Loop place p q) old new
  loop_without place = record { known = λ k. ap (λ (code : Form). without_set old code) (before_loop place p q k) ∙ ap (λ (z : List Equation). without_set z k) (sym both_without) }

pub without_next : (ss : List Statement) (i : ℕ) (s : Statement) (old now new : List Equation) → i < length ss → s ≡ get_or ss i s → without_set now (form_of (drop i ss)) ≡ without_set old (form_of ss)
    → IsWithoutStatement s now new → without_set new (form_of (drop (i + 1) ss)) ≡ without_set old (form_of ss)
without_next ss i s old now new lt is so_far h = sym (h.known (rest (i + 1) ss)) ∙ ap (λ (code : Form). without_set now code) (sym (rest_one ss i s lt is)) ∙ so_far

pub without_end : (ss : List Statement) (i : ℕ) (old now : List Equation) → length ss ≤ i → without_set now (form_of (drop i ss)) ≡ without_set old (form_of ss) → now ≡ without_set old (form_of ss)
without_end ss i old now le so_far = sym (ap (λ (code : Form). without_set now code) (rest_end ss i le)) ∙ so_far

-- ---- a list

-- the first i statements have become those
pub record CommonedUpTo (c : Classes) (ss : List Statement) (i : ℕ) (old : List Equation) (now : Option (List Equation)) (out : List Statement) : Type 0 where
  pub code : all_before out (commoned_code c (equations_in now) (form_of (drop i ss))) ≡ commoned_code c old (form_of ss)
  pub known : known_behind c now (form_of (drop i ss)) ≡ known_behind c (Some old) (form_of ss)

pub commoned_start : (c : Classes) (ss : List Statement) (old : List Equation) (now : Option (List Equation)) (out : List Statement) → now ≡ Some old → out ≡ [] → CommonedUpTo c ss 0 old now out
commoned_start c ss old now out is none = record {
  code = ap (λ (xs : List Statement). all_before xs (commoned_code c (equations_in now) (form_of ss))) none ∙ ap (λ (j : Option (List Equation)). commoned_code c (equations_in j) (form_of ss)) is;
  known = ap (λ (j : Option (List Equation)). known_behind c j (form_of ss)) is;
}

pub commoned_next : (c : Classes) (ss : List Statement) (i : ℕ) (s s' : Statement) (old : List Equation) (now new : Option (List Equation)) (out out' : List Statement) → i < length ss → s ≡ get_or ss i s
    → CommonedUpTo c ss i old now out → IsCommonedTo c s now new s' → out' ≡ out ++ s' ∷ [] → CommonedUpTo c ss (i + 1) old new out'
commoned_next c ss i s s' old now new out out' lt is so_far h longer =
    let split = rest_one ss i s lt is in
    record {
      code =
          ap (λ (xs : List Statement). all_before xs (commoned_code c (equations_in new) (rest (i + 1) ss))) longer
          ∙ before_end out s' (commoned_code c (equations_in new) (rest (i + 1) ss))
          ∙ ap (λ (code : Form). all_before out code) (sym (h.code (rest (i + 1) ss)) ∙ ap (λ (code : Form). commoned_code c (equations_in now) code) (sym split))
          ∙ so_far.code;
      known = sym (h.known (rest (i + 1) ss)) ∙ ap (λ (code : Form). known_behind c now code) (sym split) ∙ so_far.known;
    }

pub commoned_end : (c : Classes) (ss : List Statement) (i : ℕ) (old : List Equation) (now : Option (List Equation)) (out : List Statement) → length ss ≤ i → CommonedUpTo c ss i old now out
    → IsCommonedList c ss old out now
commoned_end c ss i old now out le so_far =
    let none = rest_end ss i le in
    record {
      code = form_before out ∙ sym (ap (λ (code : Form). all_before out (commoned_code c (equations_in now) code)) none) ∙ so_far.code;
      known = sym (ap (λ (code : Form). known_behind c now code) none) ∙ so_far.known;
    }

-- the same list from the same equations
pub listed : (c : Classes) (ss ss' : List Statement) (q r q' : List Equation) (out : List Statement) (k : Option (List Equation)) → IsCommonedList c ss q out k → ss ≡ ss' → q ≡ r → r ≡ q' → IsCommonedList c ss' q' out k
listed c ss ss' q r q' out k h e f g = subst (λ (xs : List Statement). IsCommonedList c xs q' out k) e (subst (λ (z : List Equation). IsCommonedList c ss z out k) (f ∙ g) h)

pub in_loop : (q q' : List Equation) (xs xs' ys ys' : List Statement) (r : List Equation) → r ≡ known_in_loop q (form_of xs) (form_of ys) → q ≡ q' → xs ≡ xs' → ys ≡ ys' → r ≡ known_in_loop q' (form_of xs') (form_of ys')
in_loop q q' xs xs' ys ys' r h e f g =
    h ∙ ap (λ (z : List Equation). known_in_loop z (form_of xs) (form_of ys)) e ∙ ap (λ (zs : List Statement). known_in_loop q' (form_of zs) (form_of ys)) f
    ∙ ap (λ (zs : List Statement). known_in_loop q' (form_of xs') (form_of zs)) g
