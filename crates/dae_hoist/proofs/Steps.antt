-- Statements are walked over one after the other.
use Rattle.std.proofs.Common.{◌≡◌, ℕ, ◌+◌, ◌<◌, ◌≤◌, true, List, [], ◌∷◌, ◌++◌, length, take, get_or, refl, ap, sym, ◌∙◌, subst, append_assoc, append-nil}
use Rattle.std.proofs.Math.Seq.{take-append_seam}
use Rattle.std.specs.Prelude.{Vec}
use Rattle.std.specs.declared.alloc.Global.{Global}
use Rattle.dae_base.specs.declared.Place.{Place}
use Rattle.dae_ir.specs.Code.{Do}
use Rattle.dae_ir.specs.Form.{Form, form_of}
use Rattle.dae_ir.specs.Classes.{has_test}
use Rattle.dae_ir.specs.declared.form.Item.{Item}
use Rattle.dae_ir.specs.declared.form.Item.TheVariants.{Assign, Load, Store, Print, Expect, Break, Continue, Call, Return, Halt}
use Rattle.dae_ir.specs.declared.form.Test.{Test}
use Rattle.dae_ir.specs.declared.form.Statement.{Statement}
use Rattle.dae_ir.specs.declared.form.Statement.TheVariants as statement
use Rattle.dae_ir.proofs.Laws.{before_if, before_loop, rest, rest_one, rest_end, all_before, before_end, form_before}
use Rattle.dae_hoist.specs.Hoisted.{hoisted_item, hoisted_code}
use Rattle.dae_hoist.specs.Kept.{Hoisting, ItemKept, IsKept, is_kept, set_behind}
use Rattle.dae_hoist.specs.Planned.{IsHoistedStatement, IsHoistedList}

-- ---- a statement

grown : (us : List ℕ) (item : Item) → (more : List ℕ) × (set_behind us item ≡ us ++ more)
grown us (Assign v x) = (v ∷ [], refl)
grown us (Load v kind x) = (v ∷ [], refl)
grown us (Store width x y) = ([], sym (append-nil us))
grown us (Print spelling x) = ([], sym (append-nil us))
grown us (Expect check) = ([], sym (append-nil us))
grown us Break = ([], sym (append-nil us))
grown us Continue = ([], sym (append-nil us))
grown us (Call v f xs) = (v ∷ [], refl)
grown us (Return x) = ([], sym (append-nil us))
grown us (Halt x) = ([], sym (append-nil us))

pub simple_hoisted : (t : Hoisting) (place : Place) (item item' : Item) (old new : List ℕ) → item' ≡ hoisted_item t.holding item → ItemKept t old item → new ≡ set_behind old item
    → IsHoistedStatement t (statement.Simple place item) old new (statement.Simple place item')
simple_hoisted t place item item' old new is kept behind =
    let g = grown old item in
    record {
      code = λ k. ap (λ (x : Item). Do place x (hoisted_code t.holding k)) (sym is);
      kept = λ k h. (kept, subst (λ (us : List ℕ). IsKept t us k) behind h);
      more = g.0;
      longer = behind ∙ g.1;
    }

module _ (t : Hoisting) (old mid new : List ℕ) (p q p' q' : Vec Statement Global) (first : IsHoistedList t p.items old mid p'.items) (second : IsHoistedList t q.items mid new q'.items) where
  same_behind : new ≡ old
  same_behind = second.same ∙ first.same

  second_kept : IsKept t old (form_of q.items)
  second_kept = subst (λ (us : List ℕ). IsKept t us (form_of q.items)) first.same second.kept

  pub if_hoisted : (place : Place) (test : Test) → has_test (is_kept t) test ≡ true → IsHoistedStatement t (statement.If place test p q) old new (statement.If place test p' q')
  if_hoisted place test reads = record {
    code = λ k.
        ap (λ (c : Form). hoisted_code t.holding c) (before_if place test p q k)
        ∙ sym (before_if place test p' q' (hoisted_code t.holding k) ∙ rw (first.code, second.code) refl);
    kept = λ k h.
        subst (λ (c : Form). IsKept t old c) (sym (before_if place test p q k))
        (reads, first.kept, second_kept, subst (λ (us : List ℕ). IsKept t us k) same_behind h);
    more = [];
    longer = same_behind ∙ sym (append-nil old);
  }

  pub loop_hoisted : (place : Place) → IsHoistedStatement t (statement.Loop place p q) old new (statement.Loop place p' q')
  loop_hoisted place = record {
    code = λ k.
        ap (λ (c : Form). hoisted_code t.holding c) (before_loop place p q k)
        ∙ sym (before_loop place p' q' (hoisted_code t.holding k) ∙ rw (first.code, second.code) refl);
    kept = λ k h.
        subst (λ (c : Form). IsKept t old c) (sym (before_loop place p q k))
        (first.kept, second_kept, subst (λ (us : List ℕ). IsKept t us k) same_behind h);
    more = [];
    longer = same_behind ∙ sym (append-nil old);
  }

-- ---- lists: the first i statements are hoisted

pub record HoistedUpTo (t : Hoisting) (ss : List Statement) (i : ℕ) (old now : List ℕ) (out : List Statement) : Type 0 where
  pub code : all_before out (hoisted_code t.holding (rest i ss)) ≡ hoisted_code t.holding (form_of ss)
  pub kept : IsKept t now (rest i ss) → IsKept t old (form_of ss)
  pub more : List ℕ
  pub longer : now ≡ old ++ more

pub hoisted_start : (t : Hoisting) (ss : List Statement) (old : List ℕ) (out : List Statement) → out ≡ [] → HoistedUpTo t ss 0 old old out
hoisted_start t ss old out none = record {
  code = ap (λ (xs : List Statement). all_before xs (hoisted_code t.holding (form_of ss))) none;
  kept = λ h. h;
  more = [];
  longer = sym (append-nil old);
}

pub hoisted_next : (t : Hoisting) (ss : List Statement) (i : ℕ) (s s' : Statement) (old now new : List ℕ) (out out' : List Statement) → i < length ss → s ≡ get_or ss i s
    → HoistedUpTo t ss i old now out → IsHoistedStatement t s now new s' → out' ≡ out ++ s' ∷ [] → HoistedUpTo t ss (i + 1) old new out'
hoisted_next t ss i s s' old now new out out' lt is so_far h longer =
    let split = rest_one ss i s lt is in
    record {
      code =
          ap (λ (xs : List Statement). all_before xs (hoisted_code t.holding (rest (i + 1) ss))) longer
          ∙ before_end out s' (hoisted_code t.holding (rest (i + 1) ss))
          ∙ ap (λ (c : Form). all_before out c) (sym (h.code (rest (i + 1) ss)) ∙ ap (λ (c : Form). hoisted_code t.holding c) (sym split))
          ∙ so_far.code;
      kept = λ k. so_far.kept (subst (λ (c : Form). IsKept t now c) (sym split) (h.kept (rest (i + 1) ss) k));
      more = so_far.more ++ h.more;
      longer = h.longer ∙ ap (λ (us : List ℕ). us ++ h.more) so_far.longer ∙ append_assoc old so_far.more h.more;
    }

pub hoisted_end : (t : Hoisting) (ss : List Statement) (i : ℕ) (old now new : List ℕ) (out : List Statement) (count : ℕ) → length ss ≤ i → HoistedUpTo t ss i old now out
    → count ≡ length old → new ≡ take count now → IsHoistedList t ss old new out
hoisted_end t ss i old now new out count le so_far counted front =
    let none = rest_end ss i le in
    record {
      code = form_before out ∙ sym (ap (λ (c : Form). all_before out (hoisted_code t.holding c)) none) ∙ so_far.code;
      kept = so_far.kept (subst (λ (c : Form). IsKept t now c) (sym none) tt);
      same =
          front ∙ ap (λ (n : ℕ). take n now) counted ∙ ap (λ (us : List ℕ). take (length old) us) so_far.longer
          ∙ take-append_seam old so_far.more;
    }

-- the same list
pub same_list : (t : Hoisting) (ss ss' : List Statement) (old new : List ℕ) (out : List Statement) → IsHoistedList t ss old new out → ss ≡ ss' → IsHoistedList t ss' old new out
same_list t ss ss' old new out h e = subst (λ (xs : List Statement). IsHoistedList t xs old new out) e h

-- and the same variables that are set
pub same_kept : (t : Hoisting) (us us' : List ℕ) (item : Item) → ItemKept t us item → us ≡ us' → ItemKept t us' item
same_kept t us us' item h e = subst (λ (vs : List ℕ). ItemKept t vs item) e h
