-- Numbers that grow by what statements hold.
use Rattle.std.proofs.Common.{◌≡◌, ℕ, suc, ◌+◌, ◌<◌, ◌≤◌, List, [], ◌∷◌, ◌++◌, length, take, get_or, ap, sym, ◌∙◌, subst, arith}
use Rattle.std.proofs.Math.Seq.{take-suc}
use Rattle.std.proofs.lemmas.List.{take_all}
use Rattle.std.specs.Prelude.{Vec}
use Rattle.std.specs.declared.alloc.Global.{Global}
use Rattle.dae_base.specs.declared.Place.{Place}
use Rattle.dae_ir.specs.Classes.{Classes}
use Rattle.dae_ir.specs.Code.{Done, Do}
use Rattle.dae_ir.specs.Form.{Form, form_of, before}
use Rattle.dae_ir.specs.Sizes.{tally, own_loads, loads_for_e, stores, conditions_a, conditions_e}
use Rattle.dae_ir.specs.declared.form.Item.{Item}
use Rattle.dae_ir.specs.declared.form.Test.{Test}
use Rattle.dae_ir.specs.declared.form.Statement.{Statement, Simple, If', Loop'}
use Rattle.dae_ir.specs.declared.form.Statement.TheVariants as statement
use Rattle.dae_ir.proofs.Laws.{before_if, before_loop}
use Rattle.dae_report.specs.declared.counts.Counts.{Counts}
use Rattle.dae_report.specs.Counting.{AddsItem, AddsTest, AddsCode}

pub take_one : {X : Type 0} (xs : List X) (i : ℕ) (x : X) → i < length xs → x ≡ get_or xs i x → take (i + 1) xs ≡ take i xs ++ x ∷ []
take_one {X = X} xs i x lt is =
    let one : suc i ≡ i + 1 = omega arith in
    subst (λ (k : ℕ). take k xs ≡ take i xs ++ x ∷ []) one (take-suc xs i x lt ∙ ap (λ (y : X). take i xs ++ y ∷ []) (sym is))

module _ (f : Item → ℕ) (h : Test → ℕ) where
  pub tally_before : (s : Statement) (k : Form) → tally f h (before s k) ≡ tally f h (before s Done) + tally f h k
  tally_before (Simple place item) k = omega arith
  tally_before (If' place test m p n q) k = omega arith
  tally_before (Loop' place m p n q) k = omega arith

  pub tally_push : (xs : List Statement) (s : Statement) → tally f h (form_of (xs ++ s ∷ [])) ≡ tally f h (form_of xs) + tally f h (before s Done)
  tally_push [] s = omega arith
  tally_push (x ∷ xs) s =
      let a = tally_before x (form_of (xs ++ s ∷ [])) in
      let b = tally_before x (form_of xs) in
      let d = tally_push xs s in
      omega (arith, a, b, d)

module _ (c : Classes) where
  pub adds_nothing : (a : Counts) → AddsCode c Done a a
  adds_nothing a = record { loads_a = omega arith; loads_e = omega arith; stores = omega arith; conditions_a = omega arith; conditions_e = omega arith }

  pub item_adds : (place : Place) (item : Item) (a b : Counts) → AddsItem c item a b → AddsCode c (Do place item Done) a b
  item_adds place item a b h = record {
    loads_a = (let e = h.loads_a in omega (arith, e));
    loads_e = (let e = h.loads_e in omega (arith, e));
    stores = (let e = h.stores in omega (arith, e));
    conditions_a = (let e = h.conditions_a in omega (arith, e));
    conditions_e = (let e = h.conditions_e in omega (arith, e));
  }

  pub if_adds : (place : Place) (t : Test) (p q : Vec Statement Global) (a b d e : Counts) → AddsTest c t a b → AddsCode c (form_of p.items) b d → AddsCode c (form_of q.items) d e
      → AddsCode c (before (statement.If place t p q) Done) a e
  if_adds place t p q a b d e h k l = subst (λ (code : Form). AddsCode c code a e) (sym (before_if place t p q Done)) record {
    loads_a = (let x = h.loads_a in let y = k.loads_a in let z = l.loads_a in omega (arith, x, y, z));
    loads_e = (let x = h.loads_e in let y = k.loads_e in let z = l.loads_e in omega (arith, x, y, z));
    stores = (let x = h.stores in let y = k.stores in let z = l.stores in omega (arith, x, y, z));
    conditions_a = (let x = h.conditions_a in let y = k.conditions_a in let z = l.conditions_a in omega (arith, x, y, z));
    conditions_e = (let x = h.conditions_e in let y = k.conditions_e in let z = l.conditions_e in omega (arith, x, y, z));
  }

  pub loop_adds : (place : Place) (p q : Vec Statement Global) (a b d : Counts) → AddsCode c (form_of p.items) a b → AddsCode c (form_of q.items) b d
      → AddsCode c (before (statement.Loop place p q) Done) a d
  loop_adds place p q a b d h k = subst (λ (code : Form). AddsCode c code a d) (sym (before_loop place p q Done)) record {
    loads_a = (let x = h.loads_a in let y = k.loads_a in omega (arith, x, y));
    loads_e = (let x = h.loads_e in let y = k.loads_e in omega (arith, x, y));
    stores = (let x = h.stores in let y = k.stores in omega (arith, x, y));
    conditions_a = (let x = h.conditions_a in let y = k.conditions_a in omega (arith, x, y));
    conditions_e = (let x = h.conditions_e in let y = k.conditions_e in omega (arith, x, y));
  }

  -- the statements before number i were counted
  abbrev pub CountedTo : List Statement → ℕ → Counts → Counts → Type 0
  CountedTo ss i a b = AddsCode c (form_of (take i ss)) a b

  sums : (ss : List Statement) (s : Statement) (a b d : Counts) → AddsCode c (form_of ss) a b → AddsCode c (before s Done) b d → AddsCode c (form_of (ss ++ s ∷ [])) a d
  sums ss s a b d h k = record {
    loads_a = (let x = h.loads_a in let y = k.loads_a in let z : own_loads c (form_of (ss ++ s ∷ [])) ≡ own_loads c (form_of ss) + own_loads c (before s Done) = tally_push _ _ ss s in omega (arith, x, y, z));
    loads_e = (let x = h.loads_e in let y = k.loads_e in let z : loads_for_e c (form_of (ss ++ s ∷ [])) ≡ loads_for_e c (form_of ss) + loads_for_e c (before s Done) = tally_push _ _ ss s in omega (arith, x, y, z));
    stores = (let x = h.stores in let y = k.stores in let z : stores (form_of (ss ++ s ∷ [])) ≡ stores (form_of ss) + stores (before s Done) = tally_push _ _ ss s in omega (arith, x, y, z));
    conditions_a = (let x = h.conditions_a in let y = k.conditions_a in let z : conditions_a c (form_of (ss ++ s ∷ [])) ≡ conditions_a c (form_of ss) + conditions_a c (before s Done) = tally_push _ _ ss s in omega (arith, x, y, z));
    conditions_e = (let x = h.conditions_e in let y = k.conditions_e in let z : conditions_e c (form_of (ss ++ s ∷ [])) ≡ conditions_e c (form_of ss) + conditions_e c (before s Done) = tally_push _ _ ss s in omega (arith, x, y, z));
  }

  pub counted_next : (ss : List Statement) (i : ℕ) (s : Statement) (a b d : Counts) → i < length ss → s ≡ get_or ss i s → CountedTo ss i a b → AddsCode c (before s Done) b d → CountedTo ss (i + 1) a d
  counted_next ss i s a b d lt is h k = subst (λ (xs : List Statement). AddsCode c (form_of xs) a d) (sym (take_one ss i s lt is)) (sums (take i ss) s a b d h k)

  pub counted_end : (ss : List Statement) (i : ℕ) (a b : Counts) → length ss ≤ i → CountedTo ss i a b → AddsCode c (form_of ss) a b
  counted_end ss i a b le h = subst (λ (xs : List Statement). AddsCode c (form_of xs) a b) (take_all i ss le) h
