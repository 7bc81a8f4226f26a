-- How much there is to count, and that the numbers have room for it.
use Rattle.std.proofs.Common.{◌≡◌, ℕ, ◌+◌, ◌-◌, ◌^◌, ◌<◌, ◌≤◌, Bool, true, false, List, [], ◌∷◌, ◌++◌, length, take, drop, get_or, ap, sym, ◌∙◌, arith}
use Rattle.std.specs.Prelude.{Vec, not, ◌&&◌}
use Rattle.std.specs.declared.alloc.Global.{Global}
use Rattle.std.proofs.lemmas.List.{take_all, take-append-drop}
use Rattle.dae_base.specs.declared.Place.{Place}
use Rattle.dae_base.proofs.Laws.{least_more, stopped, stopped_sum}
use Rattle.dae_ir.specs.Classes.{Classes, is_by_a}
use Rattle.dae_ir.specs.Code.{Done, Do, If, Loop}
use Rattle.dae_ir.specs.Form.{Form, form_of, before}
use Rattle.dae_ir.specs.Sizes.{bit, tally, is_load_into, is_store_item, own_loads, loads_for_e, stores, conditions_a, conditions_e}
use Rattle.dae_ir.specs.declared.form.Item.{Item}
use Rattle.dae_ir.specs.declared.form.Test.{Test}
use Rattle.dae_ir.specs.declared.form.Statement.{Statement}
use Rattle.dae_ir.specs.declared.form.Statement.TheVariants as statement
use Rattle.dae_ir.proofs.Laws.{before_if, before_loop}
use Rattle.dae_report.specs.declared.counts.Counts.{Counts}
use Rattle.dae_report.specs.Counting.{Adds, AddsTest, AddsCode, CanGrowBy, parts_of_form}
use Rattle.dae_report.proofs.Sums.{CountedTo, take_one, tally_before, tally_push}

-- ---- how much there is

pub parts_push : (ss : List Statement) (s : Statement) → parts_of_form (form_of (ss ++ s ∷ [])) ≡ parts_of_form (form_of ss) + parts_of_form (before s Done)
parts_push ss s = tally_push (λ item. 1) (λ t. 1) ss s

parts_append : (ss more : List Statement) → parts_of_form (form_of (ss ++ more)) ≡ parts_of_form (form_of ss) + parts_of_form (form_of more)
parts_append [] more = omega arith
parts_append (s ∷ ss) more =
    let a = tally_before (λ item. 1) (λ t. 1) s (form_of (ss ++ more)) in
    let b = tally_before (λ item. 1) (λ t. 1) s (form_of ss) in
    let d = parts_append ss more in
    omega (arith, a, b, d)

-- of the statements up to one of them
parts_next : (ss : List Statement) (i : ℕ) (s : Statement) → i < length ss → s ≡ get_or ss i s → parts_of_form (form_of (take (i + 1) ss)) ≡ parts_of_form (form_of (take i ss)) + parts_of_form (before s Done)
parts_next ss i s lt is = ap (λ (xs : List Statement). parts_of_form (form_of xs)) (take_one ss i s lt is) ∙ parts_push (take i ss) s

parts_up_to : (ss : List Statement) (i : ℕ) (s : Statement) → i < length ss → s ≡ get_or ss i s → parts_of_form (form_of (take i ss)) + parts_of_form (before s Done) ≤ parts_of_form (form_of ss)
parts_up_to ss i s lt is =
    let next = parts_next ss i s lt is in
    let split = parts_append (take (i + 1) ss) (drop (i + 1) ss) in
    let whole : parts_of_form (form_of (take (i + 1) ss ++ drop (i + 1) ss)) ≡ parts_of_form (form_of ss) = ap (λ (xs : List Statement). parts_of_form (form_of xs)) (take-append-drop (i + 1) ss) in
    omega (arith, next, split, whole)

parts_if : (place : Place) (t : Test) (p q : Vec Statement Global) → parts_of_form (before (statement.If place t p q) Done) ≡ parts_of_form (form_of p.items) + parts_of_form (form_of q.items) + 1
parts_if place t p q = ap parts_of_form (before_if place t p q Done) ∙ omega arith

parts_loop : (place : Place) (p q : Vec Statement Global) → parts_of_form (before (statement.Loop place p q) Done) ≡ parts_of_form (form_of p.items) + parts_of_form (form_of q.items)
parts_loop place p q = ap parts_of_form (before_loop place p q Done) ∙ omega arith

-- ---- sums that stop at a number

pub counted_further : (ss : List Statement) (i : ℕ) (s : Statement) (old more new : ℕ) → i < length ss → s ≡ get_or ss i s → old ≡ stopped (parts_of_form (form_of (take i ss))) → more ≡ stopped (parts_of_form (before s Done))
    → new ≡ stopped (old + more) → new ≡ stopped (parts_of_form (form_of (take (i + 1) ss)))
counted_further ss i s old more new lt is e d sum =
    stopped_sum (parts_of_form (form_of (take i ss))) (parts_of_form (before s Done)) old more new e d sum ∙ ap stopped (sym (parts_next ss i s lt is))

pub counted_whole : (ss : List Statement) (i n : ℕ) → length ss ≤ i → n ≡ stopped (parts_of_form (form_of (take i ss))) → n ≡ stopped (parts_of_form (form_of ss))
counted_whole ss i n le h = h ∙ ap (λ (xs : List Statement). stopped (parts_of_form (form_of xs))) (take_all i ss le)

pub counted_if : (place : Place) (t : Test) (p q : Vec Statement Global) (a b both r : ℕ) → a ≡ stopped (parts_of_form (form_of p.items)) → b ≡ stopped (parts_of_form (form_of q.items)) → both ≡ stopped (a + b) → r ≡ stopped (both + 1)
    → r ≡ stopped (parts_of_form (before (statement.If place t p q) Done))
counted_if place t p q a b both r e d sum one =
    let x = parts_of_form (form_of p.items) in let y = parts_of_form (form_of q.items) in
    one ∙ ap (λ (n : ℕ). stopped (n + 1)) (stopped_sum x y a b both e d sum) ∙ least_more (2 ^ 64 - 1) (x + y) (omega arith) ∙ ap stopped (sym (parts_if place t p q))

pub counted_loop : (place : Place) (p q : Vec Statement Global) (a b r : ℕ) → a ≡ stopped (parts_of_form (form_of p.items)) → b ≡ stopped (parts_of_form (form_of q.items)) → r ≡ stopped (a + b)
    → r ≡ stopped (parts_of_form (before (statement.Loop place p q) Done))
counted_loop place p q a b r e d sum =
    stopped_sum (parts_of_form (form_of p.items)) (parts_of_form (form_of q.items)) a b r e d sum ∙ ap stopped (sym (parts_loop place p q))

-- ---- room for what is counted

pub less_room : (n m : ℕ) (a : Counts) → n ≤ m → CanGrowBy m a → CanGrowBy n a
less_room n m a le room = record {
  loads_a = (let x = room.loads_a in omega (arith, le, x));
  loads_e = (let x = room.loads_e in omega (arith, le, x));
  stores = (let x = room.stores in omega (arith, le, x));
  conditions_a = (let x = room.conditions_a in omega (arith, le, x));
  conditions_e = (let x = room.conditions_e in omega (arith, le, x));
}

-- behind what adds at most k to each number
further_room : (k la le st ca ce : ℕ) (a b : Counts) (n m : ℕ) → la ≤ k → le ≤ k → st ≤ k → ca ≤ k → ce ≤ k → k + n ≤ m → Adds la le st ca ce a b → CanGrowBy m a → CanGrowBy n b
further_room k la le st ca ce a b n m l1 l2 l3 l4 l5 all h room = record {
  loads_a = (let x = room.loads_a in let e = h.loads_a in omega (arith, l1, all, x, e));
  loads_e = (let x = room.loads_e in let e = h.loads_e in omega (arith, l2, all, x, e));
  stores = (let x = room.stores in let e = h.stores in omega (arith, l3, all, x, e));
  conditions_a = (let x = room.conditions_a in let e = h.conditions_a in omega (arith, l4, all, x, e));
  conditions_e = (let x = room.conditions_e in let e = h.conditions_e in omega (arith, l5, all, x, e));
}

small_bit : (b : Bool) → bit b ≤ 1
small_bit true = omega arith
small_bit false = omega arith

-- what is counted at most once of each item and condition is no more than there is
at_most : (f : Item → ℕ) (h : Test → ℕ) → ((x : Item) → f x ≤ 1) → ((t : Test) → h t ≤ 1) → (code : Form) → tally f h code ≤ parts_of_form code
at_most f h one test Done = omega arith
at_most f h one test (Do mark item k) = let x = one item in let r = at_most f h one test k in omega (arith, x, r)
at_most f h one test (If mark t p q k) =
    let x = test t in let a = at_most f h one test p in let b = at_most f h one test q in let r = at_most f h one test k in omega (arith, x, a, b, r)
at_most f h one test (Loop mark p q k) =
    let a = at_most f h one test p in let b = at_most f h one test q in let r = at_most f h one test k in omega (arith, a, b, r)

none_at_all : {X : Type 0} → X → 0 ≤ 1
none_at_all x = omega arith

module _ (c : Classes) where
  code_room : (code : Form) (a b : Counts) (n m : ℕ) → parts_of_form code + n ≤ m → AddsCode c code a b → CanGrowBy m a → CanGrowBy n b
  code_room code a b n m all h room =
      further_room (parts_of_form code) (own_loads c code) (loads_for_e c code) (stores code) (conditions_a c code) (conditions_e c code) a b n m
      (at_most (λ item. bit (is_load_into c.s item)) (λ t. 0) (λ item. small_bit (is_load_into c.s item)) none_at_all code)
      (at_most (λ item. bit (is_load_into (λ v. not (c.s v) && c.needs v) item)) (λ t. 0) (λ item. small_bit (is_load_into (λ v. not (c.s v) && c.needs v) item)) none_at_all code)
      (at_most (λ item. bit (is_store_item item)) (λ t. 0) (λ item. small_bit (is_store_item item)) none_at_all code)
      (at_most (λ item. 0) (λ t. bit (is_by_a c.s t)) none_at_all (λ t. small_bit (is_by_a c.s t)) code)
      (at_most (λ item. 0) (λ t. bit (not (is_by_a c.s t))) none_at_all (λ t. small_bit (not (is_by_a c.s t))) code)
      all h room

  test_room : (t : Test) (a b : Counts) (n m : ℕ) → 1 + n ≤ m → AddsTest c t a b → CanGrowBy m a → CanGrowBy n b
  test_room t a b n m all h room =
      further_room 1 0 0 0 (bit (is_by_a c.s t)) (bit (not (is_by_a c.s t))) a b n m (omega arith) (omega arith) (omega arith) (small_bit (is_by_a c.s t)) (small_bit (not (is_by_a c.s t))) all h room

  pub room_at : (ss : List Statement) (i : ℕ) (s : Statement) (a b : Counts) → i < length ss → s ≡ get_or ss i s → CountedTo c ss i a b → CanGrowBy (parts_of_form (form_of ss)) a → CanGrowBy (parts_of_form (before s Done)) b
  room_at ss i s a b lt is counted room =
      code_room (form_of (take i ss)) a b (parts_of_form (before s Done)) (parts_of_form (form_of ss)) (parts_up_to ss i s lt is) counted room

  module _ (place : Place) (t : Test) (p q : Vec Statement Global) (a : Counts) (room : CanGrowBy (parts_of_form (before (statement.If place t p q) Done)) a) where
    pub room_for_test : CanGrowBy 1 a
    room_for_test = (let e = parts_if place t p q in less_room 1 (parts_of_form (before (statement.If place t p q) Done)) a (omega (arith, e)) room)

    pub room_in_first : (b : Counts) → AddsTest c t a b → CanGrowBy (parts_of_form (form_of p.items)) b
    room_in_first b h = (let e = parts_if place t p q in test_room t a b (parts_of_form (form_of p.items)) (parts_of_form (before (statement.If place t p q) Done)) (omega (arith, e)) h room)

    pub room_in_second : (b d : Counts) → AddsTest c t a b → AddsCode c (form_of p.items) b d → CanGrowBy (parts_of_form (form_of q.items)) d
    room_in_second b d h k =
        let e = parts_if place t p q in
        let x = parts_of_form (form_of p.items) in let y = parts_of_form (form_of q.items) in
        let behind : CanGrowBy (x + y) b = test_room t a b (x + y) (parts_of_form (before (statement.If place t p q) Done)) (omega (arith, e)) h room in
        code_room (form_of p.items) b d y (x + y) (omega arith) k behind

  module _ (place : Place) (p q : Vec Statement Global) (a : Counts) (room : CanGrowBy (parts_of_form (before (statement.Loop place p q) Done)) a) where
    pub room_in_body : CanGrowBy (parts_of_form (form_of p.items)) a
    room_in_body = (let e = parts_loop place p q in less_room (parts_of_form (form_of p.items)) (parts_of_form (before (statement.Loop place p q) Done)) a (omega (arith, e)) room)

    pub room_in_step : (b : Counts) → AddsCode c (form_of p.items) a b → CanGrowBy (parts_of_form (form_of q.items)) b
    room_in_step b h = (let e = parts_loop place p q in code_room (form_of p.items) a b (parts_of_form (form_of q.items)) (parts_of_form (before (statement.Loop place p q) Done)) (omega (arith, e)) h room)
