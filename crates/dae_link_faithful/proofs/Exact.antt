-- A number of a pair's budget is 0 exactly where no action of either stream uses its queue.
use Rattle.std.proofs.Common.{◌≡◌, ◌≢◌, ℕ, suc, ◌+◌, ◌≤◌, Bool, true, false, List, [], ◌∷◌, Option, Some, None, refl, sym, subst, ◌∙◌, arith}
use Rattle.std.specs.Prelude.{slice_get}
use Rattle.std.proofs.lemmas.Option.{same_Some}
use Rattle.std.proofs.lemmas.Bool.{false_from_ne_true}
use Rattle.dae_base.specs.declared.Depths.{Depths}
use Rattle.dae_base.specs.declared.Queue.{Queue}
use Rattle.dae_base.specs.declared.Queue.TheVariants.{Ld, Al, Sa, Sd, Ab, Eb, Cq}
use Rattle.dae_base.specs.Budgets.{depth}
use Rattle.dae_base.proofs.Laws.{no_true}
use Rattle.dae_ir.specs.Code.{Done, Do, If, Loop, Each}
use Rattle.dae_ir.specs.Budgets.{is_load_for_e, is_copy, is_own_load, is_address, is_datum, is_message, is_told, never, IsBudgetOf}
use Rattle.dae_ir.specs.Classes.{Classes, classes_of}
use Rattle.dae_ir.specs.Deeds.{told_on}
use Rattle.dae_ir.specs.Form.{form_of}
use Rattle.dae_ir.specs.Programs.{body_in, AreFunctionsOf, IsPairOf}
use Rattle.dae_ir.specs.Rounds.{rounds}
use Rattle.dae_ir.specs.Streams.{Actions, actions_of}
use Rattle.dae_ir.specs.declared.form.Function.{Function}
use Rattle.dae_ir.specs.declared.form.Ir.{Ir}
use Rattle.dae_ir.specs.declared.stream.Class.{Class}
use Rattle.dae_ir.specs.declared.stream.Pair.{Pair}
use Rattle.dae_ir.specs.declared.stream.Action.{Action}
use Rattle.dae_ir.specs.declared.stream.Action.TheVariants.{Set, Issue, Own, Receive, Address, Datum, Offer, Accept, Emit, Probe, Tell, Hear, Stop, Break, Continue, Call, Return}
use Rattle.dae_ir.specs.declared.stream.Branch.{Branch}
use Rattle.dae_ir.specs.declared.stream.Branch.TheVariants.{Silent, Tells, Hears}
use Rattle.dae_ir.specs.declared.stream.StreamFunction.{StreamFunction}
use Rattle.dae_ir_pair.specs.Budget.{Covers, BudgetCovers}
use Rattle.dae_link_faithful.specs.Uses.{action_queue, branch_queue, IsOfSide, AllUntouched, IsBalanced}
use Rattle.dae_link_faithful.proofs.Counting.{AllCode, all_counted, largest_zero, standing, stands_zero}
use Rattle.dae_link_faithful.proofs.Taking.{AMay, EMay, HearsWith, stream_a, stream_e}

no_queue : {X : Type 0} (q : Queue) → None ≡ Some q → X
no_queue q e = absurd (let x : None ≡ Some q = e in cc)

-- ---- two facts of each action

both_each : {I J K : Action → Type 0} {L M N : Branch → Type 0} → ((a : Action) → I a → J a → K a) → ((b : Branch) → L b → M b → N b) → (code : Actions) → Each I L code → Each J M code → Each K N code
both_each f h Done x y = tt
both_each f h (Do mark a k) x y = (f a x.0 y.0, both_each f h k x.1 y.1)
both_each f h (If mark b p q k) x y = (h b x.0 y.0, both_each f h p x.1 y.1, both_each f h q x.2 y.2, both_each f h k x.3 y.3)
both_each f h (Loop mark p q k) x y = (both_each f h p x.0 y.0, both_each f h q x.1 y.1, both_each f h k x.2 y.2)

both_all : {I J K : Action → Type 0} {L M N : Branch → Type 0} → ((a : Action) → I a → J a → K a) → ((b : Branch) → L b → M b → N b) → (fs : List StreamFunction) → AllCode I L fs → AllCode J M fs → AllCode K N fs
both_all f h [] x y = tt
both_all f h (g ∷ fs) x y = (both_each f h (actions_of g.body) x.0 y.0, both_all f h fs x.1 y.1)

map_all : {I K : Action → Type 0} {L N : Branch → Type 0} → ((a : Action) → I a → K a) → ((b : Branch) → L b → N b) → (fs : List StreamFunction) → AllCode I L fs → AllCode K N fs
map_all f h fs x = both_all (λ a y z. f a y) (λ b y z. h b y) fs x x

-- ---- what an action uses has its place in the budget

module _ (d : Depths) where
  abbrev Placed : Option Queue → Type 0
  Placed o = (q : Queue) → o ≡ Some q → 1 ≤ depth q d

  at : (k : Queue) → 1 ≤ depth k d → Placed (Some k)
  at k h q e = subst (λ (j : Queue). 1 ≤ depth j d) (same_Some k q e) h

  abbrev CountedA : Action → Type 0
  CountedA a = (is_load_for_e a ≡ true → 1 ≤ d.ld) × (is_own_load a ≡ true → 1 ≤ d.al) × (is_address a ≡ true → 1 ≤ d.sa) × (is_message a ≡ true → 1 ≤ d.ab) × (is_copy a ≡ true → 1 ≤ d.cq)

  abbrev CountedE : Action → Type 0
  CountedE a = (is_datum a ≡ true → 1 ≤ d.sd) × (is_message a ≡ true → 1 ≤ d.eb)

  placed_a : (a : Action) → AMay d a → CountedA a → Placed (action_queue true a)
  placed_a (Set v x) may n = λ q e. no_queue q e
  placed_a (Issue kind x) may n = at Ld (n.0 refl)
  placed_a (Own v kind x) may n = at Al (n.1 refl)
  placed_a (Receive v) may n = absurd may
  placed_a (Address width x) may n = at Sa (n.2 refl)
  placed_a (Datum x) may n = absurd may
  placed_a (Offer v) may n = at Cq (n.4 refl)
  placed_a (Accept v) may n = absurd may
  placed_a (Emit spelling x) may n = λ q e. no_queue q e
  placed_a (Probe check) may n = at Ab (n.3 refl)
  placed_a (Tell x) may n = at Ab (n.3 refl)
  placed_a (Hear only) may n = at Eb may
  placed_a (Stop x) may n = λ q e. no_queue q e
  placed_a Break may n = λ q e. no_queue q e
  placed_a Continue may n = λ q e. no_queue q e
  placed_a (Call v f xs) may n = λ q e. no_queue q e
  placed_a (Return x) may n = λ q e. no_queue q e

  placed_e : (a : Action) → EMay d a → CountedE a → Placed (action_queue false a)
  placed_e (Set v x) may n = λ q e. no_queue q e
  placed_e (Issue kind x) may n = absurd may
  placed_e (Own v kind x) may n = absurd may
  placed_e (Receive v) may n = at Ld may
  placed_e (Address width x) may n = absurd may
  placed_e (Datum x) may n = at Sd (n.0 refl)
  placed_e (Offer v) may n = absurd may
  placed_e (Accept v) may n = at Cq may
  placed_e (Emit spelling x) may n = λ q e. no_queue q e
  placed_e (Probe check) may n = at Eb (n.1 refl)
  placed_e (Tell x) may n = at Eb (n.1 refl)
  placed_e (Hear only) may n = at Ab may
  placed_e (Stop x) may n = λ q e. no_queue q e
  placed_e Break may n = λ q e. no_queue q e
  placed_e Continue may n = λ q e. no_queue q e
  placed_e (Call v f xs) may n = λ q e. no_queue q e
  placed_e (Return x) may n = λ q e. no_queue q e

  branch_a : (b : Branch) → HearsWith d d.eb b → (is_told b ≡ true → 1 ≤ d.ab) → Placed (branch_queue true b)
  branch_a (Silent t) may n = λ q e. no_queue q e
  branch_a (Tells t) may n = at Ab (n refl)
  branch_a Hears may n = at Eb may

  branch_e : (b : Branch) → HearsWith d d.ab b → (is_told b ≡ true → 1 ≤ d.eb) → Placed (branch_queue false b)
  branch_e (Silent t) may n = λ q e. no_queue q e
  branch_e (Tells t) may n = at Eb (n refl)
  branch_e Hears may n = at Ab may

  side_a : (a : Action) → AMay d a → IsOfSide true a
  side_a (Set v x) may = tt
  side_a (Issue kind x) may = refl
  side_a (Own v kind x) may = refl
  side_a (Receive v) may = absurd may
  side_a (Address width x) may = refl
  side_a (Datum x) may = absurd may
  side_a (Offer v) may = refl
  side_a (Accept v) may = absurd may
  side_a (Emit spelling x) may = tt
  side_a (Probe check) may = tt
  side_a (Tell x) may = tt
  side_a (Hear only) may = tt
  side_a (Stop x) may = tt
  side_a Break may = tt
  side_a Continue may = tt
  side_a (Call v f xs) may = tt
  side_a (Return x) may = tt

  side_e : (a : Action) → EMay d a → IsOfSide false a
  side_e (Set v x) may = tt
  side_e (Issue kind x) may = absurd may
  side_e (Own v kind x) may = absurd may
  side_e (Receive v) may = refl
  side_e (Address width x) may = absurd may
  side_e (Datum x) may = refl
  side_e (Offer v) may = absurd may
  side_e (Accept v) may = refl
  side_e (Emit spelling x) may = tt
  side_e (Probe check) may = tt
  side_e (Tell x) may = tt
  side_e (Hear only) may = tt
  side_e (Stop x) may = tt
  side_e Break may = tt
  side_e Continue may = tt
  side_e (Call v f xs) may = tt
  side_e (Return x) may = tt

-- ---- where nothing uses a queue, nothing of it is counted

abbrev Kinds : Bool → Action → Type 0
Kinds by_a a =
    (is_load_for_e a ≡ true → action_queue by_a a ≡ Some Ld) × (is_own_load a ≡ true → action_queue by_a a ≡ Some Al) × (is_address a ≡ true → action_queue by_a a ≡ Some Sa)
    × (is_datum a ≡ true → action_queue by_a a ≡ Some Sd) × (is_message a ≡ true → action_queue by_a a ≡ Some (told_on by_a)) × (is_copy a ≡ true → action_queue by_a a ≡ Some Cq)

kinds : (by_a : Bool) (a : Action) → Kinds by_a a
kinds by_a (Set v x) = ((λ e. no_true e), (λ e. no_true e), (λ e. no_true e), (λ e. no_true e), (λ e. no_true e), (λ e. no_true e))
kinds by_a (Issue kind x) = ((λ e. refl), (λ e. no_true e), (λ e. no_true e), (λ e. no_true e), (λ e. no_true e), (λ e. no_true e))
kinds by_a (Own v kind x) = ((λ e. no_true e), (λ e. refl), (λ e. no_true e), (λ e. no_true e), (λ e. no_true e), (λ e. no_true e))
kinds by_a (Receive v) = ((λ e. no_true e), (λ e. no_true e), (λ e. no_true e), (λ e. no_true e), (λ e. no_true e), (λ e. no_true e))
kinds by_a (Address width x) = ((λ e. no_true e), (λ e. no_true e), (λ e. refl), (λ e. no_true e), (λ e. no_true e), (λ e. no_true e))
kinds by_a (Datum x) = ((λ e. no_true e), (λ e. no_true e), (λ e. no_true e), (λ e. refl), (λ e. no_true e), (λ e. no_true e))
kinds by_a (Offer v) = ((λ e. no_true e), (λ e. no_true e), (λ e. no_true e), (λ e. no_true e), (λ e. no_true e), (λ e. refl))
kinds by_a (Accept v) = ((λ e. no_true e), (λ e. no_true e), (λ e. no_true e), (λ e. no_true e), (λ e. no_true e), (λ e. no_true e))
kinds by_a (Emit spelling x) = ((λ e. no_true e), (λ e. no_true e), (λ e. no_true e), (λ e. no_true e), (λ e. no_true e), (λ e. no_true e))
kinds by_a (Probe check) = ((λ e. no_true e), (λ e. no_true e), (λ e. no_true e), (λ e. no_true e), (λ e. refl), (λ e. no_true e))
kinds by_a (Tell x) = ((λ e. no_true e), (λ e. no_true e), (λ e. no_true e), (λ e. no_true e), (λ e. refl), (λ e. no_true e))
kinds by_a (Hear only) = ((λ e. no_true e), (λ e. no_true e), (λ e. no_true e), (λ e. no_true e), (λ e. no_true e), (λ e. no_true e))
kinds by_a (Stop x) = ((λ e. no_true e), (λ e. no_true e), (λ e. no_true e), (λ e. no_true e), (λ e. no_true e), (λ e. no_true e))
kinds by_a Break = ((λ e. no_true e), (λ e. no_true e), (λ e. no_true e), (λ e. no_true e), (λ e. no_true e), (λ e. no_true e))
kinds by_a Continue = ((λ e. no_true e), (λ e. no_true e), (λ e. no_true e), (λ e. no_true e), (λ e. no_true e), (λ e. no_true e))
kinds by_a (Call v f xs) = ((λ e. no_true e), (λ e. no_true e), (λ e. no_true e), (λ e. no_true e), (λ e. no_true e), (λ e. no_true e))
kinds by_a (Return x) = ((λ e. no_true e), (λ e. no_true e), (λ e. no_true e), (λ e. no_true e), (λ e. no_true e), (λ e. no_true e))

told : (by_a : Bool) (b : Branch) → is_told b ≡ true → branch_queue by_a b ≡ Some (told_on by_a)
told by_a (Silent t) e = no_true e
told by_a (Tells t) e = refl
told by_a Hears e = no_true e

-- ---- a whole pair

module _ (of : ℕ → Classes) (d : Depths) (cap : ℕ) where
  streams_a : (k : ℕ) (fs : List Function) (gs : List StreamFunction) → AreFunctionsOf true of cap k fs gs → ((i : ℕ) → Covers (of (k + i)) d (rounds (of (k + i)) cap true (body_in (slice_get fs i)) [])) → AllCode (AMay d) (HearsWith d d.eb) gs
  streams_a k [] [] is covers = tt
  streams_a k [] (g ∷ gs) is covers = absurd is
  streams_a k (f ∷ fs) [] is covers = absurd is
  streams_a k (f ∷ fs) (g ∷ gs) is covers = (
    subst (λ (code : Actions). Each (AMay d) (HearsWith d d.eb) code) (sym is.0.body)
        (stream_a d of (of k) cap (form_of f.body) (subst (λ (n : ℕ). Covers (of n) d (rounds (of n) cap true (form_of f.body) [])) (omega arith) (covers 0))),
    streams_a (k + 1) fs gs is.1 (λ i. subst (λ (n : ℕ). Covers (of n) d (rounds (of n) cap true (body_in (slice_get fs i)) [])) (omega arith) (covers (suc i))),
  )

  streams_e : (k : ℕ) (fs : List Function) (gs : List StreamFunction) → AreFunctionsOf false of cap k fs gs → ((i : ℕ) → Covers (of (k + i)) d (rounds (of (k + i)) cap true (body_in (slice_get fs i)) [])) → AllCode (EMay d) (HearsWith d d.ab) gs
  streams_e k [] [] is covers = tt
  streams_e k [] (g ∷ gs) is covers = absurd is
  streams_e k (f ∷ fs) [] is covers = absurd is
  streams_e k (f ∷ fs) (g ∷ gs) is covers = (
    subst (λ (code : Actions). Each (EMay d) (HearsWith d d.ab) code) (sym is.0.body)
        (stream_e d of (of k) cap (form_of f.body) (subst (λ (n : ℕ). Covers (of n) d (rounds (of n) cap true (form_of f.body) [])) (omega arith) (covers 0))),
    streams_e (k + 1) fs gs is.1 (λ i. subst (λ (n : ℕ). Covers (of n) d (rounds (of n) cap true (body_in (slice_get fs i)) [])) (omega arith) (covers (suc i))),
  )

module _ (pair : Pair) (d : Depths) (is : IsBudgetOf pair d) where
  abbrev as' : List StreamFunction
  as' = pair.a.functions

  abbrev es : List StreamFunction
  es = pair.e.functions

  counted_a : AllCode (CountedA d) (λ (b : Branch). is_told b ≡ true → 1 ≤ d.ab) as'
  counted_a =
      let loads = all_counted is_load_for_e d.ld as' is.ld.bound in
      let owns = standing is_own_load never d.al as' is.al in
      let addresses = standing is_address never d.sa as' is.sa in
      let messages = standing is_message is_told d.ab as' is.ab in
      let copies = all_counted is_copy d.cq as' is.cq.bound in
      let two : AllCode (λ (a : Action). (is_message a ≡ true → 1 ≤ d.ab) × (is_copy a ≡ true → 1 ≤ d.cq)) (λ (b : Branch). is_told b ≡ true → 1 ≤ d.ab) as'
      = both_all (λ a x y. (x, y)) (λ b x y. x) as' messages copies in
      let three : AllCode (λ (a : Action). (is_address a ≡ true → 1 ≤ d.sa) × (is_message a ≡ true → 1 ≤ d.ab) × (is_copy a ≡ true → 1 ≤ d.cq)) (λ (b : Branch). is_told b ≡ true → 1 ≤ d.ab) as'
      = both_all (λ a x y. (x, y.0, y.1)) (λ b x y. y) as' addresses two in
      let four : AllCode (λ (a : Action). (is_own_load a ≡ true → 1 ≤ d.al) × (is_address a ≡ true → 1 ≤ d.sa) × (is_message a ≡ true → 1 ≤ d.ab) × (is_copy a ≡ true → 1 ≤ d.cq)) (λ (b : Branch). is_told b ≡ true → 1 ≤ d.ab) as'
      = both_all (λ a x y. (x, y.0, y.1, y.2)) (λ b x y. y) as' owns three in
      both_all (λ a x y. (x, y.0, y.1, y.2, y.3)) (λ b x y. y) as' loads four

  counted_e : AllCode (CountedE d) (λ (b : Branch). is_told b ≡ true → 1 ≤ d.eb) es
  counted_e =
      let data' = standing is_datum never d.sd es is.sd in
      let messages = standing is_message is_told d.eb es is.eb in
      both_all (λ a x y. (x, y)) (λ b x y. y) es data' messages

  -- no action or branch of a kind, where the queue isn't touched
  none_of : (by_a : Bool) (q : Queue) (f : Action → Bool) (h : Branch → Bool) (fs : List StreamFunction) → ((a : Action) → f a ≡ true → action_queue by_a a ≡ Some q) → ((b : Branch) → h b ≡ true → branch_queue by_a b ≡ Some q)
      → AllUntouched by_a q fs → AllCode (λ (a : Action). f a ≡ false) (λ (b : Branch). h b ≡ false) fs
  none_of by_a q f h fs uses decides free = map_all (λ a ne. false_from_ne_true (f a) (λ e. ne (uses a e))) (λ b ne. false_from_ne_true (h b) (λ e. ne (decides b e))) fs free

  any_branch : (f : Action → Bool) (fs : List StreamFunction) → AllCode (λ (a : Action). f a ≡ false) (λ (b : Branch). never b ≡ false) fs → AllCode (λ (a : Action). f a ≡ false) (λ (b : Branch). Unit {0}) fs
  any_branch f fs h = map_all (λ a e. e) (λ b e. tt) fs h

  back : (q : Queue) → AllUntouched true q as' → AllUntouched false q es → depth q d ≡ 0
  back Ld a e = largest_zero is_load_for_e d.ld as' is.ld (any_branch is_load_for_e as' (none_of true Ld is_load_for_e never as' (λ x. (kinds true x).0) (λ b h. no_true h) a))
  back Al a e = is.al ∙ stands_zero is_own_load never as' (none_of true Al is_own_load never as' (λ x. (kinds true x).1) (λ b h. no_true h) a)
  back Sa a e = is.sa ∙ stands_zero is_address never as' (none_of true Sa is_address never as' (λ x. (kinds true x).2) (λ b h. no_true h) a)
  back Sd a e = is.sd ∙ stands_zero is_datum never es (none_of false Sd is_datum never es (λ x. (kinds false x).3) (λ b h. no_true h) e)
  back Ab a e = is.ab ∙ stands_zero is_message is_told as' (none_of true Ab is_message is_told as' (λ x. (kinds true x).4) (told true) a)
  back Eb a e = is.eb ∙ stands_zero is_message is_told es (none_of false Eb is_message is_told es (λ x. (kinds false x).4) (told false) e)
  back Cq a e = largest_zero is_copy d.cq as' is.cq (any_branch is_copy as' (none_of true Cq is_copy never as' (λ x. (kinds true x).5) (λ b h. no_true h) a))

  module _ (a : AllCode (AMay d) (HearsWith d d.eb) as') (e : AllCode (EMay d) (HearsWith d d.ab) es) where
    free_at : (q : Queue) (o : Option Queue) → depth q d ≡ 0 → Placed d o → o ≢ Some q
    free_at q o zero placed = λ same. absurd (let some = placed q same in omega arith)

    there : (q : Queue) → depth q d ≡ 0 → AllUntouched true q as' × AllUntouched false q es
    there q zero = (
      both_all (λ x may n. free_at q (action_queue true x) zero (placed_a d x may n)) (λ b may n. free_at q (branch_queue true b) zero (branch_a d b may n)) as' a counted_a,
      both_all (λ x may n. free_at q (action_queue false x) zero (placed_e d x may n)) (λ b may n. free_at q (branch_queue false b) zero (branch_e d b may n)) es e counted_e,
    )

    balanced : IsBalanced pair d
    balanced = record {
      a = map_all (side_a d) (λ b h. tt) as' a;
      e = map_all (side_e d) (λ b h. tt) es e;
      exact = λ q. ((λ zero. there q zero), (λ free. back q free.0 free.1));
    }

pub pair_uses : BudgetCovers → (ir : Ir) (tables : List (List Class)) (cap : ℕ) (pair : Pair) (d : Depths) → IsPairOf ir tables cap pair → IsBudgetOf pair d → IsBalanced pair d
pair_uses law ir tables cap pair d is budget =
    let covers = law ir tables cap pair d is budget in
    let at_once : (i : ℕ) → Covers (classes_of tables (0 + i)) d (rounds (classes_of tables (0 + i)) cap true (body_in (slice_get ir.functions i)) []) =
    λ i. subst (λ (n : ℕ). Covers (classes_of tables n) d (rounds (classes_of tables n) cap true (body_in (slice_get ir.functions i)) [])) (omega arith) (covers i) in
    balanced pair d budget (streams_a (classes_of tables) d cap 0 ir.functions pair.a.functions is.a.functions at_once) (streams_e (classes_of tables) d cap 0 ir.functions pair.e.functions is.e.functions at_once)
