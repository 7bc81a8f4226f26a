-- The budget of a form's pair is at most the cap, and 1 for what isn't counted.
use Rattle.std.proofs.Common.{◌≡◌, ◌⊎◌, inl, inr, ℕ, ◌+◌, ◌<◌, ◌≤◌, Bool, true, false, not, List, [], ◌∷◌, if◌then◌else◌, refl, sym, subst, arith}
use Rattle.std.proofs.lemmas.Bool.{and_right}
use Rattle.dae_ir.specs.Code.{Done, Do, If, Loop, Each}
use Rattle.dae_ir.specs.Form.{Form, form_of}
use Rattle.dae_ir.specs.Classes.{Classes, classes_of}
use Rattle.dae_ir.specs.Rounds.{Group, Alone, Region, Rounds, is_for_e, is_copied, rounds}
use Rattle.dae_ir.specs.Streams.{Actions, stream_of, actions_of}
use Rattle.dae_ir.specs.Programs.{AreFunctionsOf}
use Rattle.dae_ir.specs.Budgets.{is_load_for_e, is_copy, in_group, AllInside, AnyInside, AllLists, AnyList}
use Rattle.dae_ir_pair.specs.Budget.{RoundFits, BudgetIsWithinCap}
use Rattle.dae_ir_pair.proofs.Budget.{rounds_fit, no_parts}
use Rattle.dae_ir_pair.proofs.Small.{region_none}
use Rattle.dae_ir_pair.proofs.Capped.{RegionOk, regions_ok, Capped, bounded, loads_at, copies_at, is_sent}
use Rattle.dae_ir_pair.proofs.Tails.{Bounded}
use Rattle.dae_ir.specs.declared.form.Function.{Function}
use Rattle.dae_ir.specs.declared.stream.Action.{Action}
use Rattle.dae_ir.specs.declared.stream.Action.TheVariants.{Set, Issue, Own, Receive, Address, Datum, Offer, Accept, Emit, Probe, Tell, Hear, Stop, Break, Continue, Call, Return}
use Rattle.dae_ir.specs.declared.stream.StreamFunction.{StreamFunction}

not_load : (x : Action) → is_sent x ≡ false → is_load_for_e x ≡ false
not_load (Issue kind x) h = h
not_load (Set v x) h = refl
not_load (Own v kind x) h = refl
not_load (Receive v) h = refl
not_load (Address width x) h = refl
not_load (Datum x) h = refl
not_load (Offer v) h = refl
not_load (Accept v) h = refl
not_load (Emit spelling x) h = refl
not_load (Probe check) h = refl
not_load (Tell x) h = refl
not_load (Hear only) h = refl
not_load (Stop x) h = refl
not_load Break h = refl
not_load Continue h = refl
not_load (Call v f xs) h = refl
not_load (Return x) h = refl

not_copy : (x : Action) → is_sent x ≡ false → is_copy x ≡ false
not_copy (Offer v) h = h
not_copy (Issue kind x) h = refl
not_copy (Set v x) h = refl
not_copy (Own v kind x) h = refl
not_copy (Receive v) h = refl
not_copy (Address width x) h = refl
not_copy (Datum x) h = refl
not_copy (Accept v) h = refl
not_copy (Emit spelling x) h = refl
not_copy (Probe check) h = refl
not_copy (Tell x) h = refl
not_copy (Hear only) h = refl
not_copy (Stop x) h = refl
not_copy Break h = refl
not_copy Continue h = refl
not_copy (Call v f xs) h = refl
not_copy (Return x) h = refl

module _ (of : ℕ → Classes) (cap : ℕ) (some : 0 < cap) where
  capped_loads : (c : Classes) (r : Rounds) → Each (RoundFits c cap) (λ q. Unit {0}) r → Each (RegionOk c) (λ q. Unit {0}) r → Each (Capped c is_load_for_e (is_for_e c) not_load (loads_at c) of cap) (λ q. Unit {0}) r
  capped_loads c Done h k = tt
  capped_loads c (Do place (Group g last) r) h k = (h.0.0, capped_loads c r h.1 k.1)
  capped_loads c (Do place (Alone jump) r) h k = (tt, capped_loads c r h.1 k.1)
  capped_loads c (Do place (Region true code) r) h k =
      (region_none c cap (is_for_e c) (λ place v x e. refl) (λ place v kind x e. and_right (not (c.s v)) (c.needs v) e) code k.0 [] refl, capped_loads c r h.1 k.1)
  capped_loads c (Do place (Region false code) r) h k = (tt, capped_loads c r h.1 k.1)
  capped_loads c (If place q x y r) h k = (tt, capped_loads c x h.1 k.1, capped_loads c y h.2 k.2, capped_loads c r h.3 k.3)
  capped_loads c (Loop place x y r) h k = (capped_loads c x h.0 k.0, capped_loads c y h.1 k.1, capped_loads c r h.2 k.2)

  capped_copies : (c : Classes) (r : Rounds) → Each (RoundFits c cap) (λ q. Unit {0}) r → Each (RegionOk c) (λ q. Unit {0}) r → Each (Capped c is_copy (is_copied c) not_copy (copies_at c) of cap) (λ q. Unit {0}) r
  capped_copies c Done h k = tt
  capped_copies c (Do place (Group g last) r) h k = (h.0.1, capped_copies c r h.1 k.1)
  capped_copies c (Do place (Alone jump) r) h k = (tt, capped_copies c r h.1 k.1)
  capped_copies c (Do place (Region true code) r) h k =
      (region_none c cap (is_copied c) (λ place v x e. and_right (c.s v) (c.needs v) e) (λ place v kind x e. and_right (c.s v) (c.needs v) e) code k.0 [] refl, capped_copies c r h.1 k.1)
  capped_copies c (Do place (Region false code) r) h k = (tt, capped_copies c r h.1 k.1)
  capped_copies c (If place q x y r) h k = (tt, capped_copies c x h.1 k.1, capped_copies c y h.2 k.2, capped_copies c r h.3 k.3)
  capped_copies c (Loop place x y r) h k = (capped_copies c x h.0 k.0, capped_copies c y h.1 k.1, capped_copies c r h.2 k.2)

  loads_bounded : (c : Classes) (code : Form) → Bounded is_load_for_e cap (stream_of true of c cap code)
  loads_bounded c code =
      let r = rounds c cap true code [] in
      bounded c is_load_for_e (is_for_e c) not_load (loads_at c) of cap r (capped_loads c r (rounds_fit c cap some true code [] (no_parts c cap some)) (regions_ok c cap true code []))

  copies_bounded : (c : Classes) (code : Form) → Bounded is_copy cap (stream_of true of c cap code)
  copies_bounded c code =
      let r = rounds c cap true code [] in
      bounded c is_copy (is_copied c) not_copy (copies_at c) of cap r (capped_copies c r (rounds_fit c cap some true code [] (no_parts c cap some)) (regions_ok c cap true code []))

  -- of each function of the pair
  lists_bounded : (f : Action → Bool) → ((c : Classes) (code : Form) → Bounded f cap (stream_of true of c cap code)) → (k : ℕ) (fs : List Function) (gs : List StreamFunction) → AreFunctionsOf true of cap k fs gs → AllLists (λ l. (g : ℕ) → in_group f g l ≤ cap) gs
  lists_bounded f b k [] [] h = tt
  lists_bounded f b k [] (g ∷ gs) h = absurd h
  lists_bounded f b k (x ∷ fs) [] h = absurd h
  lists_bounded f b k (x ∷ fs) (g ∷ gs) h =
      (subst (Bounded f cap) (sym h.0.body) (b (of k) (form_of x.body)), lists_bounded f b (k + 1) fs gs h.1)

-- the largest is one of them
module _ (f : Action → Bool) (m cap : ℕ) where
  abbrev Is : Actions → Type 0
  Is l = (g : ℕ) × (in_group f g l ≡ m)

  abbrev Few : Actions → Type 0
  Few l = (g : ℕ) → in_group f g l ≤ cap

  one_few : (l : Actions) → Few l → Is l → m ≤ cap
  one_few l h i = omega (arith, h i.0, i.1)

  inside_few : (l : Actions) → AllInside Few l → AnyInside Is l → m ≤ cap
  inside_few Done h i = absurd i
  inside_few (Do o x k) h i = inside_few k h i
  inside_few (If o b p q k) h (inl (inl i)) = one_few p h.0.0 i
  inside_few (If o b p q k) h (inl (inr i)) = inside_few p h.0.1 i
  inside_few (If o b p q k) h (inr (inl (inl i))) = one_few q h.1.0 i
  inside_few (If o b p q k) h (inr (inl (inr i))) = inside_few q h.1.1 i
  inside_few (If o b p q k) h (inr (inr i)) = inside_few k h.2 i
  inside_few (Loop o p q k) h (inl (inl i)) = one_few p h.0.0 i
  inside_few (Loop o p q k) h (inl (inr i)) = inside_few p h.0.1 i
  inside_few (Loop o p q k) h (inr (inl (inl i))) = one_few q h.1.0 i
  inside_few (Loop o p q k) h (inr (inl (inr i))) = inside_few q h.1.1 i
  inside_few (Loop o p q k) h (inr (inr i)) = inside_few k h.2 i

  any_few : (gs : List StreamFunction) → AllLists Few gs → AnyList Is gs → m ≤ cap
  any_few [] h i = absurd i
  any_few (g ∷ gs) h (inl (inl i)) = one_few (actions_of g.body) h.0.0 i
  any_few (g ∷ gs) h (inl (inr i)) = inside_few (actions_of g.body) h.0.1 i
  any_few (g ∷ gs) h (inr i) = any_few gs h.1 i

  largest_few : (gs : List StreamFunction) → AllLists Few gs → (m ≡ 0) ⊎ AnyList Is gs → m ≤ cap
  largest_few gs h (inl z) = omega (arith, z)
  largest_few gs h (inr i) = any_few gs h i

at_most_one : (n : ℕ) (b : Bool) → n ≡ (if b then 1 else 0) → n ≤ 1
at_most_one n true h = omega (arith, h)
at_most_one n false h = omega (arith, h)

pub budget_is_within_cap : BudgetIsWithinCap
budget_is_within_cap ir tables cap pair d some is budget =
    let of = classes_of tables in
    record {
      ld = largest_few is_load_for_e d.ld cap pair.a.functions (lists_bounded of cap some is_load_for_e (loads_bounded of cap some) 0 ir.functions pair.a.functions is.a.functions) budget.ld.met;
      cq = largest_few is_copy d.cq cap pair.a.functions (lists_bounded of cap some is_copy (copies_bounded of cap some) 0 ir.functions pair.a.functions is.a.functions) budget.cq.met;
      al = at_most_one d.al _ budget.al;
      sa = at_most_one d.sa _ budget.sa;
      sd = at_most_one d.sd _ budget.sd;
      ab = at_most_one d.ab _ budget.ab;
      eb = at_most_one d.eb _ budget.eb;
    }
