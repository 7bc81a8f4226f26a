-- What is told of loops: what is live where a turn begins, by what is so with nothing behind the loop; and what is told as code is
-- walked over.
use Rattle.std.proofs.Common.{◌≡◌, ℕ, zero, suc, ◌+◌, ◌-◌, ◌<◌, ◌≤◌, Bool, true, false, ◌&&◌, ◌||◌, not, cond, if◌then◌else◌, nat_eq, List, [], ◌∷◌, length, drop, get_or, Option, Some, None, is_some, refl, ap, sym, subst, ◌∙◌, arith, eqb-true, eq-eqb}
use Rattle.std.proofs.lemmas.Bool.{or_right}
use Rattle.std.proofs.lemmas.List.{drop_all}
use Rattle.std.specs.Prelude.{Vec}
use Rattle.std.specs.declared.alloc.Global.{Global}
use Rattle.dae_base.proofs.Laws.{drop_at}
use Rattle.dae_ir.specs.Code.{Done, Do, If, Loop}
use Rattle.dae_ir.specs.Classes.{VariableSet}
use Rattle.dae_ir.specs.Streams.{Actions, actions_of, step_onto}
use Rattle.dae_ir.specs.declared.stream.Mark.{Mark}
use Rattle.dae_ir.specs.declared.stream.Action.{Action}
use Rattle.dae_ir.specs.declared.stream.Action.TheVariants.{Break}
use Rattle.dae_ir.specs.declared.stream.Branch.{Branch}
use Rattle.dae_ir.specs.declared.stream.Step.{Step, Act, If', Loop'}
use Rattle.dae_ir.specs.declared.stream.Step.TheVariants as step
use Rattle.dae_select_walks.specs.Live.{LiveWays, ways, behind, live, turn, none, with_all, decided}
use Rattle.dae_select_walks.specs.Facts.{only_leaves}
use Rattle.dae_select_walks.proofs.LawsOfWalks.{turn_adds}
use Rattle.dae_select_live.specs.Members.{member}
use Rattle.dae_select_live.specs.Turns.{key_of, IsTurn, IsTurnTold, Told, TellsTurns, IsLater, AreToldLater, leaves_at_once}
use Rattle.dae_select_live.proofs.Laws.{onto_if, onto_loop}

-- ---- turns that leave at once

break_is_live : (q : Actions) (x : LiveWays) (u : ℕ) → only_leaves q ≡ true → x.leaves u ≡ true → live q x u ≡ true
break_is_live (Do m Break Done) x u only h = ap (λ (b : Bool). b && not false) h
break_is_live q x u only h = absurd cc

-- what is live behind the loop is live where a turn begins
stays_live : (body step : Actions) → leaves_at_once body ≡ true → (n : VariableSet) (u : ℕ) → n u ≡ true → turn body step n u ≡ true
stays_live Done step' at_once n u h = absurd cc
stays_live (Do m a k) step' at_once n u h = absurd cc
stays_live (If m b p q k) step' at_once n u h =
    let x : LiveWays = ways (live step' (ways none n none)) n (live step' (ways none n none)) in
    let inner : LiveWays = behind (live k x) x in
    or_right (decided b u) (live p inner u || live q inner u) (or_right (live p inner u) (live q inner u) (break_is_live q inner u at_once h))
stays_live (Loop m body again k) step' at_once n u h = absurd cc

-- ---- one loop, walked through with nothing behind it if its turns leave at once, and else with what is there

module _ (body step' : Actions) (n t : VariableSet) where
  abbrev next_is : Bool → VariableSet
  next_is b = if b then none else n

  pub turn_found : (b : Bool) → leaves_at_once body ≡ b → t ≡ turn body step' (next_is b) → (if b then with_all t n else t) ≡ turn body step' n
  turn_found true at_once e =
      ap (λ (s : VariableSet). with_all s n) e ∙ sym (turn_adds body step' (stays_live body step' at_once) n)
  turn_found false at_once e = e

  pub turn_told : (b : Bool) (set : List ℕ) → leaves_at_once body ≡ b → member set ≡ t → t ≡ turn body step' (next_is b) → IsTurn body step' (if b then Some set else None)
  turn_told true set at_once is e = λ (m : VariableSet).
      turn_adds body step' (stays_live body step' at_once) m ∙ ap (λ (s : VariableSet). with_all s m) (sym (is ∙ e))
  turn_told false set at_once is e = tt

-- ---- what is told later

pub same_later : (x : Option (Option (List ℕ))) → IsLater x x
same_later None = tt
same_later (Some None) = tt
same_later (Some (Some set)) = refl

pub none_later : (x : Option (Option (List ℕ))) → IsLater x (Some None)
none_later None = tt
none_later (Some row) = tt

later_then : (x y z : Option (Option (List ℕ))) → IsLater x y → IsLater y z → IsLater x z
later_then None y z first second = tt
later_then (Some row) None z first second = absurd first
later_then (Some row) (Some other) None first second = absurd second
later_then (Some row) (Some other) (Some None) first second = tt
later_then (Some row) (Some None) (Some (Some set)) first second = absurd cc
later_then (Some row) (Some (Some other)) (Some (Some set)) first second = first ∙ second

pub all_same : (told : Told) → AreToldLater told told
all_same told = λ k. same_later (told k)

pub all_later : (one two three : Told) → AreToldLater one two → AreToldLater two three → AreToldLater one three
all_later one two three first second = λ k. later_then (one k) (two k) (three k) (first k) (second k)

told_on : (body step' : Actions) (x y : Option (Option (List ℕ))) → IsLater x y → IsTurnTold body step' x → IsTurnTold body step' y
told_on body step' None y later told = absurd told
told_on body step' (Some row) None later told = absurd later
told_on body step' (Some row) (Some None) later told = tt
told_on body step' (Some row) (Some (Some set)) later told = subst (IsTurn body step') later told

pub tells_on : (old new : Told) → AreToldLater old new → (code : Actions) → TellsTurns old code → TellsTurns new code
tells_on old new later Done h = tt
tells_on old new later (Do m a k) h = tells_on old new later k h
tells_on old new later (If m b p q k) h =
    (tells_on old new later p h.0, tells_on old new later q h.1, tells_on old new later k h.2)
tells_on old new later (Loop m body step' k) h =
    (told_on body step' (old (key_of m)) (new (key_of m)) (later (key_of m)) h.0, tells_on old new later body h.1, tells_on old new later step' h.2, tells_on old new later k h.3)

-- ---- one row is set

module _ (old new : Told) (key : ℕ) (row : Option (List ℕ)) (set : (k : ℕ) → new k ≡ cond (nat_eq key k) (Some row) (old k)) where
  pub put_later : ((k : ℕ) → nat_eq key k ≡ true → IsLater (old k) (Some row)) → AreToldLater old new
  put_later here k = by (nat_eq key k) refl (set k)
    where
      by : (b : Bool) → nat_eq key k ≡ b → new k ≡ cond b (Some row) (old k) → IsLater (old k) (new k)
      by true is e = subst (λ (y : Option (Option (List ℕ))). IsLater (old k) y) (sym e) (here k is)
      by false is e = subst (λ (y : Option (Option (List ℕ))). IsLater (old k) y) (sym e) (same_later (old k))

  pub put_told : (at : ℕ) → key ≡ at → (body step' : Actions) → IsTurn body step' row → IsTurnTold body step' (new at)
  put_told at is body step' told =
      let same : nat_eq key at ≡ true = eq-eqb key at is in
      subst (λ (y : Option (Option (List ℕ))). IsTurnTold body step' y) (sym (set at ∙ ap (λ (b : Bool). cond b (Some row) (old at)) same)) told

  pub absent_later : is_some (old key) ≡ false → (k : ℕ) → nat_eq key k ≡ true → IsLater (old k) (Some row)
  absent_later absent k is = by (old k) (ap (λ (i : ℕ). is_some (old i)) (sym (eqb-true key k is)) ∙ absent)
    where
      by : (x : Option (Option (List ℕ))) → is_some x ≡ false → IsLater x (Some row)
      by None e = tt
      by (Some other) e = absurd cc

-- ---- a step

module _ (told : Told) where
  pub tells_acted : (s : Step) (m : Mark) (a : Action) (k : Actions) → s ≡ step.Act m a → TellsTurns told k → TellsTurns told (step_onto s k)
  tells_acted s m a k is h = subst (λ (z : Step). TellsTurns told (step_onto z k)) (sym is) h

  pub tells_branched : (s : Step) (m : Mark) (b : Branch) (p q : Vec Step Global) (k : Actions) → s ≡ step.If m b p q → TellsTurns told (actions_of p.items) → TellsTurns told (actions_of q.items) → TellsTurns told k → TellsTurns told (step_onto s k)
  tells_branched s m b p q k is first second rest =
      subst (TellsTurns told) (sym (ap (λ (z : Step). step_onto z k) is ∙ onto_if m b p q k)) (first, second, rest)

  pub tells_looped : (s : Step) (m : Mark) (p q : Vec Step Global) (k : Actions) → s ≡ step.Loop m p q → IsTurnTold (actions_of p.items) (actions_of q.items) (told (key_of m)) → TellsTurns told (actions_of p.items) → TellsTurns told (actions_of q.items) → TellsTurns told k → TellsTurns told (step_onto s k)
  tells_looped s m p q k is here first second rest =
      subst (TellsTurns told) (sym (ap (λ (z : Step). step_onto z k) is ∙ onto_loop m p q k)) (here, first, second, rest)

  -- and of what is in a step
  pub told_in_if : (s : Step) (m : Mark) (b : Branch) (p q : Vec Step Global) → s ≡ step.If m b p q → TellsTurns told (step_onto s Done) → TellsTurns told (actions_of p.items) × TellsTurns told (actions_of q.items)
  told_in_if s m b p q is h =
      let parts = subst (TellsTurns told) (ap (λ (z : Step). step_onto z Done) is ∙ onto_if m b p q Done) h in
      (parts.0, parts.1)

  pub told_in_loop : (s : Step) (m : Mark) (p q : Vec Step Global) → s ≡ step.Loop m p q → TellsTurns told (step_onto s Done) → IsTurnTold (actions_of p.items) (actions_of q.items) (told (key_of m)) × (TellsTurns told (actions_of p.items) × TellsTurns told (actions_of q.items))
  told_in_loop s m p q is h =
      let parts = subst (TellsTurns told) (ap (λ (z : Step). step_onto z Done) is ∙ onto_loop m p q Done) h in
      (parts.0, (parts.1, parts.2))

  -- ---- a list of steps

  told_apart : (s : Step) (k : Actions) → TellsTurns told (step_onto s k) → TellsTurns told (step_onto s Done) × TellsTurns told k
  told_apart (Act m a) k h = (tt, h)
  told_apart (If' m b s p t q) k h = ((h.0, h.1, tt), h.2)
  told_apart (Loop' m s p t q) k h = ((h.0, h.1, h.2, tt), h.3)

  pub told_behind : (steps : List Step) (i : ℕ) → TellsTurns told (actions_of steps) → TellsTurns told (actions_of (drop i steps))
  told_behind steps zero h = h
  told_behind [] (suc i) h = tt
  told_behind (s ∷ steps) (suc i) h = told_behind steps i (told_apart s (actions_of steps) h).1

  pub told_at : (steps : List Step) (i : ℕ) (s : Step) → i < length steps → s ≡ get_or steps i s → TellsTurns told (actions_of steps) → TellsTurns told (step_onto s Done)
  told_at steps i s lt is h =
      let rest = subst (λ (l : List Step). TellsTurns told (actions_of l)) (drop_at steps i s lt is) (told_behind steps i h) in
      (told_apart s (actions_of (drop (i + 1) steps)) rest).0

  pub tells_none : (steps : List Step) → TellsTurns told (actions_of (drop (length steps) steps))
  tells_none steps = (let none : drop (length steps) steps ≡ [] = drop_all (length steps) steps (omega arith) in rw none tt)

-- one more step is walked over, the list's last one first
pub tells_one_more : (old new : Told) (steps : List Step) (j : ℕ) (s : Step) → 0 < j → j ≤ length steps → s ≡ get_or steps (j - 1) s → TellsTurns old (actions_of (drop j steps)) → AreToldLater old new
    → ((k : Actions) → TellsTurns new k → TellsTurns new (step_onto s k)) → TellsTurns new (actions_of (drop (j - 1) steps))
tells_one_more old new steps j s some le is so_far later one =
    let back : j - 1 + 1 ≡ j = omega arith in
    let here : drop (j - 1) steps ≡ s ∷ drop j steps = drop_at steps (j - 1) s (omega arith) is ∙ ap (λ (i : ℕ). s ∷ drop i steps) back in
    subst (λ (l : List Step). TellsTurns new (actions_of l)) (sym here) (one (actions_of (drop j steps)) (tells_on old new later (actions_of (drop j steps)) so_far))

-- with no step nothing more is live
pub live_none : (steps : List Step) (x : LiveWays) → live (actions_of (drop (length steps) steps)) x ≡ x.next
live_none steps x = (let none : drop (length steps) steps ≡ [] = drop_all (length steps) steps (omega arith) in rw none refl)

-- ---- the test whether a turn leaves at once

pub stays_by_none : (body : List Step) → length body ≡ 0 → false ≡ leaves_at_once (actions_of body)
stays_by_none [] none = refl
stays_by_none (x ∷ xs) none = absurd (omega arith)

pub leaves_by_if : (body : List Step) (s : Step) (m : Mark) (b : Branch) (p q : Vec Step Global) → 0 < length body → s ≡ get_or body 0 s → s ≡ step.If m b p q
    → only_leaves (actions_of q.items) ≡ leaves_at_once (actions_of body)
leaves_by_if [] s m b p q some is e = absurd (omega arith)
leaves_by_if (x ∷ xs) s m b p q some is e =
    sym (ap (λ (z : Step). leaves_at_once (step_onto z (actions_of xs))) (sym is ∙ e) ∙ ap leaves_at_once (onto_if m b p q (actions_of xs)))

pub stays_by_act : (body : List Step) (s : Step) (m : Mark) (a : Action) → 0 < length body → s ≡ get_or body 0 s → s ≡ step.Act m a → false ≡ leaves_at_once (actions_of body)
stays_by_act [] s m a some is e = absurd (omega arith)
stays_by_act (x ∷ xs) s m a some is e = sym (ap (λ (z : Step). leaves_at_once (step_onto z (actions_of xs))) (sym is ∙ e))

pub stays_by_loop : (body : List Step) (s : Step) (m : Mark) (p q : Vec Step Global) → 0 < length body → s ≡ get_or body 0 s → s ≡ step.Loop m p q → false ≡ leaves_at_once (actions_of body)
stays_by_loop [] s m p q some is e = absurd (omega arith)
stays_by_loop (x ∷ xs) s m p q some is e =
    sym (ap (λ (z : Step). leaves_at_once (step_onto z (actions_of xs))) (sym is ∙ e) ∙ ap leaves_at_once (onto_loop m p q (actions_of xs)))
