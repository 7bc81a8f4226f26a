-- What is live before a step, from what is live before the lists in it.
use Rattle.std.proofs.Common.{◌≡◌, ℕ, zero, ◌+◌, ◌-◌, ◌<◌, ◌≤◌, Bool, true, false, ◌||◌, List, ◌∷◌, length, take, drop, get_or, add-one, suc, refl, ap, sym, ◌∙◌, arith, []}
use Rattle.std.specs.Prelude.{Vec, nat_eq}
use Rattle.std.specs.declared.alloc.Global.{Global}
use Rattle.dae_ir.specs.Code.{Done, If, Loop}
use Rattle.dae_ir.specs.Classes.{VariableSet}
use Rattle.dae_ir.specs.Streams.{Actions, actions_of, step_onto, steps_row}
use Rattle.dae_ir.specs.declared.stream.Mark.{Mark}
use Rattle.dae_ir.specs.declared.stream.Action.{Action}
use Rattle.dae_ir.specs.declared.stream.Branch.{Branch}
use Rattle.dae_ir.specs.declared.stream.Step.{Step, If', Loop', Row_of-Step, end_of-Step, more_of-Step, items-the_row-Step, items_hidden-the_row-Step-0}
use Rattle.dae_ir.specs.declared.stream.Step.TheVariants as step
use Rattle.dae_select_walks.specs.Live.{LiveWays, ways, live, before, none, with_all, decided}
use Rattle.dae_select_live.specs.Members.{member}
pub use Rattle.dae_select_live.proofs.Several.{drop_get}
use mathlib.Core.Former.{Count}
use Rattle.dae_base.proofs.Laws.{drop_at, or_along}

-- ---- the lists inside a step

rows : (n : _) (r : Row_of-Step n) → steps_row r Done ≡ actions_of (items-the_row-Step n r)
rows n end_of-Step = refl
rows n (more_of-Step s rest) = ap (step_onto s) (rows _ rest)

abbrev first : Step → (n : Count) × Row_of-Step n
first (If' m b s p u q) = (_, p)
first (Loop' m s p u q) = (_, p)
first _ = (_, end_of-Step)

abbrev second : Step → (n : Count) × Row_of-Step n
second (If' m b s p u q) = (_, q)
second (Loop' m s p u q) = (_, q)
second _ = (_, end_of-Step)

pub onto_if : (m : Mark) (b : Branch) (p q : Vec Step Global) (k : Actions) → step_onto (step.If m b p q) k ≡ If m b (actions_of p.items) (actions_of q.items) k
onto_if m b p q k =
    let x = first (step.If m b p q) in
    let y = second (step.If m b p q) in
    ap (λ (u : Actions). If m b u (steps_row y.1 Done) k) (rows x.0 x.1 ∙ ap actions_of (items_hidden-the_row-Step-0 p))
    ∙ ap (λ (u : Actions). If m b (actions_of p.items) u k) (rows y.0 y.1 ∙ ap actions_of (items_hidden-the_row-Step-0 q))

pub onto_loop : (m : Mark) (p q : Vec Step Global) (k : Actions) → step_onto (step.Loop m p q) k ≡ Loop m (actions_of p.items) (actions_of q.items) k
onto_loop m p q k =
    let x = first (step.Loop m p q) in
    let y = second (step.Loop m p q) in
    ap (λ (u : Actions). Loop m u (steps_row y.1 Done) k) (rows x.0 x.1 ∙ ap actions_of (items_hidden-the_row-Step-0 p))
    ∙ ap (λ (u : Actions). Loop m (actions_of p.items) u k) (rows y.0 y.1 ∙ ap actions_of (items_hidden-the_row-Step-0 q))

-- ---- one step

pub live_acted : (s : Step) (m : Mark) (a : Action) (k : Actions) (x : LiveWays) (next set : VariableSet) → s ≡ step.Act m a → live k x ≡ next → set ≡ before a next x → set ≡ live (step_onto s k) x
live_acted s m a k x next set is e h = h ∙ (ap (λ (n : VariableSet). before a n x) (sym e) ∙ sym (ap (λ (z : Step). live (step_onto z k) x) is))

pub live_branched : (s : Step) (m : Mark) (b : Branch) (p q : Vec Step Global) (k : Actions) (n leaves skips next one other set : VariableSet) → s ≡ step.If m b p q → live k (ways n leaves skips) ≡ next
    → one ≡ live (actions_of p.items) (ways next leaves skips) → other ≡ live (actions_of q.items) (ways next leaves skips) → set ≡ with_all (decided b) (with_all one other)
    → set ≡ live (step_onto s k) (ways n leaves skips)
live_branched s m b p q k n leaves skips next one other set is e h g both =
    let whole : step_onto s k ≡ If m b (actions_of p.items) (actions_of q.items) k = ap (λ (z : Step). step_onto z k) is ∙ onto_if m b p q k in
    let inner : set ≡ live (If m b (actions_of p.items) (actions_of q.items) k) (ways n leaves skips) = rw (both, h, g, sym e) refl in
    inner ∙ sym (ap (λ (c : Actions). live c (ways n leaves skips)) whole)

pub live_looped : (s : Step) (m : Mark) (p q : Vec Step Global) (k : Actions) (n leaves skips next again set : VariableSet) → s ≡ step.Loop m p q → live k (ways n leaves skips) ≡ next
    → again ≡ live (actions_of q.items) (ways none next none) → set ≡ live (actions_of p.items) (ways again next again) → set ≡ live (step_onto s k) (ways n leaves skips)
live_looped s m p q k n leaves skips next again set is e h g =
    let whole : step_onto s k ≡ Loop m (actions_of p.items) (actions_of q.items) k = ap (λ (z : Step). step_onto z k) is ∙ onto_loop m p q k in
    let inner : set ≡ live (Loop m (actions_of p.items) (actions_of q.items) k) (ways n leaves skips) = rw (g, h, sym e) refl in
    inner ∙ sym (ap (λ (c : Actions). live c (ways n leaves skips)) whole)

-- ---- a list

-- so much is live before the steps from the j-th on
abbrev pub LiveFrom : List Step → ℕ → LiveWays → VariableSet → Type 0
LiveFrom steps j x set = live (actions_of (drop j steps)) x ≡ set

pub live_one_more : (steps : List Step) (j : ℕ) (s : Step) (x : LiveWays) (set new : VariableSet) → 0 < j → j ≤ length steps → s ≡ get_or steps (j - 1) s → LiveFrom steps j x set
    → ((k : Actions) → live k x ≡ set → new ≡ live (step_onto s k) x) → LiveFrom steps (j - 1) x new
live_one_more steps j s x set new some le is so_far h =
    let back : j - 1 + 1 ≡ j = omega arith in
    let here : drop (j - 1) steps ≡ s ∷ drop (j - 1 + 1) steps = drop_at steps (j - 1) s (omega arith) is in
    sym (h (actions_of (drop j steps)) so_far ∙ (let e : drop (j - 1) steps ≡ s ∷ drop j steps = here ∙ ap (λ (n : ℕ). s ∷ drop n steps) back in ap (λ (l : List Step). live (actions_of l) x) (sym e)))

-- ---- one variable more of a list

or_last : (b : Bool) → b || false ≡ false || b
or_last true = refl
or_last false = refl

pub member_more : (vs : List ℕ) (i u : ℕ) → i < length vs → member (take (i + 1) vs) u ≡ member (take i vs) u || nat_eq u (get_or vs i 0)
member_more vs i u lt = rw add-one (by vs i lt)
  where
    by : (vs : List ℕ) (i : ℕ) → i < length vs → member (take (suc i) vs) u ≡ member (take i vs) u || nat_eq u (get_or vs i 0)
    by [] i lt = absurd (omega arith)
    by (v ∷ vs) zero lt = or_last (nat_eq u v)
    by (v ∷ vs) (suc i) lt = ap (λ (b : Bool). nat_eq u v || b) (by vs i (omega arith)) ∙ or_along (nat_eq u v) (member (take i vs) u) (nat_eq u (get_or vs i 0))
