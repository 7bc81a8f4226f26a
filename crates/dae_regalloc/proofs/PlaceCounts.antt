-- How many places lists of steps have.
use Rattle.std.proofs.Common.{◌≡◌, ℕ, zero, suc, ◌+◌, ◌-◌, ◌^◌, ◌<◌, ◌≤◌, List, [], ◌∷◌, length, drop, get_or, ap, sym, ◌∙◌, arith}
use Rattle.std.specs.Prelude.{Vec}
use Rattle.std.specs.declared.alloc.Global.{Global}
use Rattle.dae_base.proofs.Laws.{drop_at, least_more, stopped, stopped_sum}
use Rattle.dae_ir.specs.Code.{Done}
use Rattle.dae_ir.specs.Streams.{Actions, actions_of, step_onto}
use Rattle.dae_ir.specs.declared.stream.Mark.{Mark}
use Rattle.dae_ir.specs.declared.stream.Branch.{Branch}
use Rattle.dae_ir.specs.declared.stream.Step.{Step, Act, If', Loop'}
use Rattle.dae_ir.specs.declared.stream.Step.TheVariants as step
use Rattle.dae_select_live.proofs.Laws.{onto_if, onto_loop}
use Rattle.dae_regalloc.specs.Seen.{count_places}

-- a step in front of others
onto_places : (s : Step) (k : Actions) → count_places (step_onto s k) ≡ count_places (step_onto s Done) + count_places k
onto_places (Act m x) k = omega arith
onto_places (If' m b s p t q) k = omega arith
onto_places (Loop' m s p t q) k = omega arith

pub if_places : (m : Mark) (b : Branch) (p q : Vec Step Global) → count_places (step_onto (step.If m b p q) Done) ≡ count_places (actions_of p.items) + count_places (actions_of q.items) + 1
if_places m b p q = ap count_places (onto_if m b p q Done) ∙ omega arith

pub loop_places : (m : Mark) (p q : Vec Step Global) → count_places (step_onto (step.Loop m p q) Done) ≡ count_places (actions_of p.items) + count_places (actions_of q.items) + 1
loop_places m p q = ap count_places (onto_loop m p q Done) ∙ omega arith

-- from a step on
from_places : (steps : List Step) (j : ℕ) (s : Step) → 0 < j → j ≤ length steps → s ≡ get_or steps (j - 1) s
    → count_places (actions_of (drop (j - 1) steps)) ≡ count_places (step_onto s Done) + count_places (actions_of (drop j steps))
from_places steps j s some le is =
    let back : j - 1 + 1 ≡ j = omega arith in
    let here : drop (j - 1) steps ≡ s ∷ drop j steps = drop_at steps (j - 1) s (omega arith) is ∙ ap (λ (i : ℕ). s ∷ drop i steps) back in
    ap (λ (l : List Step). count_places (actions_of l)) here ∙ onto_places s (actions_of (drop j steps))

later_places : (steps : List Step) (i : ℕ) → count_places (actions_of (drop i steps)) ≤ count_places (actions_of steps)
later_places steps zero = omega arith
later_places [] (suc i) = omega arith
later_places (s ∷ steps) (suc i) = let rest = later_places steps i in let e = onto_places s (actions_of steps) in omega (arith, rest, e)

-- room for all is room for a step, where those behind it are seen
pub room_for_step : (steps : List Step) (j : ℕ) (s : Step) (before now : ℕ) → 0 < j → j ≤ length steps → s ≡ get_or steps (j - 1) s
    → now ≡ before + count_places (actions_of (drop j steps)) → before + count_places (actions_of steps) < 2 ^ 32 → now + count_places (step_onto s Done) < 2 ^ 32
room_for_step steps j s before now some le is e room =
    let one = from_places steps j s some le is in let all = later_places steps (j - 1) in omega (arith, e, room, one, all)

-- ---- sums that stop at a number

stopped_more : (x y z a b both r : ℕ) → z ≡ x + y + 1 → a ≡ stopped x → b ≡ stopped y → both ≡ stopped (a + b) → r ≡ stopped (both + 1) → r ≡ stopped z
stopped_more x y z a b both r is e d sum one =
    one ∙ ap (λ (n : ℕ). stopped (n + 1)) (stopped_sum x y a b both e d sum) ∙ least_more (2 ^ 64 - 1) (x + y) (omega arith) ∙ ap stopped (sym is)

pub counted_if : (m : Mark) (b : Branch) (p q : Vec Step Global) (x y both r : ℕ) → x ≡ stopped (count_places (actions_of p.items)) → y ≡ stopped (count_places (actions_of q.items))
    → both ≡ stopped (x + y) → r ≡ stopped (both + 1) → r ≡ stopped (count_places (step_onto (step.If m b p q) Done))
counted_if m b p q x y both r e d sum one = stopped_more (count_places (actions_of p.items)) (count_places (actions_of q.items)) _ x y both r (if_places m b p q) e d sum one

pub counted_loop : (m : Mark) (p q : Vec Step Global) (x y both r : ℕ) → x ≡ stopped (count_places (actions_of p.items)) → y ≡ stopped (count_places (actions_of q.items))
    → both ≡ stopped (x + y) → r ≡ stopped (both + 1) → r ≡ stopped (count_places (step_onto (step.Loop m p q) Done))
counted_loop m p q x y both r e d sum one = stopped_more (count_places (actions_of p.items)) (count_places (actions_of q.items)) _ x y both r (loop_places m p q) e d sum one

-- the places of the steps from the j-th on
abbrev pub CountedFrom : List Step → ℕ → ℕ → Type 0
CountedFrom steps j n = n ≡ stopped (count_places (actions_of (drop j steps)))

pub one_counted : (steps : List Step) (j : ℕ) (s : Step) (sum one all : ℕ) → 0 < j → j ≤ length steps → s ≡ get_or steps (j - 1) s → CountedFrom steps j sum → one ≡ stopped (count_places (step_onto s Done)) → all ≡ stopped (sum + one)
    → CountedFrom steps (j - 1) all
one_counted steps j s sum one all some le is so_far e h =
    let here = count_places (step_onto s Done) in let rest = count_places (actions_of (drop j steps)) in
    let turned : rest + here ≡ here + rest = omega arith in
    stopped_sum rest here sum one all so_far e h ∙ ap stopped (turned ∙ sym (from_places steps j s some le is))
