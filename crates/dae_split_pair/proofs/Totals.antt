-- What the lists inside a step add to a count.
use Rattle.std.proofs.Common.{◌≡◌, ℕ, ◌+◌, ◌<◌, ◌≤◌, max, Bool, true, false, ◌||◌, List, length, drop, get_or, refl, ap, sym, ◌∙◌, arith}
use Rattle.std.specs.Prelude.{Vec}
use Rattle.std.specs.declared.alloc.Global.{Global}
use Rattle.std.proofs.lemmas.List.{drop_all}
use Rattle.dae_ir.specs.Code.{Done, If, Loop}
use Rattle.dae_ir.specs.Streams.{Actions, actions_of, step_onto, steps_row}
use Rattle.dae_ir.specs.Budgets.{some}
use Rattle.dae_ir.specs.declared.stream.Mark.{Mark}
use Rattle.dae_ir.specs.declared.stream.Action.{Action}
use Rattle.dae_ir.specs.declared.stream.Branch.{Branch}
use Rattle.dae_ir.specs.declared.stream.Step.{Step, Act, If', Loop'}
use Rattle.dae_ir.specs.declared.stream.Step.TheVariants.{If as Branching, Loop as Repeating}
use Rattle.dae_split_pair.specs.Tallies.{most, total}
use Rattle.dae_split_pair.specs.declared.kinds.Counted.{Counted}
use Rattle.dae_split_pair.specs.declared.tally.Tally.{Tally}
use Rattle.dae_base.proofs.Laws.{drop_at}
use Rattle.dae_ir.proofs.Laws.{onto_if, onto_loop}

widened : (l p q m : ℕ) → max (max l (max p q)) m ≡ max l (max (max p q) m)
widened l p q m = omega arith

pub if_counted : (kind : Counted) (t new : Tally) (s : Step) (m : Mark) (b : Branch) (p q : Vec Step Global) (x y : ℕ) → s ≡ Branching m b p q
    → x ≡ most kind 0 0 (actions_of p.items) → y ≡ most kind 0 0 (actions_of q.items) → new ≡ record t { largest = max t.largest (max x y) }
    → (k : Actions) → total kind new k ≡ total kind t (step_onto s k)
if_counted kind t new s m b p q x y is px qy n k =
    let e : step_onto s k ≡ If m b (actions_of p.items) (actions_of q.items) k = ap (λ (z : Step). step_onto z k) is ∙ onto_if m b p q k in
    let all : total kind new k ≡ total kind t (If m b (actions_of p.items) (actions_of q.items) k) =
    rw (n, px, qy) (widened t.largest (most kind 0 0 (actions_of p.items)) (most kind 0 0 (actions_of q.items)) (most kind t.group t.count k)) in
    all ∙ ap (total kind t) (sym e)

pub loop_counted : (kind : Counted) (t new : Tally) (s : Step) (m : Mark) (p q : Vec Step Global) (x y : ℕ) → s ≡ Repeating m p q
    → x ≡ most kind 0 0 (actions_of p.items) → y ≡ most kind 0 0 (actions_of q.items) → new ≡ record t { largest = max t.largest (max x y) }
    → (k : Actions) → total kind new k ≡ total kind t (step_onto s k)
loop_counted kind t new s m p q x y is px qy n k =
    let e : step_onto s k ≡ Loop m (actions_of p.items) (actions_of q.items) k = ap (λ (z : Step). step_onto z k) is ∙ onto_loop m p q k in
    let all : total kind new k ≡ total kind t (Loop m (actions_of p.items) (actions_of q.items) k) =
    rw (n, px, qy) (widened t.largest (most kind 0 0 (actions_of p.items)) (most kind 0 0 (actions_of q.items)) (most kind t.group t.count k)) in
    all ∙ ap (total kind t) (sym e)

-- the steps up to the i-th have been counted
abbrev pub IsCounted : Counted → List Step → ℕ → Tally → Type 0
IsCounted kind steps i t = total kind t (actions_of (drop i steps)) ≡ most kind 0 0 (actions_of steps)

-- ---- whether there is an action or a branch

module _ (f : Action → Bool) (h : Branch → Bool) where
  or_same : (a b c : Bool) → (a || (b || (c || false))) ≡ a || (b || c)
  or_same true b c = refl
  or_same false true c = refl
  or_same false false true = refl
  or_same false false false = refl

  or_two : (a b : Bool) → (a || (b || false)) ≡ a || b
  or_two true b = refl
  or_two false true = refl
  or_two false false = refl

  pub if_uses : (s : Step) (m : Mark) (b : Branch) (p q : Vec Step Global) → s ≡ Branching m b p q → some f h (step_onto s Done) ≡ h b || (some f h (actions_of p.items) || some f h (actions_of q.items))
  if_uses s m b p q is = ap (λ (z : Step). some f h (step_onto z Done)) is ∙ ap (some f h) (onto_if m b p q Done) ∙ or_same (h b) (some f h (actions_of p.items)) (some f h (actions_of q.items))

  pub loop_uses : (s : Step) (m : Mark) (p q : Vec Step Global) → s ≡ Repeating m p q → some f h (step_onto s Done) ≡ some f h (actions_of p.items) || some f h (actions_of q.items)
  loop_uses s m p q is = ap (λ (z : Step). some f h (step_onto z Done)) is ∙ ap (some f h) (onto_loop m p q Done) ∙ (or_two (some f h (actions_of p.items)) (some f h (actions_of q.items)))

  step_before : (s : Step) (k : Actions) → some f h (step_onto s k) ≡ some f h (step_onto s Done) || some f h k
  step_before (Act m x) k = one (f x) (some f h k)
    where
      one : (a b : Bool) → a || b ≡ (a || false) || b
      one true b = refl
      one false b = refl
  step_before (If' m b s p u q) k = three (h b) (some f h (steps_row p Done)) (some f h (steps_row q Done)) (some f h k)
    where
      three : (a b c d : Bool) → (a || (b || (c || d))) ≡ (a || (b || (c || false))) || d
      three true b c d = refl
      three false true c d = refl
      three false false true d = refl
      three false false false d = refl
  step_before (Loop' m s p u q) k = two (some f h (steps_row p Done)) (some f h (steps_row q Done)) (some f h k)
    where
      two : (a b c : Bool) → (a || (b || c)) ≡ (a || (b || false)) || c
      two true b c = refl
      two false true c = refl
      two false false c = refl

  -- what is left of the steps says whether all have one
  abbrev pub Left : List Step → ℕ → Type 0
  Left steps i = some f h (actions_of (drop i steps)) ≡ some f h (actions_of steps)

  split : (steps : List Step) (i : ℕ) (s : Step) → i < length steps → s ≡ get_or steps i s → Left steps i → some f h (step_onto s Done) || some f h (actions_of (drop (i + 1) steps)) ≡ some f h (actions_of steps)
  split steps i s lt is so_far =
      sym (step_before s (actions_of (drop (i + 1) steps))) ∙ (ap (λ (l : List Step). some f h (actions_of l)) (sym (drop_at steps i s lt is)) ∙ so_far)

  pub left_found : (steps : List Step) (i : ℕ) (s : Step) → i < length steps → s ≡ get_or steps i s → true ≡ some f h (step_onto s Done) → Left steps i → true ≡ some f h (actions_of steps)
  left_found steps i s lt is yes' so_far = (rw (← yes') at (split steps i s lt is so_far))

  pub left_next : (steps : List Step) (i : ℕ) (s : Step) → i < length steps → s ≡ get_or steps i s → false ≡ some f h (step_onto s Done) → Left steps i → Left steps (i + 1)
  left_next steps i s lt is no' so_far = (rw (← no') at (split steps i s lt is so_far))
