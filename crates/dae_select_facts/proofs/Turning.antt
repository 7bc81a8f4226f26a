-- What is known where a loop's step begins, and what its counter may be, by what its body begins with.
use Rattle.std.proofs.Common.{◌≡◌, ℕ, ◌-◌, ◌<◌, true, false, List, [], ◌∷◌, length, take, drop, get_or, refl, ap, sym, ◌∙◌, arith, length-drop}
use Rattle.std.specs.Prelude.{Vec}
use Rattle.std.specs.declared.alloc.Global.{Global}
use Rattle.std.proofs.lemmas.List.{take_all}
use Rattle.dae_ir.specs.Code.{If}
use Rattle.dae_ir.specs.Streams.{Actions, actions_of, step_onto}
use Rattle.dae_ir.specs.declared.stream.Mark.{Mark}
use Rattle.dae_ir.specs.declared.stream.Branch.{Branch}
use Rattle.dae_ir.specs.declared.stream.Step.{Step}
use Rattle.dae_ir.specs.declared.stream.Step.TheVariants as step
use Rattle.dae_select_live.proofs.Laws.{onto_if}
use Rattle.dae_select_walks.specs.Facts.{Facts, is_set, less, at_begin, only_leaves, facts_past_if, facts_behind_turn}

-- all behind the first n
pub rest_is : {X : Type 0} (n : ℕ) (xs : List X) → take (length xs - n) (drop n xs) ≡ drop n xs
rest_is n xs = (let e = length-drop n xs in take_all (length xs - n) (drop n xs) (omega arith))

pub begins_if : (body : List Step) (s : Step) (m : Mark) (b : Branch) (p q : Vec Step Global) → 0 < length body → s ≡ get_or body 0 s → s ≡ step.If m b p q
    → actions_of body ≡ If m b (actions_of p.items) (actions_of q.items) (actions_of (drop 1 body))
begins_if [] s m b p q some is e = absurd (omega arith)
begins_if (x ∷ xs) s m b p q some is e = ap (λ (z : Step). step_onto z (actions_of xs)) (sym is ∙ e) ∙ onto_if m b p q (actions_of xs)

pub turn_leaves : (facts : Facts) (body : Actions) (m : Mark) (b : Branch) (p q t : Actions) → body ≡ If m b p q t → only_leaves q ≡ true → facts_behind_turn body facts ≡ at_begin (less (is_set t) (facts_past_if b p q facts).outer)
turn_leaves facts body m b p q t is e = rw is (rw e refl)

pub turn_stays : (facts : Facts) (body : Actions) (m : Mark) (b : Branch) (p q t : Actions) → body ≡ If m b p q t → only_leaves q ≡ false → facts_behind_turn body facts ≡ at_begin (less (is_set body) facts.outer)
turn_stays facts body m b p q t is e = rw is (rw e refl)
