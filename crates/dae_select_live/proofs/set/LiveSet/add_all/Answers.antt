use Rattle.std.proofs.Common.{nat_eq, ◌≡◌, ◌+◌, ◌<◌, ◌∷◌, List, ℕ, drop, drop-cons, add-one, length, get_or, ap, sym, ◌∙◌, arith}
use Rattle.std.proofs.lemmas.List.{drop_all}
use Rattle.dae_select_walks.specs.Live.{with_all}
use Rattle.dae_select_live.specs.Members.{member}
use Rattle.dae_select_live.proofs.Rising.{one_comes_in, nothing_left}
use Rattle.dae_select_live.proofs.set.LiveSet.add_all.Goals as goal

pub loop-variable-preserved : goal.loop-variable-preserved
loop-variable-preserved c =
    let other = c.args.other.now in let i = c.loop-variable.variable-index in
    let v = get_or other i 0 in let lt = c.loop-variable-test.true in
    let same = ap (λ (l : List ℕ). length l) c.variables-variable-items.ensures in
    let inside : i < length other = omega arith in
    let here : drop i other ≡ v ∷ drop (i + 1) other = rw (add-one, drop-cons other i 0) in
    let set = c.in_ok-insert.ensures ∙ ap (λ (l : List ℕ). with_all (λ u. nat_eq u (get_or l i 0)) (member c.loop-variable.self)) c.variables-variable-items.ensures in
    one_comes_in c.loop-variable.self c.insert.new.self (drop (i + 1) other) v set
    ∙ ap (λ (l : List ℕ). with_all (member c.loop-variable.self) (member l)) (sym here) ∙ c.loop-variable.invariant

pub returns : goal.returns
returns c =
    let other = c.args.other.now in let i = c.loop-variable.variable-index in
    let end = c.loop-variable-test.false in
    let same = ap (λ (l : List ℕ). length l) c.variables-variable-items.ensures in
    sym (nothing_left c.loop-variable.self)
    ∙ ap (λ (l : List ℕ). with_all (member c.loop-variable.self) (member l)) (sym (drop_all i other (omega arith))) ∙ c.loop-variable.invariant
