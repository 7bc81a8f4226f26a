use Rattle.std.proofs.Common.{◌≡◌, ◌+◌, ◌<◌, ℕ, List, true, length, take, get_or, ap, subst, arith}
use Rattle.std.proofs.lemmas.List.{take_all}
use Rattle.dae_select_live.specs.Members.{member}
use Rattle.dae_regalloc.specs.Seen.{IsFurther}
use Rattle.dae_regalloc.proofs.Widening.{further_none, further_then, taken_either, taken_kept, taken_here}
use Rattle.dae_regalloc.proofs.spans.Spans.see_variables.Goals as goal

pub loop-variable-init : goal.loop-variable-init
loop-variable-init c = further_none (λ v. member (take 0 c.args.set.now) v ≡ true) c.args.self.now (λ v h. absurd cc)

pub loop-variable-preserved : goal.loop-variable-preserved
loop-variable-preserved c =
    let set = c.args.set.now in let i = c.loop-variable.variable-index in
    let same = ap (λ (l : List ℕ). length l) c.variables-variable-items.ensures in
    let test = c.loop-variable-test.true in
    let lt : i < length set = omega arith in
    let seen = subst (λ (l : List ℕ). IsFurther (λ u. u ≡ get_or l i 0) c.loop-variable.self c.see_variable.new.self) c.variables-variable-items.ensures c.in_ok-see_variable.ensures in
    further_then (λ u. member (take i set) u ≡ true) (λ u. u ≡ get_or set i 0) (λ u. member (take (i + 1) set) u ≡ true) c.args.self.now c.loop-variable.self c.see_variable.new.self c.loop-variable.invariant seen
    (λ u h. taken_either set i u lt h) (λ u h. taken_kept set i u lt h) (λ u h. taken_here set i u lt h)

pub returns : goal.returns
returns c =
    let set = c.args.set.now in let i = c.loop-variable.variable-index in
    let same = ap (λ (l : List ℕ). length l) c.variables-variable-items.ensures in
    let end = c.loop-variable-test.false in
    subst (λ (l : List ℕ). IsFurther (λ u. member l u ≡ true) c.args.self.now c.loop-variable.self) (take_all i set (omega arith)) c.loop-variable.invariant
