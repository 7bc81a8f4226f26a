use Rattle.std.proofs.Common.{◌≡◌, ◌<◌, ◌∙◌, ℕ, true, length, sym, subst, arith}
use Rattle.dae_guard.specs.Nodes.{registers_within}
use Rattle.dae_guard_walk.proofs.WalkLaws.{one_more_at, outside_at}
use Rattle.dae_guard_walk.proofs.walking.are_within.Goals as goal

pub returns-then-not-within : goal.returns-then-not-within
returns-then-not-within c =
    let some : 0 < c.loop-register.register = omega arith in
    let inside : c.loop-register.register < length c.args.outer.now = omega arith in
    sym (outside_at (length c.args.ranges.now) c.loop-register.register c.args.outer.now c.args.ranges.now _ _ some c.loop-register-test.true inside c.loop-register-test.true
    (sym c.within.ensures ∙ c.if-not-within.true))

pub loop-register-preserved : goal.loop-register-preserved
loop-register-preserved c =
    one_more_at c.loop-register.register c.args.outer.now c.args.ranges.now _ _ (omega arith) (omega arith) (sym c.within.ensures ∙ c.if-not-within.false) c.loop-register.invariant

pub returns : goal.returns
returns c =
    let all : c.loop-register.register ≡ length c.args.ranges.now = omega arith in
    subst (λ (k : ℕ). true ≡ registers_within k c.args.outer.now c.args.ranges.now) all (sym c.loop-register.invariant)
