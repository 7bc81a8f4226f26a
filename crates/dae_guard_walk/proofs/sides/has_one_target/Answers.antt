use Rattle.std.proofs.Common.{◌≡◌, ◌∙◌, sym, true, false, ◌<◌, arith}
use Rattle.std.specs.Prelude.{nat_eq}
use Rattle.std.proofs.lemmas.Bool.Decides.{nat_tests}
use Rattle.dae_guard_walk.proofs.SideLaws.{one_target, two_targets, many_targets}
use Rattle.dae_guard_walk.proofs.sides.has_one_target.Goals as goal

pub returns-then-base-eq0 : goal.returns-then-base-eq0
returns-then-base-eq0 c =
    let e : nat_eq c.args.base.count 0 ≡ true = grind (arith, nat_tests) in
    e ∙ sym (one_target c.args.inst.now c.args.counter c.args.base c.if-base-eq0.true)

pub returns-then-base-eq1 : goal.returns-then-base-eq1
returns-then-base-eq1 c =
    let h = two_targets c.args.inst.now c.args.counter c.args.base c.if-base-eq1.true in
    cc

pub returns-else-base-eq1 : goal.returns-else-base-eq1
returns-else-base-eq1 c =
    let e : nat_eq c.args.base.count 1 ≡ false = grind (arith, nat_tests) in
    let many : 1 < c.args.base.count = omega arith in
    e ∙ sym (many_targets c.args.inst.now c.args.counter c.args.base c.requires.jumps c.requires.proper many)
