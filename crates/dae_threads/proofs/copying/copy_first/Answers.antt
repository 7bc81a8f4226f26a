use Rattle.std.proofs.Common.{◌≡◌, ◌<◌, ℕ, [], length, take, subst, arith}
use Rattle.dae_threads.specs.Walked.{AreCopiedBehind}
use Rattle.dae_threads.proofs.Walked.{copied_none, copied_next}
use Rattle.dae_threads.proofs.copying.copy_first.Goals as goal

pub loop-index-init : goal.loop-index-init
loop-index-init c = copied_none [] c.args.statements.now c.new-new.result.items c.new-new.ensures.items

pub loop-index-preserved : goal.loop-index-preserved
loop-index-preserved c =
    let l = c.loop-index in
    let before = c.loop-index-test.true in
    let few = c.requires in
    let lt : l.index < length c.args.statements.now = omega (arith, before, few) in
    copied_next [] c.args.statements.now l.index c.index-statements-index.result c.in_ok-copy.copy l.new.items c.push.new.self.items lt c.index-statements-index.is c.in_ok-copy.ensures c.in_ok-push.ensures.items l.invariant

pub returns : goal.returns
returns c =
    let l = c.loop-index in
    let end = c.loop-index-test.false in
    let most = l.auto.index-end in
    let all : l.index ≡ c.args.count = omega (arith, end, most) in
    subst (λ (n : ℕ). AreCopiedBehind [] (take n c.args.statements.now) l.new.items) all l.invariant
