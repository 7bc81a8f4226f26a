use Rattle.std.proofs.Common.{drop, subst, ◌≡◌, arith}
use Rattle.dae_unit.specs.Identities.{AreGivers}
use Rattle.dae_unit.proofs.Kept.{giver_back, none_given}
use Rattle.dae_unit.proofs.givers.givers_of.Goals as goal

pub loop-number-init : goal.loop-number-init
loop-number-init c = none_given c.args.files.now c.args.rows.now c.new-givers.result.keys c.new-givers.ensures.empty

pub loop-number-preserved : goal.loop-number-preserved
loop-number-preserved c =
    let some = c.loop-number-test.true in
    let le = c.loop-number.auto.number in
    giver_back c.args.files.now c.args.rows.now c.loop-number.number _ (omega arith) (omega arith) c.loop-number.givers.keys c.add_giver.new.givers.keys c.in_ok-add_giver.ensures c.loop-number.invariant

pub returns : goal.returns
returns c =
    let first : c.loop-number.number ≡ 0 = (let end = c.loop-number-test.false in omega arith) in
    subst (λ n. AreGivers c.args.files.now (drop n c.args.rows.now) c.loop-number.givers.keys) first c.loop-number.invariant
