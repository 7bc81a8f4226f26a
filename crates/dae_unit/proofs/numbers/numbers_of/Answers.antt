use Rattle.std.proofs.Common.{subst, ◌≡◌, arith}
use Rattle.dae_unit.specs.Identities.{AreFirstNumbers}
use Rattle.dae_unit.proofs.Kept.{none_numbered, number_back}
use Rattle.dae_unit.proofs.numbers.numbers_of.Goals as goal

pub loop-number-init : goal.loop-number-init
loop-number-init c = none_numbered c.args.files.now c.args.rows.now c.new-numbers.result.entries c.new-numbers.ensures.empty

pub loop-number-preserved : goal.loop-number-preserved
loop-number-preserved c =
    let some = c.loop-number-test.true in
    let le = c.loop-number.auto.number in
    let put = c.in_ok-put_number.ensures in
    number_back c.args.files.now c.args.rows.now c.loop-number.number _ (omega arith) (omega arith) put.0 c.loop-number.numbers.entries c.put_number.new.numbers.entries put.1 put.2 c.loop-number.invariant

pub returns : goal.returns
returns c =
    let first : c.loop-number.number ≡ 0 = (let end = c.loop-number-test.false in omega arith) in
    subst (λ n. AreFirstNumbers c.args.files.now c.args.rows.now n c.loop-number.numbers.entries) first c.loop-number.invariant
