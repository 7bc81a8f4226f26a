use Rattle.std.proofs.Common.{sym, ◌∙◌}
use Rattle.dae_select_values.proofs.Powers.{one_shifted, found_here, found_below}
use Rattle.dae_select_values.proofs.numbers.exponent.Goals as goal

pub returns-then-number-wrapping_shl : goal.returns-then-number-wrapping_shl
returns-then-number-wrapping_shl c =
    let l = c.loop-power in
    let is = one_shifted l.power c.from.result c.wrapping_shl.result c.loop-power-test.true l.auto.power c.from.ensures c.wrapping_shl.ensures in
    sym (l.invariant ∙ found_here l.power c.args.number c.loop-power-test.true (c.if-number-wrapping_shl.true ∙ is))

pub loop-power-preserved : goal.loop-power-preserved
loop-power-preserved c =
    let l = c.loop-power in
    let is = one_shifted l.power c.from.result c.wrapping_shl.result c.loop-power-test.true l.auto.power c.from.ensures c.wrapping_shl.ensures in
    l.invariant ∙ found_below l.power c.args.number c.loop-power-test.true (λ e. c.if-number-wrapping_shl.false (e ∙ sym is))
