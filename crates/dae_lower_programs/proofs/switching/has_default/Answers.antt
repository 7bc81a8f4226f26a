use Rattle.std.proofs.Common.{get_or, sym, ◌∙◌}
use Rattle.std.specs.Prelude.{None}
use Rattle.dae_lower_programs.proofs.Arguments.{any_default}
use Rattle.dae_lower_programs.proofs.Searching.{default_found, default_further, no_default}
use Rattle.dae_lower_programs.proofs.switching.has_default.Goals as goal

pub returns-then-is_default : goal.returns-then-is_default
returns-then-is_default c = default_found c.args.labels.now c.loop-label.label-index (get_or c.args.labels.now c.loop-label.label-index None) c.loop-label-test.true (any_default c.args.labels.now c.loop-label.label-index None c.loop-label-test.true) c.loop-label.invariant (sym c.is_default.ensures ∙ c.if-is_default.true)

pub loop-label-preserved : goal.loop-label-preserved
loop-label-preserved c = default_further c.args.labels.now c.loop-label.label-index (get_or c.args.labels.now c.loop-label.label-index None) c.loop-label-test.true (any_default c.args.labels.now c.loop-label.label-index None c.loop-label-test.true) c.loop-label.invariant (sym c.is_default.ensures ∙ c.if-is_default.false)

pub returns : goal.returns
returns c = no_default c.args.labels.now c.loop-label.label-index c.loop-label-test.false c.loop-label.invariant
