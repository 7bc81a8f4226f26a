use Rattle.std.proofs.Common.{get_or}
use Rattle.std.specs.Prelude.{None}
use Rattle.dae_lower_programs.proofs.Arguments.{any_default}
use Rattle.dae_ir.specs.Form.{form_of}
use Rattle.dae_lower_programs.proofs.Searching.{all_asked, next_asked}
use Rattle.dae_lower_programs.proofs.switching.search_labels.Goals as goal

pub loop-label-preserved : goal.loop-label-preserved
loop-label-preserved c = next_asked c.args.dispatch.place c.args.dispatch.value c.args.dispatch.arm c.args.number c.args.labels.now c.loop-label.label-index (get_or c.args.labels.now c.loop-label.label-index None) (form_of c.args.block.now.items) (form_of c.loop-label.block.items) (form_of c.search_label.new.block.items) c.loop-label-test.true (any_default c.args.labels.now c.loop-label.label-index None c.loop-label-test.true) c.loop-label.invariant c.in_ok-search_label.ensures

pub returns : goal.returns
returns c = all_asked c.args.dispatch.place c.args.dispatch.value c.args.dispatch.arm c.args.number c.args.labels.now c.loop-label.label-index (form_of c.args.block.now.items) (form_of c.loop-label.block.items) c.loop-label-test.false c.loop-label.invariant
