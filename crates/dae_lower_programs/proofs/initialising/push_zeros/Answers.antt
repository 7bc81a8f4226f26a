use Rattle.dae_ir.specs.Form.{form_of}
use Rattle.dae_lower.specs.Lowering.{zeros_at, ◌⨾◌}
use Rattle.dae_lower_programs.proofs.Loops.{zeros_end, zeros_go_on}
use Rattle.dae_lower_programs.proofs.initialising.push_zeros.Goals as goal

pub loop-preserved : goal.loop-preserved
loop-preserved c =
    zeros_go_on c.args.place c.args.address c.args.count c.loop.counter (form_of c.args.block.now.items ⨾ zeros_at c.args.place c.args.address c.args.count) (form_of c.loop.block.items) (form_of c.push_zero.new.block.items)
    c.loop-test.true c.in_ok-push_zero.ensures c.loop.invariant

pub returns : goal.returns
returns c =
    zeros_end c.args.place c.args.address c.args.count c.loop.counter (form_of c.args.block.now.items ⨾ zeros_at c.args.place c.args.address c.args.count) (form_of c.loop.block.items)
    c.loop-test.false c.loop.invariant
