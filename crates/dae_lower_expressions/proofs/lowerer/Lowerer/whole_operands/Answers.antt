use Rattle.dae_lower.specs.Lowering.{operands}
use Rattle.dae_lower_expressions.proofs.Chains.{whole_made}
use Rattle.dae_lower_expressions.specs.Assignments.{all_assignments}
use Rattle.dae_lower_expressions.specs.Lowered.{links_in, state_of}
use Rattle.dae_lower_maker.specs.Counting.{counts_of}
use Rattle.dae_lower_maker.specs.Making.{so_far}
use Rattle.dae_program.specs.Views.{view_expressions}
use Rattle.dae_lower_expressions.proofs.lowerer.Lowerer.whole_operands.Goals as goal

pub returns : goal.returns
returns c = whole_made (operands (links_in c.args.none c.args.links.now) (view_expressions c.args.xs.now)) (all_assignments (view_expressions c.args.xs.now)) (counts_of c.args.self.now.later) (counts_of c.count_all.new.later) (so_far c.args.self.now.maker) (state_of c.operands.new.self) c.in_ok-operands.operands.items c.in_ok-count_all.ensures c.in_ok-operands.ensures
