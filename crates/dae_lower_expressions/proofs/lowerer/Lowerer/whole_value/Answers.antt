use Rattle.dae_lower.specs.Lowering.{ways}
use Rattle.dae_lower_expressions.proofs.Chains.{whole_made}
use Rattle.dae_lower_expressions.specs.Assignments.{assignments}
use Rattle.dae_lower_expressions.specs.Lowered.{links_in, state_of}
use Rattle.dae_lower_maker.specs.Counting.{counts_of}
use Rattle.dae_lower_maker.specs.Making.{so_far}
use Rattle.dae_program.specs.Views.{view}
use Rattle.dae_lower_expressions.proofs.lowerer.Lowerer.whole_value.Goals as goal

pub returns : goal.returns
returns c = whole_made (ways (links_in c.args.none c.args.links.now) (view c.args.e.now)).value (assignments (view c.args.e.now)) (counts_of c.args.self.now.later) (counts_of c.count.new.later) (so_far c.args.self.now.maker) (state_of c.value.new.self) c.in_ok-x.x c.in_ok-count.ensures c.in_ok-x.ensures
