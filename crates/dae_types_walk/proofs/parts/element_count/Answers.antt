use Rattle.dae_program.specs.Views.{view}
use Rattle.dae_types_walk.proofs.parts.element_count.Goals as goal

pub returns : goal.returns
returns c = c.element_count.ensures (view c.args.x.tree.value) c.args.x.category
