use Rattle.dae_program.specs.Views.{view}
use Rattle.dae_types_walk.proofs.parts.constant_value.Goals as goal

pub returns : goal.returns
returns c = c.constant_value.ensures (view c.args.x.tree.value) c.args.x.category
