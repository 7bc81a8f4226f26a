use Rattle.std.proofs.Common.{subst}
use Rattle.dae_program.specs.Trees.{Done}
use Rattle.dae_types_bodies.specs.Written.{MakesStatements}
use Rattle.dae_types_statements.proofs.Made.{view_armed_switch}
use Rattle.dae_types_statements.proofs.making.branch.Goals as goal

pub returns : goal.returns
returns c = subst (λ x. MakesStatements c.alone.result x) (view_armed_switch c.args.place c.args.value c.args.arms Done) c.alone.ensures
