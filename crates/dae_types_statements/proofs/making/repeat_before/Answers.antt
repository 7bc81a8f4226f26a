use Rattle.std.proofs.Common.{subst}
use Rattle.dae_program.specs.Trees.{Done}
use Rattle.dae_types_bodies.specs.Written.{MakesStatements}
use Rattle.dae_program.proofs.LawsOfTrees.{view_do}
use Rattle.dae_types_statements.proofs.making.repeat_before.Goals as goal

pub returns : goal.returns
returns c = subst (λ x. MakesStatements c.alone.result x) (view_do c.args.place c.args.body c.args.test Done) c.alone.ensures
