use Rattle.std.proofs.Common.{subst}
use Rattle.dae_program.specs.Trees.{Done}
use Rattle.dae_types_bodies.specs.Written.{MakesStatements}
use Rattle.dae_program.proofs.LawsOfTrees.{view_if}
use Rattle.dae_types_statements.proofs.making.choose.Goals as goal

pub returns : goal.returns
returns c = subst (λ x. MakesStatements c.alone.result x) (view_if c.args.place c.args.test c.args.yes c.args.no Done) c.alone.ensures
