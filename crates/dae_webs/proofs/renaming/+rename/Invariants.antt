use Rattle.dae_webs.proofs.Steps.{RenamedTo}
use Rattle.dae_webs.proofs.renaming.+rename.Given as goal

abbrev pub invariant-rename_list-loop-statement : goal.invariant-rename_list-loop-statement
invariant-rename_list-loop-statement l =
    RenamedTo l.plan l.statements l.statement-index l.fn.renaming l.renaming l.out.items
