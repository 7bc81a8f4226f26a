use Rattle.dae_ir.specs.Classes.{classes_in}
use Rattle.dae_commons.proofs.Steps.{CommonedUpTo}
use Rattle.dae_commons.proofs.commoning.+common.Given as goal

abbrev pub invariant-common_list-loop-statement : goal.invariant-common_list-loop-statement
invariant-common_list-loop-statement l =
    CommonedUpTo (classes_in l.row) l.statements l.statement-index l.known l.current l.out.items
