use Rattle.std.proofs.Common.{◌≡◌, drop}
use Rattle.dae_ir.specs.Budgets.{stands}
use Rattle.dae_split_pair.specs.Kinds.{is_wanted, is_wanted_branch}
use Rattle.dae_split_pair.proofs.uses.stands.Given as goal

abbrev pub invariant-loop-function : goal.invariant-loop-function
invariant-loop-function l = stands (is_wanted l.kind) (is_wanted_branch l.kind) (drop l.function-index l.functions) ≡ stands (is_wanted l.kind) (is_wanted_branch l.kind) l.functions
