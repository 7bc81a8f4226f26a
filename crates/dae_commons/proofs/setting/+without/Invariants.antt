use Rattle.std.proofs.Common.{◌≡◌, drop}
use Rattle.dae_ir.specs.Form.{form_of}
use Rattle.dae_commons.specs.Equations.{without_set}
use Rattle.dae_commons.proofs.setting.+without.Given as goal

abbrev pub invariant-without_list-loop-statement : goal.invariant-without_list-loop-statement
invariant-without_list-loop-statement l =
    without_set l.current (form_of (drop l.statement-index l.statements)) ≡ without_set l.fn.known (form_of l.statements)
