use Rattle.std.specs.Prelude.{◌↔◌, drop}
use Rattle.dae_ir.specs.Code.{Each}
use Rattle.dae_ir.specs.Form.{form_of}
use Rattle.dae_ir.specs.Scope.{ItemIn, TestIn}
use Rattle.dae_split_pair.proofs.names.+names.Given as goal

abbrev pub invariant-names_in-loop-statement : goal.invariant-names_in-loop-statement
invariant-names_in-loop-statement l =
    Each (ItemIn l.functions l.variables) (TestIn l.variables) (form_of (drop l.statement-index l.statements))
    ↔ Each (ItemIn l.functions l.variables) (TestIn l.variables) (form_of l.statements)
