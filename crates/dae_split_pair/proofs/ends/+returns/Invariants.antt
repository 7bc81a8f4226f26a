use Rattle.std.specs.Prelude.{◌≡◌, drop}
use Rattle.dae_ir.specs.Form.{form_of}
use Rattle.dae_ir.specs.Scope.{never_returns}
use Rattle.dae_split_pair.proofs.ends.+returns.Given as goal

abbrev pub invariant-never_returns-loop-statement : goal.invariant-never_returns-loop-statement
invariant-never_returns-loop-statement l = never_returns (form_of (drop l.statement-index l.statements)) ≡ never_returns (form_of l.statements)
