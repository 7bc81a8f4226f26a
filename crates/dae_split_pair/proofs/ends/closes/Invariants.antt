use Rattle.std.specs.Prelude.{◌≡◌, drop}
use Rattle.dae_ir.specs.Form.{form_of}
use Rattle.dae_ir.specs.Scope.{closes}
use Rattle.dae_split_pair.proofs.ends.closes.Given as goal

abbrev pub invariant-loop-statement : goal.invariant-loop-statement
invariant-loop-statement l = closes (form_of (drop l.statement-index l.statements)) ≡ closes (form_of l.statements)
