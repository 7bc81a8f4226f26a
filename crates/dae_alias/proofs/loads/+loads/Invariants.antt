use Rattle.std.specs.Prelude.{◌≡◌, drop}
use Rattle.dae_ir.specs.Form.{form_of}
use Rattle.dae_alias.specs.Reuse.{has_no_load}
use Rattle.dae_alias.proofs.loads.+loads.Given as goal

abbrev pub invariant-has_no_load-loop-statement : goal.invariant-has_no_load-loop-statement
invariant-has_no_load-loop-statement l = has_no_load (form_of (drop l.statement-index l.statements)) ≡ has_no_load (form_of l.statements)
