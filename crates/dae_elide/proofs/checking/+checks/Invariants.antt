use Rattle.std.specs.Prelude.{◌≡◌, drop}
use Rattle.dae_ir.specs.Form.{form_of}
use Rattle.dae_elide.specs.Checking.{checks_no_place}
use Rattle.dae_elide.proofs.checking.+checks.Given as goal

abbrev pub invariant-checks_no_place-loop-statement : goal.invariant-checks_no_place-loop-statement
invariant-checks_no_place-loop-statement l = checks_no_place (form_of (drop l.statement-index l.statements)) ≡ checks_no_place (form_of l.statements)
