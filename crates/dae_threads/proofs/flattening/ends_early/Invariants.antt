use Rattle.std.specs.Prelude.{◌≡◌, drop}
use Rattle.dae_ir.specs.Form.{form_of}
use Rattle.dae_threads.specs.Threaded.{ends_early}
use Rattle.dae_threads.proofs.flattening.ends_early.Given as goal

abbrev pub invariant-loop-statement : goal.invariant-loop-statement
invariant-loop-statement l = ends_early (form_of (drop l.statement-index l.statements)) ≡ ends_early (form_of l.statements)
