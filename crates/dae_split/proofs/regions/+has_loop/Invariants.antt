use Rattle.std.specs.Prelude.{◌≡◌, drop}
use Rattle.dae_ir.specs.Form.{form_of}
use Rattle.dae_ir.specs.Streams.{has_loop}
use Rattle.dae_split.proofs.regions.+has_loop.Given as goal

abbrev pub invariant-some_has_loop-loop-statement : goal.invariant-some_has_loop-loop-statement
invariant-some_has_loop-loop-statement l = has_loop (form_of (drop l.statement-index l.statements)) ≡ has_loop (form_of l.statements)
