use Rattle.std.specs.Prelude.{◌≡◌, drop}
use Rattle.dae_ir.specs.Form.{form_of}
use Rattle.dae_commons.specs.SelfSets.{has_no_self_set}
use Rattle.dae_commons.proofs.self_sets.+sets.Given as goal

abbrev pub invariant-has_no_self_set-loop-statement : goal.invariant-has_no_self_set-loop-statement
invariant-has_no_self_set-loop-statement l = has_no_self_set (form_of (drop l.statement-index l.statements)) ≡ has_no_self_set (form_of l.statements)
