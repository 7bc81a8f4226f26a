use Rattle.std.specs.Prelude.{◌≡◌, drop}
use Rattle.dae_ir.specs.Form.{form_of}
use Rattle.dae_ir.specs.Rounds.{stays}
use Rattle.dae_split_pair.proofs.loops.+stays.Given as goal

abbrev pub invariant-stays-loop-statement : goal.invariant-stays-loop-statement
invariant-stays-loop-statement l = stays l.inside (form_of (drop l.statement-index l.statements)) ≡ stays l.inside (form_of l.statements)
