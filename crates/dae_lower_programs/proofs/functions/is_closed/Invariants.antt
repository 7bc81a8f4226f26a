use Rattle.std.proofs.Common.{◌≡◌, drop}
use Rattle.dae_ir.specs.Form.{form_of}
use Rattle.dae_lower.specs.Lowering.{is_closed}
use Rattle.dae_lower_programs.proofs.Closing.{closed_after}
use Rattle.dae_lower_programs.proofs.functions.is_closed.Given as goal

abbrev pub invariant-loop-s : goal.invariant-loop-s
invariant-loop-s l = closed_after l.closed (drop l.s-index l.block) ≡ is_closed (form_of l.block)
