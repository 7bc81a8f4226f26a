use Rattle.dae_ir.specs.Form.{form_of}
use Rattle.dae_lower_programs.proofs.Searching.{Searched}
use Rattle.dae_lower_programs.proofs.switching.search.Given as goal

abbrev pub invariant-loop-arm : goal.invariant-loop-arm
invariant-loop-arm l = Searched l.dispatch.place l.dispatch.value l.dispatch.arm l.arms l.arm-index l.number (form_of l.block.items)
