use Rattle.dae_ir.specs.Form.{form_of}
use Rattle.dae_lower_programs.proofs.Searching.{Asked}
use Rattle.dae_lower_programs.proofs.switching.search_labels.Given as goal

abbrev pub invariant-loop-label : goal.invariant-loop-label
invariant-loop-label l = Asked l.dispatch.place l.dispatch.value l.dispatch.arm l.number l.labels l.label-index (form_of l.initial.block.items) (form_of l.block.items)
