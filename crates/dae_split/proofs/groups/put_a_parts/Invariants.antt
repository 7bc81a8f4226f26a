use Rattle.dae_ir.specs.Classes.{classes_of}
use Rattle.dae_ir.specs.Streams.{a_part}
use Rattle.dae_split.proofs.Onto.{AddsUpTo}
use Rattle.dae_split.proofs.groups.put_a_parts.Given as goal

abbrev pub invariant-loop-part : goal.invariant-loop-part
invariant-loop-part l = AddsUpTo (a_part (classes_of l.tables l.function) l.number) l.group l.part-index l.fn.steps.items l.steps.items
