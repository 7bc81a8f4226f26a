use Rattle.std.specs.Prelude.{◌≡◌, ◌+◌, ◌++◌, drop}
use Rattle.dae_ir.specs.Classes.{classes_of}
use Rattle.dae_ir.specs.Streams.{set_of, arguments_in}
use Rattle.dae_split.specs.Making.{is_a}
use Rattle.dae_split.proofs.items.arguments.Given as goal

abbrev pub invariant-loop-operand : goal.invariant-loop-operand
invariant-loop-operand l = record {
  counted : l.parameter ≡ l.operand-index;
  made : l.arguments ++ arguments_in (set_of (is_a l.side) (classes_of l.tables l.callee)) (l.parameter + 1) (drop l.operand-index l.operands)
      ≡ arguments_in (set_of (is_a l.side) (classes_of l.tables l.callee)) 1 l.operands;
}
