use Rattle.std.proofs.Common.{length}
use Rattle.dae_asm_lines.specs.Tokens.{tokens_of}
use Rattle.dae_asm_lines.specs.Lines.{numbers_in}
use Rattle.dae_asm_data.proofs.Bytes.{Putting}
use Rattle.dae_asm_data.proofs.data.put_bytes.Given as goal

abbrev pub invariant-loop-number : goal.invariant-loop-number
invariant-loop-number l = Putting l.fn.out.items l.out.items (numbers_in (tokens_of l.line)) (numbers_in (tokens_of l.rest))

abbrev pub decreases-loop-number : goal.decreases-loop-number
decreases-loop-number l = length (numbers_in (tokens_of l.rest))
