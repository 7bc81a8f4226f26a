use Rattle.std.proofs.Common.{◌≡◌, length}
use Rattle.dae_asm_lines.specs.Tokens.{tokens_of}
use Rattle.dae_asm_lines.specs.Lines.{numbers_in}
use Rattle.dae_asm_data.proofs.data.next_number.Given as goal

abbrev pub invariant-loop-token : goal.invariant-loop-token
invariant-loop-token l = numbers_in (tokens_of l.rest) ≡ numbers_in (tokens_of l.line)

abbrev pub decreases-loop-token : goal.decreases-loop-token
decreases-loop-token l = length (tokens_of l.rest)
