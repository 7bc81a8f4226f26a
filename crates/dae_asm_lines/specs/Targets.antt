-- What a branch or a jump goes to, or where a code is entered.
use Rattle.std.specs.Prelude.{ℕ, ℤ, List}
use Rattle.dae_asm_lines.specs.declared.JumpTarget as code
use Rattle.dae_asm_lines.specs.declared.JumpTarget.TheVariants as codes

-- an offset or an address in bytes, or a label
pub data JumpTarget : Type 0 where
  Given : ℤ → JumpTarget
  Named : List ℕ → JumpTarget

abbrev pub target_seen : code.JumpTarget → JumpTarget
target_seen (codes.Number z) = Given z
target_seen (codes.Label name) = Named name.now
