-- Each byte before this one is a digit.
use Rattle.std.proofs.Common.{ℕ, ◌<◌, get_or}
use Rattle.dae_trace.specs.Parts.{IsHex}
use Rattle.dae_trace.proofs.reading.is_word.Given as goal

abbrev pub invariant-loop-byte : goal.invariant-loop-byte
invariant-loop-byte l = (k : ℕ) → k < l.byte-index → IsHex (get_or l.bytes k 0)
