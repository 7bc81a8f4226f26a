-- Eight digits are those of a word.
use Rattle.std.proofs.Common.{◌≢◌, length, arith}
use Rattle.dae_trace.proofs.Spelled.{not_eight, not_hex}
use Rattle.dae_trace.proofs.Texts.{word_of}
use Rattle.dae_trace.proofs.reading.is_word.Goals as goal

pub returns-then-bytes-ne8 : goal.returns-then-bytes-ne8
returns-then-bytes-ne8 c = let other : length c.args.bytes.now ≢ 8 = omega arith in not_eight c.args.bytes.now other

pub returns-then-not-is_hex_digit : goal.returns-then-not-is_hex_digit
returns-then-not-is_hex_digit c = not_hex c.args.bytes.now c.loop-byte.byte-index (omega arith) c.if-not-is_hex_digit.ensures

pub returns : goal.returns
returns c = word_of c.args.bytes.now (omega arith) (λ k lt. c.loop-byte.invariant k (omega arith))
