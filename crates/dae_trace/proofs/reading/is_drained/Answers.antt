-- The three parts behind the letter of a drain.
use Rattle.std.proofs.Common.{◌≢◌, length, arith}
use Rattle.dae_trace.proofs.Spelled.{drained_read, no_address, no_width_in, not_twenty}
use Rattle.dae_trace.proofs.reading.is_drained.Goals as goal

pub returns-then-bytes-ne20 : goal.returns-then-bytes-ne20
returns-then-bytes-ne20 c = let other : length c.args.bytes.now ≢ 20 = omega arith in not_twenty c.args.bytes.now other

pub returns-then-not-is_word : goal.returns-then-not-is_word
returns-then-not-is_word c = no_address c.args.bytes.now c.split_at.result.0.now c.split_at.ensures.front c.if-not-is_word.ensures

pub returns-then-not-is_width : goal.returns-then-not-is_width
returns-then-not-is_width c =
    no_width_in c.args.bytes.now c.split_at.result.1.now c.split_at-2.result.0.now c.split_at.ensures.back c.split_at-2.ensures.front
    c.if-not-is_width.ensures

pub returns : goal.returns
returns c =
    drained_read c.args.bytes.now c.split_at.result.0.now c.split_at.result.1.now c.split_at-2.result.0.now c.split_at-2.result.1.now
    c.is_word_line.result c.split_at.ensures.front c.split_at.ensures.back c.split_at-2.ensures.front c.split_at-2.ensures.back
    c.if-not-is_word.ensures c.if-not-is_width.ensures c.is_word_line.ensures
