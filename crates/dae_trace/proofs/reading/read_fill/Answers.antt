-- A number, and a word with its line feed in the last ten bytes.
use Rattle.dae_trace.proofs.Spelled.{no_number_before, no_word_behind, short_filling}
use Rattle.dae_trace.proofs.reading.read_fill.Goals as goal

pub returns-then-filling-lt10 : goal.returns-then-filling-lt10
returns-then-filling-lt10 c = short_filling c.args.filling.now c.if-filling-lt10.true

pub returns-then-not-is_blank_word_line : goal.returns-then-not-is_blank_word_line
returns-then-not-is_blank_word_line c =
    no_word_behind c.args.filling.now c.split_at.result.1.now c.split_at.ensures.back c.if-not-is_blank_word_line.ensures

pub returns-in-None : goal.returns-in-None
returns-in-None c = no_number_before c.args.filling.now c.split_at.result.0.now c.split_at.ensures.front c.in-None.ensures
