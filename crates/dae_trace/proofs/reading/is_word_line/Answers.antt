-- What stands before the line feed is a word's text or not.
use Rattle.std.specs.Prelude.{Some, codes}
use Rattle.std.proofs.lemmas.Bool.Decides.{Decides-eqb}
use Rattle.std.proofs.lemmas.Slice.Eq.{strip_suffix_is}
use Rattle.dae_trace.proofs.Spelled.{word_line_read}
use Rattle.dae_trace.proofs.reading.is_word_line.Goals as goal

pub returns-in-Some : goal.returns-in-Some
returns-in-Some c =
    let is = strip_suffix_is Decides-eqb c.args.bytes.now (codes "\n") (Some c.in-Some.word) c.in-Some.ensures.cases in
    word_line_read c.args.bytes.now c.in-Some.word.now c.is_word.result is c.is_word.ensures
