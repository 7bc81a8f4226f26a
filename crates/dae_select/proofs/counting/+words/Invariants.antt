use Rattle.std.proofs.Common.{◌≤◌, ◌^◌}
use Rattle.dae_select.proofs.Counted.{CountFrom}
use Rattle.dae_select.proofs.counting.+words.Given as goal

abbrev pub invariant-list_words-loop-index : goal.invariant-list_words-loop-index
invariant-list_words-loop-index l = record {
  counted : CountFrom l.steps l.index l.words;
  few : l.words ≤ 2 ^ 17;
}
