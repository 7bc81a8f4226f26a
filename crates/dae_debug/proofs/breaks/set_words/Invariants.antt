-- The words of the marks so far are set.
use Rattle.std.proofs.Common.{◌≡◌, ℕ, false, ◌||◌, get_or, length, take}
use Rattle.std.specs.List.{list_any}
use Rattle.dae_debug.specs.Breaks.{is_mark_at}
use Rattle.dae_debug.proofs.breaks.set_words.Given as goal

abbrev pub invariant-loop-mark : goal.invariant-loop-mark
invariant-loop-mark l = record {
  long : length l.words.items ≡ length l.initial.words.items;
  words : (word : ℕ) → get_or l.words.items word false ≡ (get_or l.initial.words.items word false || list_any (is_mark_at l.place word) (take l.mark-index l.marks));
}
