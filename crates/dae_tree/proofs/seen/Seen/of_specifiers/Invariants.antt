use Rattle.std.proofs.Common.{◌≡◌, drop}
use Rattle.dae_tree.specs.Views.{views_specifiers}
use Rattle.dae_tree.specs.Words.{nothing_seen, seen_behind}
use Rattle.dae_tree.proofs.seen.Seen.of_specifiers.Given as goal

abbrev pub invariant-loop-specifier : goal.invariant-loop-specifier
invariant-loop-specifier l = seen_behind l.seen (views_specifiers (drop l.specifier-index l.specifiers)) ≡ seen_behind nothing_seen (views_specifiers l.specifiers)
