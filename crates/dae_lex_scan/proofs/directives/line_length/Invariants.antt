use Rattle.std.proofs.Common.{◌≡◌, ◌+◌, drop, map}
use Rattle.std.specs.List.{prefix_len}
use Rattle.dae_lex_scan.specs.Cuts.{cut_of}
use Rattle.dae_tree.specs.Directives.{goes_on}
use Rattle.dae_lex_scan.proofs.directives.line_length.Given as goal

abbrev pub invariant-loop-i : goal.invariant-loop-i
invariant-loop-i l = l.i + prefix_len goes_on (map cut_of (drop l.i l.pieces)) ≡ prefix_len goes_on (map cut_of l.pieces)
