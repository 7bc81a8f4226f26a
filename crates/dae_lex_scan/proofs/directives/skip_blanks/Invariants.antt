use Rattle.std.proofs.Common.{◌≡◌, drop, map}
use Rattle.dae_lex_scan.specs.Cuts.{cut_of}
use Rattle.dae_tree.specs.Directives.{from_mark}
use Rattle.dae_lex_scan.proofs.directives.skip_blanks.Given as goal

abbrev pub invariant-loop-i : goal.invariant-loop-i
invariant-loop-i l = from_mark (map cut_of (drop l.i l.pieces)) ≡ from_mark (map cut_of l.pieces)
