use Rattle.std.proofs.Common.{◌≡◌, drop, map}
use Rattle.dae_tree.specs.Directives.{first_fault}
use Rattle.dae_lex_scan.specs.Cuts.{cut_of}
use Rattle.dae_lex_scan.proofs.directives.fault_in_body.Given as goal

abbrev pub invariant-loop-piece : goal.invariant-loop-piece
invariant-loop-piece l = first_fault (map cut_of (drop l.piece-index l.pieces)) ≡ first_fault (map cut_of l.pieces)
