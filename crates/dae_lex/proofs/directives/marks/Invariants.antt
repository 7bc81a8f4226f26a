use Rattle.std.proofs.Common.{◌≡◌, ◌++◌, All, drop, map}
use Rattle.dae_lex_scan.specs.Cuts.{cut_of}
use Rattle.dae_lex.specs.Numbers.{IsNumbered, Keeps, cuts_of}
use Rattle.dae_tree.specs.Directives.{marks_of}
use Rattle.dae_lex.proofs.directives.marks.Given as goal

abbrev pub invariant-loop-piece : goal.invariant-loop-piece
invariant-loop-piece l = record {
  so_far : cuts_of l.all.items ++ marks_of (map cut_of (drop l.piece-index l.pieces)) ≡ marks_of (map cut_of l.pieces);
  numbered : All (IsNumbered l.numbers) l.all.items;
  keeps : Keeps l.fn.numbers l.numbers;
}
