use Rattle.std.proofs.Common.{◌≡◌, ◌≤◌, ℕ, drop, map}
use Rattle.dae_tree.specs.Directives.{replaced_text}
use Rattle.dae_lex_scan.specs.Cuts.{cut_of}
use Rattle.dae_lex.specs.Numbers.{Keeps, definitions_of}
use Rattle.dae_lex.specs.Settling.{AreRead, state_of, settle}
use Rattle.dae_lex.proofs.directives.take_text.Given as goal

abbrev pub invariant-loop-piece : goal.invariant-loop-piece
invariant-loop-piece l = record {
  left : l.out.room.replacements ≤ l.fn.out.room.replacements;
  so_far : (n : ℕ) → l.fn.out.room.replacements ≤ n →
      settle (state_of l.out) (replaced_text n (definitions_of l.macros) (map cut_of (drop l.piece-index l.pieces)))
      ≡ settle (state_of l.fn.out) (replaced_text n (definitions_of l.macros) (map cut_of l.pieces));
  keeps : Keeps l.fn.numbers l.numbers;
  read : AreRead l.numbers l.out;
}
