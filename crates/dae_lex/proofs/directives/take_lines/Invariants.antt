use Rattle.std.proofs.Common.{◌≡◌, ◌≤◌, ◌-◌, ◌||◌, [], length, drop, map}
use Rattle.dae_tree.specs.Directives.{replaced_lines, lines_of, includes}
use Rattle.dae_tree.specs.declared.headers.Header.TheVariants.{Stdio, Stdlib}
use Rattle.dae_lex_scan.specs.Cuts.{cut_of}
use Rattle.dae_lex.specs.Numbers.{AreDefined, definitions_of}
use Rattle.dae_lex.specs.Settling.{AreRead, state_of, settle}
use Rattle.dae_lex.proofs.directives.take_lines.Given as goal

abbrev pub invariant-loop-at : goal.invariant-loop-at
invariant-loop-at l = record {
  left : l.out.room.replacements ≤ l.fn.out.room.replacements;
  so_far : settle (state_of l.out) (replaced_lines l.fn.out.room.replacements (definitions_of l.macros) (lines_of (map cut_of (drop l.at l.pieces))))
      ≡ settle (state_of l.fn.out) (replaced_lines l.fn.out.room.replacements [] (lines_of (map cut_of l.pieces)));
  defined : AreDefined l.numbers l.macros;
  read : AreRead l.numbers l.out;
  stdio : (l.seen.stdio || includes Stdio (lines_of (map cut_of (drop l.at l.pieces)))) ≡ includes Stdio (lines_of (map cut_of l.pieces));
  stdlib : (l.seen.stdlib || includes Stdlib (lines_of (map cut_of (drop l.at l.pieces)))) ≡ includes Stdlib (lines_of (map cut_of l.pieces));
}

abbrev pub decreases-loop-at : goal.decreases-loop-at
decreases-loop-at l = length l.pieces - l.at
