use Rattle.std.proofs.Common.{◌≡◌, ◌≤◌, ◌+◌, ℕ, [], length}
use Rattle.dae_tree.specs.Replacing.{expand}
use Rattle.dae_lex_scan.specs.Cuts.{cut_of}
use Rattle.dae_lex.specs.Numbers.{definitions_of}
use Rattle.dae_lex.specs.Settling.{AreRead, state_of, settle}
use Rattle.dae_lex.specs.Pending.{AreOpen, frames_of, pending, work_of}
use Rattle.dae_lex.proofs.replace.replace_piece.Given as goal

abbrev pub invariant-loop-stack : goal.invariant-loop-stack
invariant-loop-stack l =
    let ms = definitions_of l.macros in
    record {
      depth : l.out.room.replacements + length l.stack.frames.entries ≤ l.fn.out.room.replacements;
      so_far : (n : ℕ) → l.fn.out.room.replacements ≤ n →
          settle (state_of l.out) (pending n ms [] (cut_of l.first.piece) (frames_of l.stack))
          ≡ settle (state_of l.fn.out) (expand n ms [] (cut_of l.first.piece) (cut_of l.first.piece));
      numbered : AreOpen l.numbers l.stack;
      read : AreRead l.numbers l.out;
    }

abbrev pub decreases-loop-stack : goal.decreases-loop-stack
decreases-loop-stack l = work_of l.out.room.replacements (frames_of l.stack)
