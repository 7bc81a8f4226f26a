-- Up to the first line feed, or all.
use Rattle.std.proofs.Common.{◌∙◌, ◌-◌, ◌+◌, ◌∷◌, List, ℕ, length, take, drop, sym, ap, length-drop, arith}
use Rattle.std.proofs.lemmas.List.{take_all}
use Rattle.dae_debug_commands.specs.Scripts.{lines_of}
use Rattle.dae_debug_commands.proofs.Lines.{line_at, line_whole}
use Rattle.dae_debug_commands.proofs.scripts.first_line.Goals as goal

pub returns-then-byte-eq10-clause-lines : goal.returns-then-byte-eq10-clause-lines
returns-then-byte-eq10-clause-lines c =
    let script = c.args.script.now in
    let at = c.loop-at.at in
    let all = take_all (length script - (at + 1)) (drop (at + 1) script) (omega (arith, length-drop (at + 1) script)) in
    line_at script at (omega arith) c.if-byte-eq10.true c.loop-at.invariant ∙ ap (λ (l : List ℕ). take at script ∷ lines_of l) (sym all)

pub returns-clause-lines : goal.returns-clause-lines
returns-clause-lines c = line_whole c.args.script.now c.requires (λ k lt. c.loop-at.invariant k (omega arith))
