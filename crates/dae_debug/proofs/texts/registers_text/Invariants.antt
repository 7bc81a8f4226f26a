-- A line for each register so far.
use Rattle.std.proofs.Common.{◌≡◌, ◌+◌, ◌*◌, ◌≤◌, length}
use Rattle.dae_machine.specs.Answers.{processor}
use Rattle.dae_debug.specs.Texts.{registers_to}
use Rattle.dae_debug.proofs.texts.registers_text.Given as goal

abbrev pub invariant-loop-before : goal.invariant-loop-before
invariant-loop-before l = record {
  text : l.reply ≡ registers_to (processor l.side l.machine.state) l.before;
  size : length l.reply ≤ 40 + 40 * l.before;
}
