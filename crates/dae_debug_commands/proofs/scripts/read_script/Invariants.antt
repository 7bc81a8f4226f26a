-- What is read of the lines that are left is behind the commands so far.
use Rattle.std.proofs.Common.{length}
use Rattle.dae_debug_commands.proofs.Lines.{ReadSoFar}
use Rattle.dae_debug_commands.proofs.scripts.read_script.Given as goal

abbrev pub invariant-loop-rest : goal.invariant-loop-rest
invariant-loop-rest l = ReadSoFar l.script l.rest l.commands.items

abbrev pub decreases-loop-rest : goal.decreases-loop-rest
decreases-loop-rest l = length l.rest
