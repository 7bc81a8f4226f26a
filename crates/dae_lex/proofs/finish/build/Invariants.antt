use Rattle.std.proofs.Common.{◌≡◌, ◌≤◌, [], drop, map, length}
use Rattle.dae_tree.specs.Tokens.{joined_literals}
use Rattle.dae_lex.specs.Settling.{read_of}
use Rattle.dae_lex.specs.Finishing.{AreNamed, built_of, waiting, finished}
use Rattle.dae_lex.proofs.finish.build.Given as goal

abbrev pub invariant-loop-read : goal.invariant-loop-read
invariant-loop-read l = record {
  names : length l.builder.names.entries ≤ l.read-index;
  named : AreNamed l.numbers l.builder.names.entries;
  literals : length l.builder.literals.items ≤ l.read-index;
  so_far : finished (built_of l.builder) (waiting l.held (joined_literals (map read_of (drop l.read-index l.reads))))
      ≡ finished (record { tokens = []; names = []; literals = [] }) (joined_literals (map read_of l.reads));
}
