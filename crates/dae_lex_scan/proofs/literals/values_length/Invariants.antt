use Rattle.std.proofs.Common.{◌≡◌, ◌≤◌, ◌+◌, drop, length}
use Rattle.dae_tree.specs.Literals.{values_from, values_of}
use Rattle.dae_lex_scan.proofs.literals.values_length.Given as goal

abbrev pub invariant-loop-i : goal.invariant-loop-i
invariant-loop-i l = record {
  so_far : l.count + length (values_from l.left (drop l.i l.inside)) ≡ length (values_of l.inside);
  within : l.count ≤ l.i;
}
