use Rattle.std.proofs.Common.{◌≡◌, ◌≤◌, drop}
use Rattle.dae_tree.specs.Constants.{value_from}
use Rattle.dae_lex_scan.proofs.numbers.value_of.Given as goal

abbrev pub invariant-loop-d : goal.invariant-loop-d
invariant-loop-d l = record {
  within : l.value ≤ l.limit;
  so_far : value_from l.base l.value (drop l.d-index l.digits) ≡ value_from l.base 0 l.digits;
}
