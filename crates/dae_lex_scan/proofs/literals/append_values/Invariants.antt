use Rattle.std.proofs.Common.{◌≡◌, ◌++◌, drop}
use Rattle.dae_tree.specs.Literals.{values_from, values_of}
use Rattle.dae_lex_scan.proofs.literals.append_values.Given as goal

abbrev pub invariant-loop-i : goal.invariant-loop-i
invariant-loop-i l = l.values.items ++ values_from l.left (drop l.i l.inside) ≡ l.fn.values.items ++ values_of l.inside
