use Rattle.std.proofs.Common.{◌≡◌, drop}
use Rattle.dae_tree.specs.Literals.{fault_from}
use Rattle.dae_lex_scan.proofs.Faults.{on_by}
use Rattle.dae_lex_scan.proofs.literals.first_fault.Given as goal

abbrev pub invariant-loop-i : goal.invariant-loop-i
invariant-loop-i l = on_by l.i (fault_from l.left (drop l.i l.inside)) ≡ fault_from 0 l.inside
