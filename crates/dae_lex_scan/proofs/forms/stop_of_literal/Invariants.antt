use Rattle.std.proofs.Common.{◌≡◌, ◌+◌, false, drop}
use Rattle.dae_tree.specs.Forms.{literal_stop}
use Rattle.dae_lex_scan.proofs.forms.stop_of_literal.Given as goal

abbrev pub invariant-loop-i : goal.invariant-loop-i
invariant-loop-i l = l.i + literal_stop l.escaped l.quote (drop l.i l.bytes) ≡ literal_stop false l.quote l.bytes
