use Rattle.std.proofs.Common.{◌≡◌, ◌+◌, false, drop}
use Rattle.dae_tree.specs.Forms.{number_rest}
use Rattle.dae_lex_scan.proofs.forms.number_length.Given as goal

abbrev pub invariant-loop-i : goal.invariant-loop-i
invariant-loop-i l = l.i + number_rest l.after_exponent (drop l.i l.bytes) ≡ number_rest false l.bytes
