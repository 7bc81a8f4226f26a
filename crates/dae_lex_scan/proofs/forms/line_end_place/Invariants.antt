use Rattle.std.proofs.Common.{◌≡◌, ◌+◌, drop}
use Rattle.dae_tree.specs.Forms.{place_of, ends_line}
use Rattle.dae_lex_scan.proofs.forms.line_end_place.Given as goal

abbrev pub invariant-loop-i : goal.invariant-loop-i
invariant-loop-i l = l.i + place_of ends_line (drop l.i l.bytes) ≡ place_of ends_line l.bytes
