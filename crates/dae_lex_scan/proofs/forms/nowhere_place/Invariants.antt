use Rattle.std.proofs.Common.{◌≡◌, ◌+◌, drop}
use Rattle.dae_tree.specs.Forms.{place_of, front_nowhere}
use Rattle.dae_lex_scan.proofs.forms.nowhere_place.Given as goal

abbrev pub invariant-loop-i : goal.invariant-loop-i
invariant-loop-i l = l.i + place_of front_nowhere (drop l.i l.bytes) ≡ place_of front_nowhere l.bytes
