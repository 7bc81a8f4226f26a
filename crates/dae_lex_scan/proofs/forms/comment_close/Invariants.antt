use Rattle.std.proofs.Common.{◌≡◌, ◌+◌, drop}
use Rattle.dae_tree.specs.Forms.{place_of, closes_comment}
use Rattle.dae_lex_scan.proofs.forms.comment_close.Given as goal

abbrev pub invariant-loop-i : goal.invariant-loop-i
invariant-loop-i l = l.i + place_of closes_comment (drop l.i l.bytes) ≡ place_of closes_comment l.bytes
