use Rattle.std.proofs.Common.{◌≡◌, arith, sym, ◌∙◌, false, drop}
use Rattle.std.proofs.lemmas.List.{take_rest}
use Rattle.dae_tree.specs.Forms.{closes_comment}
use Rattle.dae_lex_scan.proofs.Places.{place_later}
use Rattle.dae_lex_scan.proofs.forms.comment_close.Goals as goal

pub loop-i-preserved : goal.loop-i-preserved
loop-i-preserved c =
    let bytes = c.args.bytes.now in
    let closed = rw (take_rest bytes c.loop-i.i) at c.closes.ensures in
    let open_yet : closes_comment (drop c.loop-i.i bytes) ≡ false = sym closed ∙ c.if-closes.false in
    place_later closes_comment bytes c.loop-i.i (omega arith) open_yet ∙ c.loop-i.invariant
