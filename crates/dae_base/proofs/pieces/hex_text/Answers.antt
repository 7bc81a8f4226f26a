use Rattle.std.proofs.Common.{◌∙◌, arith, refl}
use Rattle.dae_base.proofs.Hex.{HasWritten-first, HasWritten-next, HasWritten-last}
use Rattle.dae_base.proofs.pieces.hex_text.Goals as goal

pub loop-rest-init : goal.loop-rest-init
loop-rest-init c = HasWritten-first c.args.word _ refl (omega arith)

pub loop-rest-preserved : goal.loop-rest-preserved
loop-rest-preserved c = HasWritten-next _ _ _ _ _ c.loop-rest.invariant (omega arith) c.hex_digit.ensures

pub returns : goal.returns
returns c =
    let e = HasWritten-last _ _ _ c.hex_digit-2.result _ c.loop-rest.invariant (omega arith) c.hex_digit-2.ensures in
    c.of_bytes.ensures ∙ e
