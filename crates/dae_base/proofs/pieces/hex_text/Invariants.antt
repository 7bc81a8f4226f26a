use Rattle.dae_base.specs.Texts.{hex_text}
use Rattle.dae_base.proofs.Hex.{HasWritten}
use Rattle.dae_base.proofs.pieces.hex_text.Given as goal

abbrev pub invariant-loop-rest : goal.invariant-loop-rest
invariant-loop-rest l = HasWritten (hex_text l.word) l.start l.rest l.digits

abbrev pub decreases-loop-rest : goal.decreases-loop-rest
decreases-loop-rest l = l.rest
