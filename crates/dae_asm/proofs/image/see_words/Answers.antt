use Rattle.std.proofs.Common.{◌<◌, ◌^◌, arith}
use Rattle.std.proofs.lemmas.List.Elements.{All-from_get_or}
use Rattle.dae_asm.proofs.image.see_words.Goals as goal

pub returns : goal.returns
returns c = All-from_get_or (λ w. w < 2 ^ 32) c.args.code.now 0 (λ i lt. omega (arith, c.type_inv.code i))
