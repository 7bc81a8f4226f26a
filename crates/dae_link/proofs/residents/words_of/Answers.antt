use Rattle.std.proofs.Common.{arith}
use Rattle.dae_link.proofs.Residing.{words_small}
use Rattle.dae_link.proofs.residents.words_of.Goals as goal

pub returns-clause-small : goal.returns-clause-small
returns-clause-small c = words_small c.args.numbers.now (λ i l. omega (arith, c.type_inv.numbers i))
