use Rattle.dae_unit.specs.Identities.{AreFirstNumbers}
use Rattle.dae_unit.proofs.numbers.numbers_of.Given as goal

abbrev pub invariant-loop-number : goal.invariant-loop-number
invariant-loop-number l = AreFirstNumbers l.files l.rows l.number l.numbers.entries
