use Rattle.std.proofs.lemmas.Nat.{one_shl}
use Rattle.dae_base.proofs.power_of_two.Goals as goal

pub returns-clause-is : goal.returns-clause-is
returns-clause-is c = one_shl c.args.exponent 32 c.requires
