use Rattle.std.proofs.Common.{arith}
use Rattle.std.proofs.lemmas.Bool.Decides.{nat_tests}
use Rattle.dae_regalloc.proofs.counting.can_number.Goals as goal

pub returns : goal.returns
returns c = let n = c.places_in_list.ensures in grind (arith, nat_tests)
