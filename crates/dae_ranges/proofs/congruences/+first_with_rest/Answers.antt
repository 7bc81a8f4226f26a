use Rattle.std.proofs.Common.{arith}
use Rattle.dae_ranges.proofs.Multiples.{first_step}
use Rattle.dae_ranges.proofs.congruences.+first_with_rest.Goals as goal

pub returns-clause-some : goal.returns-clause-some
returns-clause-some t c =
    let some = c.if-factor-eq0.false in
    first_step c.args.factor c.args.rest c.args.modulus c.in_ok-turns.turns (omega arith) c.requires.rest c.in_ok-turns.ensures.some
