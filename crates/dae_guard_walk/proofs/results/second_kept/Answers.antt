use Rattle.std.proofs.Common.{◌≡◌, sym, subst, arith}
use Rattle.dae_guard_walk.proofs.ResultLaws.{Orders, cut_second}
use Rattle.dae_guard_walk.proofs.results.second_kept.Goals as goal

pub cut-requires-clause-least : goal.cut-requires-clause-least
cut-requires-clause-least c =
    let h = cut_second c.args.test c.args.range c.args.number (omega arith) c.requires.proper (subst Orders (sym c.in-Below.is) tt) c.requires.open in
    omega (arith, c.from.ensures)

pub cut-requires-clause-greatest : goal.cut-requires-clause-greatest
cut-requires-clause-greatest c =
    let h = cut_second c.args.test c.args.range c.args.number (omega arith) c.requires.proper (subst Orders (sym c.in-Below.is) tt) c.requires.open in
    omega (arith, c.from.ensures)

pub cut-requires-in-NotBelow-clause-least : goal.cut-requires-in-NotBelow-clause-least
cut-requires-in-NotBelow-clause-least c =
    let h = cut_second c.args.test c.args.range c.args.number (omega arith) c.requires.proper (subst Orders (sym c.in-NotBelow.is) tt) c.requires.open in
    omega (arith, c.from-in-NotBelow.ensures)

pub cut-requires-in-NotBelow-clause-greatest : goal.cut-requires-in-NotBelow-clause-greatest
cut-requires-in-NotBelow-clause-greatest c =
    let h = cut_second c.args.test c.args.range c.args.number (omega arith) c.requires.proper (subst Orders (sym c.in-NotBelow.is) tt) c.requires.open in
    omega (arith, c.from-in-NotBelow.ensures)
