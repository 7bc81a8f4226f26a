use Rattle.std.proofs.Common.{Option, refl, subst}
use Rattle.dae_parse_parts.proofs.Holding.{holds_some, holds_none}
use Rattle.dae_parse_parts.specs.Shown.{IsPair}
use Rattle.dae_parse_parts.proofs.reading.longer.Goals as goal

pub returns-in_ok-grown-in-Some : goal.returns-in_ok-grown-in-Some
returns-in_ok-grown-in-Some g c = λ f h b i.
    let m = c.in_ok-tree.ensures f h b i in
    let p = subst (λ (o : Option _). IsPair c.args.before.tree c.args.item.tree o) c.in-Some.is m.1 in
    (holds_some _ _ _ _ _ m.0 c.in-Some.is refl, (c.in-Some.list, c.in-Some.item, p.0, p.1, c.in_ok-grown-in-Some.ensures))

pub returns-in-None : goal.returns-in-None
returns-in-None g c = λ f h b i.
    (holds_none _ _ _ (c.in_ok-tree.ensures f h b i).0 c.in-None.is refl, tt)
