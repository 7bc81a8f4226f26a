use Rattle.std.proofs.Common.{◌<◌, ◌≤◌, length, arith}
use Rattle.std.proofs.lemmas.Grind.{common_steps}
use Rattle.dae_parse_parts.proofs.Holding.{lists_over, over_is_kept, from_itself}
use Rattle.dae_parse_parts.proofs.reading.over.Goals as goal

pub returns-then-fits : goal.returns-then-fits
returns-then-fits g c = λ f h.
    let k : length c.in_ok-depths.depths.places.items ≤ 200 = grind (arith, common_steps) in (
      record {
        places = lists_over _ _ f c.args.place c.in_ok-depths.ensures h.places;
        kept = over_is_kept _ _ _ c.args.place h.kept c.in_ok-depths.ensures k;
      },
      from_itself _,
    )

pub returns-else-fits : goal.returns-else-fits
returns-else-fits g c = λ f h.
    let k : 200 < length c.in_ok-depths.depths.places.items = grind (arith, common_steps) in
    (record { places = lists_over _ _ f c.args.place c.in_ok-depths.ensures h.places; kept = k }, tt)
