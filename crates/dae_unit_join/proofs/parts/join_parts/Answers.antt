use Rattle.std.proofs.Common.{◌≡◌, ℕ, ◌<◌, ◌≤◌, ◌^◌, [], sym, ap, subst, ◌∙◌, arith, rules}
use Rattle.std.specs.Prelude.{IfNone}
use Rattle.std.specs.List.{All}
use Rattle.dae_unit.specs.Placing.{rounded_up, places_from, end_from}
use Rattle.dae_unit_join.proofs.Small.{places_below}
use Rattle.dae_unit_join.proofs.parts.join_parts.Goals as goal

-- frames begin in memory, behind all places
pub words_of-requires : goal.words_of-requires
words_of-requires c =
    let rooms = c.in_ok-rooms.rooms.items in
    let small : c.args.memory < 2 ^ 32 = first_of (omega (arith, c.ranges.memory.fits), search rules, grind arith) in
    let fits : c.rounded_up-frames.result ≤ c.args.memory = subst (λ cause. IfNone cause (c.rounded_up-frames.result ≤ c.args.memory)) c.in-None.is c.in_ok-cause.ensures.fits in
    let frames : c.rounded_up-frames.result ≡ rounded_up (end_from 16 rooms) 4 = c.rounded_up-frames.ensures ∙ ap (λ n. rounded_up n 4) (c.end_of.ensures ∙ ap (end_from 16) c.as_slice-6.ensures.value) in
    let places : c.as_slice-10.result.now ≡ places_from 16 [] rooms = c.as_slice-10.ensures.value ∙ (c.in_ok-places.ensures ∙ ap (places_from 16 []) c.as_slice-9.ensures.value) in
    subst (All (λ (p : ℕ). p < 2 ^ 32)) (sym places) (places_below c.args.memory rooms small (subst (λ n. n ≤ c.args.memory) frames fits))
