use Rattle.std.proofs.Common.{◌≡◌, ℕ, ◌+◌, List, length, reverse, ap, ◌∙◌, arith}
use Rattle.std.proofs.lemmas.List.{length-reverse}
use Rattle.dae_select.specs.Grown.{Grown, before_end, from_front}
use Rattle.dae_select.specs.declared.growing.PlacedWord.{PlacedWord}
use Rattle.dae_select.proofs.InFront.{reverse_map}
use Rattle.dae_select.proofs.growing.GrowingCode.places.Goals as goal

pub returns : goal.returns
returns c =
    let before = c.args.before in let end = before + c.len.result in
    let words = c.self.inside.backward.items in let places = c.self.inside.places.items in
    let far : end ≡ before + length (reverse words) = omega (arith, length-reverse words) in
    c.reverse.ensures.items ∙ ap reverse (c.in_ok-places.ensures ∙ ap (λ (ps : List PlacedWord). from_front end ps) c.as_slice.ensures.value)
    ∙ reverse_map (before_end end) places ∙ ap (λ (n : ℕ). from_front n (reverse places)) far
    ∙ ap (λ (g : Grown). from_front (before + length g.code) g.places) c.self.view_is
