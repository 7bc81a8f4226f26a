use Rattle.std.proofs.Common.{ℕ, ◌+◌, ◌^◌, ◌≤◌, ◌<◌, length, refl, ap, sym, ◌∙◌, arith}
use Rattle.std.proofs.lemmas.List.Elements.{All-weaker}
use Rattle.std.proofs.lemmas.Option.{slice_get_read}
use Rattle.dae_select.specs.declared.growing.PlacedWord.{PlacedWord}
use Rattle.dae_ir.specs.declared.stream.StreamFunction.{StreamFunction}
use Rattle.dae_link.proofs.Codes.{kept_there}
use Rattle.dae_link.proofs.words.add_functions.Goals as goal

pub add_places-requires : goal.add_places-requires
add_places-requires c =
    let before : ℕ = c.len.result in let words : ℕ = length c.in_ok-made.made.code.items in
    let small : before < 2 ^ 63 = omega arith in let few : words < 2 ^ 63 = omega arith in
    rw c.as_slice.ensures.value
    (All-weaker (λ (p : PlacedWord). p.word ≤ words) (λ (p : PlacedWord). before + p.word < 2 ^ 64) (λ p h. omega (arith, small, few, h)) c.in_ok-made.made.places.items c.in_ok-made.ensures.within)

pub code_of_function-requires-clause-kept : goal.code_of_function-requires-clause-kept
code_of_function-requires-clause-kept c =
    let fs = c.args.functions.now in let codes = c.args.leaf_codes.now in let i = c.loop-index.index in
    let f = c.index-functions-index.result in let kept = c.index-leaf_codes-index.result in
    let count = c.requires.codes in let before = c.loop-index-test.true in
    let inside : i < length codes = omega (arith, before, count) in
    kept_there c.args.layouts.now fs codes i f kept c.as_slice-body.result.now c.requires.kept
    (slice_get_read fs (length fs) i f refl c.loop-index-test.true c.index-functions-index.is) (slice_get_read codes (length codes) i kept refl inside c.index-leaf_codes-index.is) (c.as_slice-body.ensures ∙ ap (λ (g : StreamFunction). g.body) (sym c.index-functions-index.is))
