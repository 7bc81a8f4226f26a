use Rattle.std.proofs.Common.{◌<◌, length, refl, ap, sym, ◌∙◌, arith}
use Rattle.std.proofs.lemmas.Option.{slice_get_read}
use Rattle.dae_ir.specs.declared.stream.StreamFunction.{StreamFunction}
use Rattle.dae_link.proofs.Codes.{kept_there}
use Rattle.dae_link.proofs.placing.place.Goals as goal

pub code_of_function-requires-clause-kept : goal.code_of_function-requires-clause-kept
code_of_function-requires-clause-kept c =
    let fs = c.args.functions.now in let codes = c.args.leaf_codes.now in let i = c.loop-index.index in
    let f = c.index-functions-index.result in let kept = c.index-leaf_codes-index.result in
    let count = c.requires.codes in let before = c.loop-index-test.true in
    let inside : i < length codes = omega (arith, before, count) in
    kept_there c.args.layouts.now fs codes i f kept c.as_slice-body.result.now c.requires.kept
    (slice_get_read fs (length fs) i f refl c.loop-index-test.true c.index-functions-index.is) (slice_get_read codes (length codes) i kept refl inside c.index-leaf_codes-index.is) (c.as_slice-body.ensures ∙ ap (λ (g : StreamFunction). g.body) (sym c.index-functions-index.is))
