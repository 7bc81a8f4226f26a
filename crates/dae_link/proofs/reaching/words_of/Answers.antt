use Rattle.std.proofs.Common.{length, ap, arith, ◌∙◌, length-append}
use Rattle.dae_link.specs.Sides.{functions_by, opening_by}
use Rattle.dae_link.proofs.Codes.{kept_as}
use Rattle.dae_link.proofs.Sided.{small_unplaced}
use Rattle.dae_link.proofs.reaching.words_of.Goals as goal

pub whole_code-requires-clause-small : goal.whole_code-requires-clause-small
whole_code-requires-clause-small c = small_unplaced c.args.stream.now c.args.layouts.now c.requires.unplaced

pub leaf_codes_of-requires-clause-small : goal.leaf_codes_of-requires-clause-small
leaf_codes_of-requires-clause-small c = small_unplaced c.args.stream.now c.args.layouts.now c.requires.unplaced

pub whole_code-requires-clause-codes : goal.whole_code-requires-clause-codes
whole_code-requires-clause-codes c = ap length c.as_slice-codes.ensures.value ∙ c.in_ok-made.ensures.codes ∙ ap length c.as_slice-functions.ensures

pub whole_code-requires-clause-kept : goal.whole_code-requires-clause-kept
whole_code-requires-clause-kept c =
    kept_as c.args.layouts.now c.as_slice-functions.result.now c.args.stream.now.functions c.in_ok-made.made.items c.as_slice-codes.result.now c.as_slice-functions.ensures c.as_slice-codes.ensures.value c.in_ok-made.ensures.kept

pub returns : goal.returns
returns c =
    let l = c.len.ensures in
    let e = ap length c.in_ok-code.ensures.code in
    let both = length-append (opening_by c.args.layouts.now c.args.stream.now) (functions_by c.args.layouts.now c.args.stream.now.functions) in
    omega arith
