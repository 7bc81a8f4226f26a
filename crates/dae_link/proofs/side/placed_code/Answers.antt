use Rattle.std.proofs.Common.{length, ap, sym, subst, ◌∙◌}
use Rattle.dae_select_calls.specs.Layouts.{AreSmall}
use Rattle.dae_select_calls.specs.declared.layouts.Layouts.{Layouts}
use Rattle.dae_link.specs.LeafCodes.{AreLeafCodes}
use Rattle.dae_link.proofs.Codes.{kept_as}
use Rattle.dae_link.proofs.Sided.{small_unplaced, small_placed, codes_placed}
use Rattle.dae_link.proofs.side.placed_code.Goals as goal

pub leaf_codes_of-requires-clause-small : goal.leaf_codes_of-requires-clause-small
leaf_codes_of-requires-clause-small c = small_unplaced c.args.stream.now c.args.layouts.now c.requires.unplaced

pub placed_layouts-requires-clause-codes : goal.placed_layouts-requires-clause-codes
placed_layouts-requires-clause-codes c = ap length c.as_slice-codes.ensures.value ∙ c.in_ok-made.ensures.codes ∙ ap length c.as_slice-functions.ensures

pub placed_layouts-requires-clause-kept : goal.placed_layouts-requires-clause-kept
placed_layouts-requires-clause-kept c =
    kept_as c.args.layouts.now c.as_slice-functions.result.now c.args.stream.now.functions c.in_ok-made.made.items c.as_slice-codes.result.now c.as_slice-functions.ensures c.as_slice-codes.ensures.value c.in_ok-made.ensures.kept

pub whole_code-requires-clause-small : goal.whole_code-requires-clause-small
whole_code-requires-clause-small c =
    subst (λ (all : Layouts). AreSmall all) (sym c.in_ok-placed.ensures.places) (small_placed c.args.stream.now c.args.layouts.now c.requires.unplaced c.in_ok-placed.ensures.ends)

pub whole_code-requires-clause-codes : goal.whole_code-requires-clause-codes
whole_code-requires-clause-codes c = ap length c.as_slice-codes.ensures.value ∙ c.in_ok-made.ensures.codes ∙ ap length c.as_slice-functions.ensures

pub whole_code-requires-clause-kept : goal.whole_code-requires-clause-kept
whole_code-requires-clause-kept c =
    let stream = c.args.stream.now in let old = c.args.layouts.now in
    let kept = kept_as old c.as_slice-functions.result.now stream.functions c.in_ok-made.made.items c.as_slice-codes.result.now c.as_slice-functions.ensures c.as_slice-codes.ensures.value c.in_ok-made.ensures.kept in
    subst (λ (all : Layouts). AreLeafCodes all stream.functions c.as_slice-codes.result.now) (sym c.in_ok-placed.ensures.places) (codes_placed stream old c.requires.unplaced c.as_slice-codes.result.now kept)
