use Rattle.std.proofs.Common.{List, length, ap, sym, subst, ◌∙◌}
use Rattle.dae_ir.specs.declared.stream.StreamFunction.{StreamFunction}
use Rattle.dae_link.specs.LeafCodes.{AreLeafCodes}
use Rattle.dae_link.proofs.Looked.{zip_long}
use Rattle.dae_link.proofs.Sided.{small_unplaced}
use Rattle.dae_link.proofs.side.placed_layouts.Goals as goal

pub finish_of-requires-clause-small : goal.finish_of-requires-clause-small
finish_of-requires-clause-small c = small_unplaced c.args.stream.now c.args.layouts.now c.requires.unplaced

pub finish_of-requires-clause-brief : goal.finish_of-requires-clause-brief
finish_of-requires-clause-brief c = c.requires.unplaced.residents.brief

pub first_of-requires-clause-small : goal.first_of-requires-clause-small
first_of-requires-clause-small c = small_unplaced c.args.stream.now c.args.layouts.now c.requires.unplaced

pub first_of-requires-clause-brief : goal.first_of-requires-clause-brief
first_of-requires-clause-brief c = c.requires.unplaced.residents.brief

pub place-requires-clause-small : goal.place-requires-clause-small
place-requires-clause-small c = small_unplaced c.args.stream.now c.args.layouts.now c.requires.unplaced

pub place-requires-clause-count : goal.place-requires-clause-count
place-requires-clause-count c = zip_long _ _ c.requires.unplaced.functions ∙ ap length (sym c.as_slice.ensures)

pub place-requires-clause-codes : goal.place-requires-clause-codes
place-requires-clause-codes c = c.requires.codes ∙ ap length (sym c.as_slice.ensures)

pub place-requires-clause-kept : goal.place-requires-clause-kept
place-requires-clause-kept c =
    subst (λ (fs : List StreamFunction). AreLeafCodes c.args.layouts.now fs c.args.leaf_codes.now) (sym c.as_slice.ensures) c.requires.kept
