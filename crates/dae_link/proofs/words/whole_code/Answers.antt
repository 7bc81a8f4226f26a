use Rattle.std.proofs.Common.{List, length, ap, sym, subst, ◌∙◌}
use Rattle.dae_ir.specs.declared.stream.StreamFunction.{StreamFunction}
use Rattle.dae_link.specs.LeafCodes.{AreLeafCodes}
use Rattle.dae_link.proofs.words.whole_code.Goals as goal

pub add_functions-requires-clause-codes : goal.add_functions-requires-clause-codes
add_functions-requires-clause-codes c = c.requires.codes ∙ ap length (sym c.as_slice.ensures)

pub add_functions-requires-clause-kept : goal.add_functions-requires-clause-kept
add_functions-requires-clause-kept c =
    subst (λ (fs : List StreamFunction). AreLeafCodes c.args.layouts.now fs c.args.leaf_codes.now) (sym c.as_slice.ensures) c.requires.kept
