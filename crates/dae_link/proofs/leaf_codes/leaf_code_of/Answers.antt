use Rattle.std.proofs.Common.{sym, ◌∙◌}
use Rattle.dae_ir.specs.Streams.{actions_of}
use Rattle.dae_select_blocks.specs.Sizes.{calls_in}
use Rattle.dae_link.proofs.Looked.{none_below_one}
use Rattle.dae_link.proofs.leaf_codes.leaf_code_of.Goals as goal

pub returns-then-not-is_leaf : goal.returns-then-not-is_leaf
returns-then-not-is_leaf c = tt

pub returns : goal.returns
returns c = record {
  calls = none_below_one (calls_in (actions_of c.args.body.now)) (sym c.is_leaf.ensures ∙ c.if-not-is_leaf.false);
  code = c.in_ok-made.ensures.code;
  entry = c.in_ok-made.ensures.entry;
  places = c.in_ok-made.ensures.places;
  within = c.in_ok-made.ensures.within;
}
