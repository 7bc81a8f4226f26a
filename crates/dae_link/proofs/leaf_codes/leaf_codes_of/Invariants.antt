use Rattle.std.specs.Prelude.{◌≡◌, length}
use Rattle.dae_link.specs.LeafCodes.{AreLeafCodes}
use Rattle.dae_link.proofs.leaf_codes.leaf_codes_of.Given as goal

abbrev pub invariant-loop-index : goal.invariant-loop-index
invariant-loop-index l = record {
  codes : length l.codes.items ≡ l.index;
  kept : AreLeafCodes l.layouts l.functions l.codes.items;
}
