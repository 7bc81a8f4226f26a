use Rattle.std.proofs.Common.{◌≡◌, false}
use Rattle.std.specs.List.{list_all}
use Rattle.std.specs.Vec.Iter.{into_iter_items}
use Rattle.dae_alias.specs.Forms.{AreReused, is_reusable}
use Rattle.dae_alias.proofs.reusing.reuse.Given as goal

abbrev pub invariant-loop-function : goal.invariant-loop-function
invariant-loop-function l = record {
  reused : AreReused l.yielded l.functions.items;
  many : list_all is_reusable (into_iter_items l.function-iterator) ≡ false → list_all is_reusable l.fn.ir.functions ≡ false;
}
