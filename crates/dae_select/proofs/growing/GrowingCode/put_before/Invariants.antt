use Rattle.std.specs.Prelude.{◌≡◌, ◌++◌, drop, length, reverse}
use Rattle.dae_select.specs.Grown.{StandWithin}
use Rattle.dae_select.proofs.growing.GrowingCode.put_before.Given as goal

abbrev pub invariant-loop-index : goal.invariant-loop-index
invariant-loop-index l = record {
  code : reverse l.self-inside.backward.items ≡ drop l.index l.block ++ l.fn.self.code;
  places : reverse l.self-inside.places.items ≡ l.fn.self.places;
  within : StandWithin (length l.self-inside.backward.items) l.self-inside.places.items;
}
