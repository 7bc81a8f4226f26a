use Rattle.std.proofs.Common.{◌≡◌, ◌-◌, ◌^◌, ◌<◌, length, []}
use Rattle.std.specs.Prelude.{min}
use Rattle.dae_unit.specs.Meanings.{functions_from}
use Rattle.dae_unit_join.proofs.meanings.functions_of.Given as goal

abbrev pub invariant-loop-file : goal.invariant-loop-file
invariant-loop-file l = record {
  items : length l.yielded < 2 ^ 32 → l.functions.items ≡ functions_from [] 0 l.yielded;
  number : l.number ≡ min (length l.yielded) (2 ^ 32 - 1);
}
