use Rattle.std.proofs.Common.{◌≡◌, ℕ, ◌^◌, ◌<◌, ◌++◌, drop, map}
use Rattle.std.specs.List.{All, AllByRecursion}
use Rattle.dae_encode.specs.Spelling.{InRange, encoded}
use Rattle.dae_link.proofs.words.encode_all.Given as goal

abbrev pub invariant-loop-inst : goal.invariant-loop-inst
invariant-loop-inst l = record {
  so_far : l.words.items ++ map encoded (drop l.inst-index l.code) ≡ map encoded l.code;
  fits : All (λ (w : ℕ). w < 2 ^ 32) l.words.items;
  in_range : AllByRecursion InRange (drop l.inst-index l.code);
}
