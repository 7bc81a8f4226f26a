use Rattle.std.specs.Prelude.{ℕ, ◌-◌, ◌≤◌, ◌<◌, ◌^◌, take, drop}
use Rattle.std.specs.List.{AllByRecursion}
use Rattle.dae_select_calls.specs.declared.layouts.FunctionLayout.{FunctionLayout}
use Rattle.dae_link.specs.Settled.{IsFrameWithin}
use Rattle.dae_link.proofs.homes.largest_frame.Given as goal

abbrev pub invariant-loop-layout : goal.invariant-loop-layout
invariant-loop-layout l = record {
  rest : AllByRecursion (λ (x : FunctionLayout). x.variables < 2 ^ 26 - 19) (drop l.layout-index l.layouts);
  all : AllByRecursion (IsFrameWithin l.largest) (take l.layout-index l.layouts);
  few : (n : ℕ) → 19 ≤ n → AllByRecursion (IsFrameWithin n) (take l.layout-index l.layouts) → l.largest ≤ n;
  least : 19 ≤ l.largest;
  most : l.largest < 2 ^ 26;
}
