use Rattle.std.specs.Prelude.{◌≡◌, ◌+◌, ◌++◌, ◌≤◌, ◌^◌, length, drop}
use Rattle.dae_select_calls.specs.Layouts.{plan_of, variables_of}
use Rattle.dae_link.specs.Placed.{functions_code, placed}
use Rattle.dae_link.proofs.placing.place.Given as goal

abbrev pub invariant-loop-index : goal.invariant-loop-index
invariant-loop-index l = record {
  low : l.word ≤ 2 ^ 25;
  placed : l.all.items ++ placed (plan_of l.layouts) (variables_of l.layouts) l.word l.index (drop l.index l.functions) (drop l.index l.layouts.functions) ≡ placed (plan_of l.layouts) (variables_of l.layouts) l.first 0 l.functions l.layouts.functions;
  ends : l.word + length (functions_code (plan_of l.layouts) (variables_of l.layouts) l.index (drop l.index l.functions)) ≡ l.first + length (functions_code (plan_of l.layouts) (variables_of l.layouts) 0 l.functions);
}
