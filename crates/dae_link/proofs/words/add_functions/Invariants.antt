use Rattle.std.specs.Prelude.{◌≡◌, ◌++◌, drop, length}
use Rattle.dae_select_calls.specs.Layouts.{plan_of, variables_of}
use Rattle.dae_link.specs.Placed.{functions_code, functions_places}
use Rattle.dae_link.proofs.words.add_functions.Given as goal

abbrev pub invariant-loop-index : goal.invariant-loop-index
invariant-loop-index l =
    let plan = plan_of l.layouts in let variables = variables_of l.layouts in
    record {
      code : l.code.items ++ functions_code plan variables l.index (drop l.index l.functions) ≡ l.initial.code.items ++ functions_code plan variables 0 l.functions;
      places : l.places.items ++ functions_places plan variables (length l.code.items) l.index (drop l.index l.functions)
          ≡ l.initial.places.items ++ functions_places plan variables (length l.initial.code.items) 0 l.functions;
    }
