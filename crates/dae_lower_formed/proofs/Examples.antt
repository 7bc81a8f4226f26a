-- How large the form of a small function is.
use Rattle.std.proofs.Common.{◌≡◌, ℕ, List, [], Option, Some, refl}
use Rattle.dae_base.specs.declared.Place.{Place}
use Rattle.dae_base.specs.declared.LoadKind.TheVariants.{I32}
use Rattle.dae_meaning.specs.declared.Operator.TheVariants.{Add}
use Rattle.dae_program.specs.declared.program.FrameSlot.{FrameSlot}
use Rattle.dae_program.specs.Trees as tree
use Rattle.dae_program.specs.Trees.{Expression, Function, Statements}
use Rattle.dae_lower_formed.specs.Sizes.{most_made_in_function, nodes_of_function}

abbrev here : Place
here = record { file = 0; line = 1; col = 1 }

abbrev function : List (Option FrameSlot) → Statements → Function
function parameters body = record { address = λ k. 16; callee = λ g. g; parameters = parameters; frame = 0; body = body }

abbrev gets : ℕ → Expression → Statements → Statements
gets v e k = tree.Evaluate here (tree.Assign here I32 (tree.InVariable v) e) k

abbrev gives : ℕ → Statements
gives v = tree.Return here (Some (tree.Variable here v)) tree.Done

-- int f(void) { int k = k + 1; return k; }
abbrev itself : Function
itself = function [] (gets 1 (tree.Binary here Add (tree.Variable here 1) (tree.Number 1)) (gives 1))

-- the function, two statements, an assignment, a sum, two variables and a number
itself_nodes : nodes_of_function itself ≡ 8
itself_nodes = refl

-- a copy of each variable, and the sum
itself_made : most_made_in_function itself ≡ 3
itself_made = refl
