-- Small functions: which of them set each variable before they read it.
use Rattle.std.proofs.Common.{◌≡◌, ℕ, true, false, List, [], ◌∷◌, Option, Some, None, refl}
use Rattle.dae_base.specs.declared.Place.{Place}
use Rattle.dae_base.specs.declared.LoadKind.TheVariants.{I32}
use Rattle.dae_meaning.specs.declared.Operator.TheVariants.{Add}
use Rattle.dae_meaning.specs.declared.Comparison.TheVariants.{LessSigned}
use Rattle.dae_program.specs.declared.program.FrameSlot.{FrameSlot}
use Rattle.dae_program.specs.Trees as tree
use Rattle.dae_program.specs.Trees.{Expression, Function, Statements}
use Rattle.dae_program.specs.SetFirst.{is_set_first}

-- a place for all nodes, since no meaning looks at places
abbrev pub here : Place
here = record { file = 0; line = 1; col = 1 }

abbrev function : List (Option FrameSlot) → Statements → Function
function parameters body = record { address = λ k. 16; callee = λ g. g; parameters = parameters; frame = 0; body = body }

abbrev gets : ℕ → Expression → Statements → Statements
gets v e k = tree.Evaluate here (tree.Assign here I32 (tree.InVariable v) e) k

abbrev gives : ℕ → Statements
gives v = tree.Return here (Some (tree.Variable here v)) tree.Done

-- int f(void) { int k = k + 1; return k; }
abbrev itself : Function
itself = function [] (gets 1 (tree.Binary here Add (tree.Variable here 1) (tree.Number 1)) (gives 1))

-- int f(void) { int k = 0; while (k < 3) ++k; return k; }
abbrev counts : Function
counts = function [] (gets 1 (tree.Number 0) (
    tree.Loop here (Some (tree.Compare here LessSigned false (tree.Variable here 1) (tree.Number 3)))
    (tree.Evaluate here (tree.Step here I32 (tree.InVariable 1) 1 true) tree.Done) None (gives 1)))

-- int f(int n) { switch (n) { int k = 1; case 2: return k; } return n; }
abbrev jumps : Function
jumps = function (None ∷ []) (
    tree.Switch here (tree.Variable here 1) (tree.arm_then [] (gets 2 (tree.Number 1) tree.Done) (tree.arm_then (Some 2 ∷ []) (gives 2) tree.no_arms)) (gives 1))

-- with k set in both branches: if (n) k = 1; else k = 2; return k;
abbrev branches : Function
branches = function (None ∷ []) (
    tree.If here (tree.Variable here 1) (gets 2 (tree.Number 1) tree.Done) (gets 2 (tree.Number 2) tree.Done) (gives 2))

-- and in one of them
abbrev one_branch : Function
one_branch = function (None ∷ []) (tree.If here (tree.Variable here 1) (gets 2 (tree.Number 1) tree.Done) tree.Done (gives 2))

-- a step of a variable that isn't set
abbrev stepped : Function
stepped = function [] (tree.Evaluate here (tree.Step here I32 (tree.InVariable 1) 1 true) (gives 1))

-- n && (k = 1); return k;
abbrev behind_and : Function
behind_and = function (None ∷ []) (tree.Evaluate here (tree.And here (tree.Variable here 1) (tree.Assign here I32 (tree.InVariable 2) (tree.Number 1))) (gives 2))

-- while (k = n) ; return k;
abbrev in_test : Function
in_test = function (None ∷ []) (tree.Loop here (Some (tree.Assign here I32 (tree.InVariable 2) (tree.Variable here 1))) tree.Done None (gives 2))

-- if (n) { while (k = n) ; } else k = 1; return k;
abbrev in_test_of_branch : Function
in_test_of_branch = function (None ∷ []) (tree.If here (tree.Variable here 1)
    (tree.Loop here (Some (tree.Assign here I32 (tree.InVariable 2) (tree.Variable here 1))) tree.Done None tree.Done)
    (gets 2 (tree.Number 1) tree.Done) (gives 2))

itself_is : is_set_first itself ≡ false
itself_is = refl

counts_is : is_set_first counts ≡ true
counts_is = refl

jumps_is : is_set_first jumps ≡ false
jumps_is = refl

branches_is : is_set_first branches ≡ true
branches_is = refl

one_branch_is : is_set_first one_branch ≡ false
one_branch_is = refl

stepped_is : is_set_first stepped ≡ false
stepped_is = refl

behind_and_is : is_set_first behind_and ≡ false
behind_and_is = refl

in_test_is : is_set_first in_test ≡ false
in_test_is = refl

in_test_of_branch_is : is_set_first in_test_of_branch ≡ false
in_test_of_branch_is = refl
