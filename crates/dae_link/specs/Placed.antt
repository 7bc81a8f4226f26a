-- The code of a side: what begins, what main returns to, and the functions in their order, each entered where the one before
-- it ends.
use Rattle.std.specs.Prelude.{ℕ, ◌+◌, List, [], ◌∷◌, ◌++◌, length, map}
use Rattle.dae_encode.specs.declared.Inst.{Inst}
use Rattle.dae_ir.specs.Streams.{actions_of}
use Rattle.dae_ir.specs.declared.stream.StreamFunction.{StreamFunction}
use Rattle.dae_select_walks.specs.Agrees.{Plan}
use Rattle.dae_select_blocks.specs.Code.{entry_code, function_code, start_code, finish_code}
use Rattle.dae_select.specs.Grown.{advance}
use Rattle.dae_select.specs.Growing.{function_places}
use Rattle.dae_select.specs.declared.growing.PlacedWord.{PlacedWord}
use Rattle.dae_select_calls.specs.declared.layouts.FunctionLayout.{FunctionLayout}

-- the code of the functions from the k-th on
abbrev pub functions_code : Plan → (ℕ → ℕ) → ℕ → List StreamFunction → List Inst
functions_code plan variables k [] = []
functions_code plan variables k (f ∷ fs) = function_code plan variables k (actions_of f.body) ++ functions_code plan variables (k + 1) fs

abbrev pub opening_code : Plan → ℕ → ℕ → List Inst
opening_code plan main frames = start_code plan main frames ++ finish_code plan.by_a

abbrev pub whole_code : Plan → (ℕ → ℕ) → ℕ → ℕ → List StreamFunction → List Inst
whole_code plan variables main frames fs = opening_code plan main frames ++ functions_code plan variables 0 fs

-- the layout of a function that is entered at a word, with so many words before its actions
abbrev pub moved : FunctionLayout → ℕ → ℕ → FunctionLayout
moved l word entry = record { homes = l.homes; variables = l.variables; frame = l.frame; leaf = l.leaf; frameless = l.frameless; entry = word; start = word + entry }

-- the layouts of the functions from the k-th on, where the first of them is entered at a word
abbrev pub placed : Plan → (ℕ → ℕ) → ℕ → ℕ → List StreamFunction → List FunctionLayout → List FunctionLayout
placed plan variables word k [] ls = []
placed plan variables word k (f ∷ fs) [] = []
placed plan variables word k (f ∷ fs) (l ∷ ls) =
    moved l word (length (entry_code plan k))
    ∷ placed plan variables (word + length (function_code plan variables k (actions_of f.body))) (k + 1) fs ls

-- the words at which the actions of the functions from the k-th on begin, where the first of them is entered at a word
abbrev pub functions_places : Plan → (ℕ → ℕ) → ℕ → ℕ → List StreamFunction → List PlacedWord
functions_places plan variables word k [] = []
functions_places plan variables word k (f ∷ fs) =
    map (advance word) (function_places plan variables k (actions_of f.body))
    ++ functions_places plan variables (word + length (function_code plan variables k (actions_of f.body))) (k + 1) fs
