-- The pieces that a machine prints: one for each step that prints, in the order of the steps.
use Rattle.std.specs.Prelude.{ℕ, List, [], ◌∷◌, Option, Some, None}
use Rattle.dae_machine.specs.declared.Pick.{Pick}
use Rattle.dae_machine.specs.Machine.{Setup, State, step}

-- the state as a machine keeps it, which doesn't keep what was printed
abbrev pub unprinted : State → State
unprinted s = record s { printed = [] }

-- a step's piece before the later ones, where the step prints
abbrev pub then_later : List ℕ → List (List ℕ) → List (List ℕ)
then_later [] later = later
then_later (b ∷ bs) later = (b ∷ bs) ∷ later

abbrev pub pieces_on : Option State → (State → List (List ℕ)) → List (List ℕ)
pieces_on None later = []
pieces_on (Some t) later = then_later t.printed (later t)

-- the pieces that these picks print from a state on
abbrev pub pieces : Setup → State → List Pick → List (List ℕ)
pieces setup s [] = []
pieces setup s (p ∷ ps) = pieces_on (step setup (unprinted s) p) (λ t. pieces setup t ps)
