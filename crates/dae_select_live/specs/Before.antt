-- What is live before a step.
use Rattle.std.specs.Prelude.{◌≡◌, ℕ, List}
use Rattle.dae_ir.specs.Classes.{VariableSet}
use Rattle.dae_ir.specs.Streams.{Actions, step_onto}
use Rattle.dae_ir.specs.declared.stream.Step.{Step}
use Rattle.dae_select_walks.specs.Live.{ways, live}
use Rattle.dae_select_live.specs.Members.{member}

-- a set is live before a step, whatever stands behind it before which the next variables are live, where these are live where a
-- Break goes, and these where a Continue goes
abbrev pub IsLiveBefore : Step → List ℕ → List ℕ → List ℕ → List ℕ → Type 0
IsLiveBefore s next leaves skips set =
    (k : Actions) (n : VariableSet) → live k (ways n (member leaves) (member skips)) ≡ member next
    → member set ≡ live (step_onto s k) (ways n (member leaves) (member skips))
