-- What the walk over statements gives.
use Rattle.std.specs.Prelude.{◌≡◌, ℕ, Bool, false, not, ◌&&◌, List, slice_get, Option, Some, None}
use Rattle.dae_ir.specs.Classes.{VariableSet}
use Rattle.dae_ir.specs.Form.{Form, before}
use Rattle.dae_ir.specs.Streams.{step_onto}
use Rattle.dae_ir.specs.declared.form.Statement.{Statement}
use Rattle.dae_ir.specs.declared.stream.Class.{Class}
use Rattle.dae_ir.specs.declared.stream.Step.{Step}
use Rattle.dae_select_walks.specs.Facts.{Facts}
use Rattle.dae_elide.specs.Elided.{as_actions, elided}

-- A alone needs the variable
abbrev pub is_for_a_alone : Option Class → Bool
is_for_a_alone None = false
is_for_a_alone (Some class) = class.a && not class.e

abbrev pub chosen_by : List Class → VariableSet
chosen_by classes v = is_for_a_alone (slice_get classes v)

-- the same is known in a step as in a statement, and behind it
abbrev pub IsLike : Statement → Step → Type 0
IsLike s step' = (k : Form) → as_actions (before s k) ≡ step_onto step' (as_actions k)

-- the second statement is the first one without its known checks, where the first facts are known before it and the others behind it
abbrev pub IsElided : ℕ → VariableSet → Facts → Statement → Statement → Facts → Type 0
IsElided memory chosen facts s s' behind = (k : Form) → elided memory chosen facts (before s k) ≡ before s' (elided memory chosen behind k)
