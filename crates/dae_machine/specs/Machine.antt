-- The whole machine: its states, its steps and its runs.
use Rattle.std.specs.Prelude.{◌≡◌, ℕ, ◌+◌, Bool, true, List, [], ◌++◌, Option, Some, None, is_some, option_map}
use Rattle.dae_base.specs.declared.Side.{Side}
use Rattle.dae_base.specs.declared.Side.TheVariants.{A, E}
use Rattle.dae_base.specs.declared.Depths.{Depths}
use Rattle.dae_machine.specs.declared.Pick.{Pick}
use Rattle.dae_machine.specs.declared.Pick.TheVariants.{A as MoveA, E as MoveE, Fill, Drain}
use Rattle.dae_core.specs.Moves.{granted_by}
use Rattle.dae_core.specs.Queues.{Queues, ready, front, commit}
use Rattle.dae_machine.specs.Memory.{fill, drain, QueuesCount}
use Rattle.dae_machine.specs.Runs.{run_by}
use Rattle.dae_encode.specs.declared.Request.{Request}
use Rattle.dae_encode.specs.Processor.{Processor, After, request}

-- what no step changes
pub record Setup : Type 0 where
  pub code_a : List ℕ
  pub code_e : List ℕ
  pub memory : ℕ
  pub copies : Bool
  pub depths : Depths

pub record State : Type 0 where
  pub a : Processor
  pub e : Processor
  pub queues : Queues
  pub memory : List ℕ
  pub printed : List ℕ
  pub steps : ℕ

abbrev pub code : Setup → Side → List ℕ
code setup A = setup.code_a
code setup E = setup.code_e

-- ---- one step

-- what a request of this processor comes to, over queues of these depths
abbrev pub granted : Depths → Side → Processor → Queues → Request → Option (After × Queues)
granted d side p q asked = granted_by (λ q u. ready d u q) (λ q k. front k q) (λ q u w. commit u w q) side p q asked

-- one instruction of a side
abbrev pub move : Setup → Side → Processor → Queues → Option (After × Queues)
move setup side p q = granted setup.depths side p q (request setup.copies side (code setup side) setup.memory p)

abbrev pub moved_a : State → After × Queues → State
moved_a s r = record s { a = r.0.0; queues = r.1; steps = s.steps + 1 }

abbrev pub moved_e : State → After × Queues → State
moved_e s r = record s { e = r.0.0; queues = r.1; printed = s.printed ++ r.0.1; steps = s.steps + 1 }

abbrev pub filled : State → Queues → State
filled s q = record s { queues = q; steps = s.steps + 1 }

abbrev pub drained : State → Queues × List ℕ → State
drained s r = record s { queues = r.0; memory = r.1; steps = s.steps + 1 }

-- the state after a pick; defined exactly where the pick is enabled
abbrev pub step : Setup → State → Pick → Option State
step setup s MoveA = option_map (moved_a s) (move setup A s.a s.queues)
step setup s MoveE = option_map (moved_e s) (move setup E s.e s.queues)
step setup s (Fill side number) = option_map (filled s) (fill side number s.queues s.memory)
step setup s Drain = option_map (drained s) (drain s.queues s.memory)

-- ---- runs

-- the state after these picks, where each is enabled in its turn
abbrev pub run : Setup → State → List Pick → Option State
run setup s ps = run_by (step setup) s ps

-- these picks lead from the one state to the other
abbrev pub Runs : Setup → State → List Pick → State → Type 0
Runs setup s ps t = run setup s ps ≡ Some t

-- no pick is enabled
abbrev pub IsQuiet : Setup → State → Type 0
IsQuiet setup s = (p : Pick) → step setup s p ≡ None

-- both processors have halted, and no store waits
pub record IsFinal (setup : Setup) (s : State) : Type 0 where
  pub quiet : IsQuiet setup s
  pub a : is_some s.a.halt ≡ true
  pub e : is_some s.e.halt ≡ true
  pub sa : s.queues.stores.sa ≡ []
  pub sd : s.queues.stores.sd ≡ []

pub record IsStuck (setup : Setup) (s : State) : Type 0 where
  pub quiet : IsQuiet setup s
  pub not_final : ¬ (IsFinal setup s)

-- the numbers of slots and stores are in order
abbrev pub IsCounted : State → Type 0
IsCounted s = QueuesCount s.queues
