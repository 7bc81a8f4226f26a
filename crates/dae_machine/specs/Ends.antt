-- What one run, or one family of runs, says of every run.
use Rattle.std.specs.Prelude.{◌≡◌, ◌↔◌, ◌⊎◌, ℕ, ◌≤◌, Bool, true, false, List, [], ◌++◌, length, Some}
use Rattle.dae_base.specs.declared.Side.TheVariants.{E}
use Rattle.dae_base.specs.declared.Queue.TheVariants.{Ab}
use Rattle.dae_encode.specs.declared.Inst.{Inst}
use Rattle.dae_encode.specs.declared.QueueUse.TheVariants.{Take}
use Rattle.dae_encode.specs.declared.Request.TheVariants.{Asks}
use Rattle.dae_encode.specs.Processor.{request}
use Rattle.dae_machine.specs.declared.Pick.{Pick}
use Rattle.dae_machine.specs.declared.Pick.TheVariants.{A as MoveA, E as MoveE, Fill, Drain}
use Rattle.dae_machine.specs.Runs.{often}
use Rattle.dae_machine.specs.Machine.{Setup, State, step, Runs, IsFinal, IsStuck}

abbrev pub IsPrefixOf : List ℕ → List ℕ → Type 0
IsPrefixOf xs ys = (rest : List ℕ) × (xs ++ rest ≡ ys)

-- the pick is an instruction of E
abbrev pub is_e : Pick → Bool
is_e MoveE = true
is_e MoveA = false
is_e (Fill side n) = false
is_e Drain = false

-- the pick is an instruction of A
abbrev pub is_a : Pick → Bool
is_a MoveA = true
is_a MoveE = false
is_a (Fill side n) = false
is_a Drain = false

-- E is next to take a message of A, and there is none
pub record AwaitsMessage (setup : Setup) (s : State) : Type 0 where
  pub word : ℕ
  pub inst : Inst
  pub asks : request setup.copies E setup.code_e setup.memory s.e ≡ Asks (Take Ab) word inst
  pub none : s.queues.ab ≡ []

-- every run from the start can only end in this state, after so many steps
pub record CanOnlyEnd (setup : Setup) (start end : State) (steps : ℕ) : Type 0 where
  pub at_most : (ps : List Pick) (s : State) → Runs setup start ps s → length ps ≤ steps
  pub ends : (ps : List Pick) (s : State) → Runs setup start ps s → IsFinal setup s ↔ (length ps ≡ steps)
  pub same : (ps : List Pick) (s : State) → Runs setup start ps s → IsFinal setup s → s ≡ end
  pub prints : (ps : List Pick) (s : State) → Runs setup start ps s → IsPrefixOf s.printed end.printed
  pub never_stuck : (ps : List Pick) (s : State) → Runs setup start ps s → ¬ (IsStuck setup s)

-- outputs n is what the program prints by its nth bound. For every n there is a run which has printed at least what the
-- program prints by n, and no more than it prints by some bound. In it E makes at least n steps, or A does while E waits
-- for A's message in the end
pub record HasRuns (setup : Setup) (start : State) (outputs : ℕ → List ℕ) (n : ℕ) : Type 0 where
  pub picks : List Pick
  pub state : State
  pub runs : Runs setup start picks state
  pub moves : (n ≤ often is_e picks) ⊎ ((n ≤ often is_a picks) × AwaitsMessage setup state)
  pub prints : IsPrefixOf (outputs n) state.printed
  pub bound : ℕ
  pub no_more : IsPrefixOf state.printed (outputs bound)

-- every run goes on, prints nothing but the outputs, and can be lengthened to print any of them
pub record GoesOn (setup : Setup) (start : State) (outputs : ℕ → List ℕ) : Type 0 where
  pub enabled : (ps : List Pick) (s : State) → Runs setup start ps s → (p : Pick) × (t : State) × (step setup s p ≡ Some t)
  pub prints : (ps : List Pick) (s : State) → Runs setup start ps s → (n : ℕ) × IsPrefixOf s.printed (outputs n)
  pub reaches : (ps : List Pick) (s : State) → Runs setup start ps s → (n : ℕ) → (qs : List Pick) × (t : State) × Runs setup s qs t × IsPrefixOf (outputs n) t.printed
