-- The words of a schedule, and the run that they select.
use Rattle.std.specs.Prelude.{ℕ, zero, suc, ◌+◌, ◌*◌, ◌/◌, ◌%◌, ◌^◌, List, [], ◌∷◌, Option, Some, None, option_map, option_and_then}
use Rattle.dae_machine.specs.declared.Pick.{Pick}
use Rattle.dae_machine.specs.declared.Schedule.{Schedule}
use Rattle.dae_machine.specs.declared.Schedule.TheVariants.{Round, A, E, Fill, Drain, Seed}
use Rattle.dae_machine.specs.Machine.{Setup, State, step}
use Rattle.dae_machine.specs.Turns.{pick_of}

-- one step of the linear congruential generator of Numerical Recipes
abbrev pub next_number : ℕ → ℕ
next_number x = (1664525 * x + 1013904223) % 2 ^ 32

-- its number after so many steps from a seed
abbrev pub number_after : ℕ → ℕ → ℕ
number_after seed zero = seed
number_after seed (suc t) = next_number (number_after seed t)

-- the word of turn t, counted from 0
abbrev pub word_of : Schedule → ℕ → ℕ
word_of Round t = t % 2 ^ 32
word_of A t = 0
word_of E t = 1
word_of Fill t = 2
word_of Drain t = 3
word_of (Seed n) t = number_after n (t + 1) / 65536

-- where a schedule stands: before turn `at` of the round, or at this number of the generator
pub record Standing : Type 0 where
  pub schedule : Schedule
  pub at : ℕ

abbrev pub coming_by : Schedule → ℕ → ℕ → ℕ
coming_by Round at t = (at + t) % 2 ^ 32
coming_by A at t = 0
coming_by E at t = 1
coming_by Fill at t = 2
coming_by Drain at t = 3
coming_by (Seed n) at t = number_after at (t + 1) / 65536

-- the word t turns from now
abbrev pub coming : Standing → ℕ → ℕ
coming w t = coming_by w.schedule w.at t

-- the step of the pick that a word selects
abbrev pub turned : Setup → State → ℕ → Option (Pick × State)
turned setup s word = option_and_then (λ p. option_map (λ t. (p, t)) (step setup s p)) (pick_of setup s word)

abbrev pub and_then_on : Option (Pick × State) → (State → List Pick) → List Pick
and_then_on None go = []
and_then_on (Some r) go = r.0 ∷ go r.1

-- the picks of so many turns by these words, fewer where no pick is enabled any more
abbrev pub scheduled : Setup → State → (ℕ → ℕ) → ℕ → List Pick
scheduled setup s words zero = []
scheduled setup s words (suc k) = and_then_on (turned setup s (words 0)) (λ t. scheduled setup t (λ i. words (i + 1)) k)
