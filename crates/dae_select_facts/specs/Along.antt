-- What is known along a list of steps, and what of each step's block is needed.
use Rattle.std.specs.Prelude.{◌≡◌, ◌<◌, ℕ, zero, suc, List, [], ◌∷◌, length, drop, slice_index_or, Bool, true, false}
use Rattle.dae_ir.specs.Code.{Done, Do, If, Loop}
use Rattle.dae_ir.specs.Streams.{Actions, actions_of, step_onto}
use Rattle.dae_ir.specs.declared.form.Check.TheVariants.{Place}
use Rattle.dae_ir.specs.declared.stream.Action.{Action}
use Rattle.dae_ir.specs.declared.stream.Action.TheVariants.{Probe}
use Rattle.dae_ir.specs.declared.stream.Step.{Step, Act, If', Loop'}
use Rattle.dae_select_walks.specs.Facts.{Facts, facts_behind, facts_past_if, facts_past_loop, need_of}
use Rattle.dae_select_walks.specs.declared.Need.{Need}
use Rattle.dae_select_walks.specs.declared.Need.TheVariants.{All}
use Rattle.dae_select_facts.specs.Knowns.{facts_by}
use Rattle.dae_select_facts.specs.declared.along.Before.{Before}

-- what is known behind the first of these
abbrev pub facts_past : ℕ → Actions → Facts → Facts
facts_past memory Done facts = facts
facts_past memory (Do m a k) facts = facts_behind memory a facts
facts_past memory (If m b p q k) facts = facts_past_if b p q facts
facts_past memory (Loop m body step k) facts = facts_past_loop body step facts

-- what is known behind a step
abbrev pub facts_after : ℕ → Step → Facts → Facts
facts_after memory step' facts = facts_past memory (step_onto step' Done) facts

-- what is needed of the block of the first of these
abbrev pub need_of_first : ℕ → Facts → Actions → Need
need_of_first memory facts Done = All
need_of_first memory facts (Do m a k) = need_of memory facts a k
need_of_first memory facts (If m b p q k) = All
need_of_first memory facts (Loop m body step k) = All

-- the same of a step, behind which these come
abbrev pub need_of_step : ℕ → Facts → Step → Actions → Need
need_of_step memory facts step' k = need_of_first memory facts (step_onto step' k)

-- what is known before this place of a list
abbrev pub facts_at : ℕ → Facts → List Step → ℕ → Facts
facts_at memory facts steps zero = facts
facts_at memory facts [] (suc i) = facts
facts_at memory facts (s ∷ steps) (suc i) = facts_at memory (facts_after memory s facts) steps i

abbrev pub has_lists : Step → Bool
has_lists (Act m a) = false
has_lists (If' m b i p j q) = true
has_lists (Loop' m i p j q) = true

-- what is known before an action, and before a step, is asked for
abbrev pub asks_for : Action → Bool
asks_for (Probe (Place width x)) = true
asks_for _ = false

abbrev pub asks : Step → Bool
asks (Act m a) = asks_for a
asks (If' m b i p j q) = true
asks (Loop' m i p j q) = true

-- so much is needed of the block of a step, before which something is known and behind which these come; where it has lists, that is
-- told
pub record IsBefore (memory : ℕ) (facts : Facts) (step' : Step) (k : Actions) (n : Need) (told : Facts) : Type 0 where
  pub need : n ≡ need_of_step memory facts step' k
  pub known : has_lists step' ≡ true → told ≡ facts

-- of each step of a list, before which something is known
pub record AreBefore (memory : ℕ) (facts : Facts) (steps : List Step) (list : List Before) : Type 0 where
  pub long : length list ≡ length steps
  pub each : (i : ℕ) (s : Step) (b : Before) → i < length steps → s ≡ slice_index_or steps i s → b ≡ slice_index_or list i b
      → IsBefore memory (facts_at memory facts steps i) s (actions_of (drop (suc i) steps)) b.need (facts_by b.known)
