-- What is known behind a list of actions alone, from what is known behind its first; and a loop's counter.
use Rattle.std.specs.Prelude.{◌≡◌, ℕ, List, ◌++◌, Option, Some, None}
use Rattle.dae_ir.specs.Streams.{Actions}
use Rattle.dae_ir.specs.declared.form.Operand.{Operand}
use Rattle.dae_select_walks.specs.declared.Fact.{Fact}
use Rattle.dae_select_walks.specs.Facts.{Facts, behind_straight, bounds_in, grows, counter_in, counters}
use Rattle.dae_select_facts.specs.Knowns.{facts_by}
use Rattle.dae_select_facts.specs.declared.known.KnownFacts.{KnownFacts}

abbrev pub facts_if : Option KnownFacts → Option Facts
facts_if None = None
facts_if (Some known) = Some (facts_by known)

abbrev pub straight_on : ℕ → Actions → Option Facts → Option Facts
straight_on memory k None = None
straight_on memory k (Some facts) = behind_straight memory k facts

-- the guess for this counter, or else what is found among other variables
abbrev pub guess_or : Option ℕ → Facts → List Fact → List Fact
guess_or None facts others = others
guess_or (Some v) facts others = grows v (bounds_in facts v)

-- what an operand is as a loop's counter, before others
abbrev pub IsCounterIn : Operand → Actions → Actions → Option ℕ → Type 0
IsCounterIn x body step found = (vs : List ℕ) (facts : Facts) → counters (counter_in x ++ vs) body step facts ≡ guess_or found facts (counters vs body step facts)
