-- What is known, as the definitions have it.
use Rattle.std.specs.Prelude.{List, [], ◌∷◌, Option, Some, None}
use Rattle.dae_select_walks.specs.declared.Fact.{Fact}
use Rattle.dae_select_walks.specs.Facts.{Facts}
use Rattle.dae_select_facts.specs.declared.known.KnownFacts.{KnownFacts}

abbrev pub facts_by : KnownFacts → Facts
facts_by known = record { outer = known.outer.items; inner = known.inner.items }

-- the list of what is there
abbrev pub listed : Option Fact → List Fact
listed None = []
listed (Some fact) = fact ∷ []
