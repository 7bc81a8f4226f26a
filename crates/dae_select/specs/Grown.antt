-- Code that grows at its front, and the words of it at which actions begin: a word is told by how many there are from it to
-- the end, so that code in front changes none.
use Rattle.std.specs.Prelude.{ℕ, ◌+◌, ◌-◌, ◌≤◌, List, [], ◌∷◌, ◌++◌, length, map}
use Rattle.std.specs.List.{All}
use Rattle.dae_base.specs.declared.Place.{Place}
use Rattle.dae_encode.specs.declared.Inst.{Inst}
use Rattle.dae_select.specs.declared.growing.PlacedWord.{PlacedWord}

pub record Grown : Type 0 where
  pub code : List Inst
  pub places : List PlacedWord

-- words that have at most n words from them to the end
abbrev pub StandWithin : ℕ → List PlacedWord → Type 0
StandWithin n = All (λ p. p.word ≤ n)

abbrev pub no_code : Grown
no_code = record { code = []; places = [] }

-- instructions at which no action begins
abbrev pub glue : List Inst → Grown
glue block = record { code = block; places = [] }

-- the first of an action's instructions. An action may have none
abbrev pub begin_of : Place → List Inst → List PlacedWord
begin_of place [] = []
begin_of place (i ∷ is) = record { word = length (i ∷ is); place = place } ∷ []

-- the instructions of an action that stands at a place
abbrev pub acting : Place → List Inst → Grown
acting place block = record { code = block; places = begin_of place block }

-- so many words further on
abbrev pub advance : ℕ → PlacedWord → PlacedWord
advance n p = record { word = n + p.word; place = p.place }

-- code in front of other code
abbrev pub in_front : Grown → Grown → Grown
in_front c g = record { code = c.code ++ g.code; places = map (advance (length g.code)) c.places ++ g.places }

-- words that are told from the end, told from the front
abbrev pub before_end : ℕ → PlacedWord → PlacedWord
before_end end p = record { word = end - p.word; place = p.place }

abbrev pub from_front : ℕ → List PlacedWord → List PlacedWord
from_front end = map (before_end end)
