-- What a run of the machine comes to.
use Rattle.std.specs.Prelude.{ℕ, zero, suc, Option, Some, None}
use Rattle.dae_parse_grammar.specs.Frames.{ParserState}
use Rattle.dae_parse_grammar.specs.Machine.{step}

abbrev pub On : (ParserState → Type 0) → Option ParserState → Type 0
On P None = ⊥
On P (Some s) = P s

-- a property of states that holds before a step where it holds behind it
abbrev pub IsBackward : (ParserState → Type 0) → Type 0
IsBackward P = (s : ParserState) → On P (step s) → P s

-- so many steps, or fewer where the machine stops
abbrev pub run : ℕ → ParserState → ParserState
run zero s = s
run (suc turns) s = elim (step s) [ None ↦ s | Some t ↦ run turns t ]
