-- What a run of the parser's machine comes to.
use Rattle.std.specs.Prelude.{◌≡◌, ℕ, ◌+◌, ◌*◌, ◌≤◌, List, [], length}
use Rattle.dae_tree.specs.declared.tokens.Token.{Token}
use Rattle.dae_tree.specs.Marks.{TokenMark, marks}
use Rattle.dae_tree.specs.Statements.{IsTreeOf}
use Rattle.dae_tree.specs.Trees.{External}
use Rattle.dae_parse_grammar.specs.Frames as plain
use Rattle.dae_parse_grammar.specs.Machine.{begun, onto}
use Rattle.dae_parse_grammar.specs.Measure.{measure}
use Rattle.dae_parse_grammar.specs.Runs.{run}
use Rattle.dae_parse_states.specs.declared.frames.Doing.{Doing}
use Rattle.dae_parse_states.specs.declared.machine.Parser.{Parser}
use Rattle.dae_parse_states.specs.Frames.{ShowsDoing, ShowsFile}
use Rattle.dae_parse_states.specs.States.{Stands, outside_stack, outside_doing}
use Rattle.dae_parse.specs.Parsed.{IsStuckAt}
use Rattle.dae_parse.specs.declared.run.ParseOutcome.{ParseOutcome}
use Rattle.dae_parse.specs.declared.run.ParseOutcome.TheVariants as outcome

-- The machine shows a state that the grammar's machine comes to in so many turns, which have spent what the tokens allow.
pub record Reached (tokens : List TokenMark) (turns : ℕ) (doing : Doing) (m : Parser) : Type 0 where
  pub does : plain.Doing
  pub stack : List plain.Frame
  pub come : run turns (begun tokens) ≡ plain.state does stack m.scope.names m.rest
  pub shown : ShowsDoing doing does
  pub stands : Stands m stack (outside_doing does (outside_stack stack))
  pub spent : measure (plain.state does stack m.scope.names m.rest) + turns ≤ 12 * length tokens + 9

-- The tree of the tokens was read; or there is none, and the machine is stuck at the token with that number.
abbrev pub Comes : List Token → ParseOutcome → Type 0
Comes tokens (outcome.Whole b) = (xs : List External) × ShowsFile b xs × IsTreeOf (marks tokens) (onto xs [])
Comes tokens (outcome.Stopped at) = ((file : List External) → ¬ IsTreeOf (marks tokens) file) × IsStuckAt tokens at
