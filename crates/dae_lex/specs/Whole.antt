-- What is read of the pieces of a text, and of the text.
use Rattle.std.specs.Prelude.{◌≡◌, ℕ, ◌<◌, ◌≤◌, Bool, List, [], ◌∷◌, map, length, Result, Ok, Err}
use Rattle.dae_base.specs.declared.Place.{Place}
use Rattle.dae_tree.specs.Pieces.{Cut}
use Rattle.dae_tree.specs.Replacing.{TextItem, taken, replaced, refused, TokenRead}
use Rattle.dae_tree.specs.Directives.{lines_of, replaced_lines, includes}
use Rattle.dae_tree.specs.Reading.{Reading}
use Rattle.dae_tree.specs.Tokens.{joined_literals, numbered, names_after, literals_after, reads_of, room_after}
use Rattle.dae_tree.specs.declared.headers.Header.TheVariants.{Stdio, Stdlib}
use Rattle.dae_tree.specs.declared.tokens.Includes.{Includes}
use Rattle.dae_tree.specs.declared.tokens.Room.{Room}
use Rattle.dae_tree.specs.declared.faults.LexError.{LexError}
use Rattle.dae_lex.specs.declared.output.Output.{Output}
use Rattle.dae_lex.specs.Settling.{read_of, Fails}

abbrev pub items_of_pieces : Room → List Cut → List TextItem
items_of_pieces room pieces = replaced_lines room.replacements [] (lines_of pieces)

-- the spans of tokens, and of the pieces that the items come from
abbrev pub span : TokenRead → ℕ × ℕ
span t = (t.start, t.end)

abbrev pub origins : List TextItem → List (ℕ × ℕ)
origins [] = []
origins (taken meaning origin ∷ items) = (origin.start, origin.end) ∷ origins items
origins (replaced origin ∷ items) = origins items
origins (refused error ∷ items) = origins items

-- from a start and an end on neither falls, each span has at least one byte, and none ends behind b
abbrev pub SpansFrom : ℕ → ℕ → List (ℕ × ℕ) → ℕ → Type 0
SpansFrom start end [] b = Unit {0}
SpansFrom start end (x ∷ xs) b = (start ≤ x.0) × (end ≤ x.1) × (x.0 < x.1) × (x.1 ≤ b) × SpansFrom x.0 x.1 xs b

-- the tokens of the pieces before literals join, the headers that they include, and the room that is left
pub record HasRead (room : Room) (pieces : List Cut) (seen : Includes) (out : Output) : Type 0 where
  pub reads : reads_of room (items_of_pieces room pieces) ≡ Ok (map read_of out.tokens.items)
  pub room_left : out.room ≡ room_after room (items_of_pieces room pieces) (map read_of out.tokens.items)
  pub stdio : seen.stdio ≡ includes Stdio (lines_of pieces)
  pub stdlib : seen.stdlib ≡ includes Stdlib (lines_of pieces)
  pub spans : map span (map read_of out.tokens.items) ≡ origins (items_of_pieces room pieces)
  pub few : length out.tokens.items ≤ room.tokens

-- a text with the tokens that were read of it, its literals joined
abbrev pub reading_with : List ℕ → List TokenRead → Bool → Bool → Place → Reading
reading_with text rs stdio stdlib end = record {
  text = text;
  tokens = numbered [] [] (joined_literals rs);
  names = names_after [] (joined_literals rs);
  literals = literals_after [] (joined_literals rs);
  stdio = stdio;
  stdlib = stdlib;
  end = end;
}

-- what a call says of the answer that is defined
abbrev pub Meets : {A : Type 0} → Result A LexError → Result A LexError → Type 0
Meets (Ok x) answer = answer ≡ Ok x
Meets (Err error) answer = Fails error answer
