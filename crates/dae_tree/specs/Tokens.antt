-- The tokens of a text.
use Rattle.std.specs.Prelude.{◌≡◌, ℕ, suc, ◌-◌, List, [], ◌∷◌, ◌++◌, if◌then◌else◌, length, Option, Some, None, Result, Ok, Err}
use Rattle.std.specs.List.{list_any, position_or_len, sum_by}
use Rattle.std.specs.Str.{bytes_eq}
use Rattle.dae_tree.specs.Lines.{joined_lines, start_of, spot_behind}
use Rattle.dae_tree.specs.Pieces.{Cut, cut}
use Rattle.dae_tree.specs.Replacing.{Meaning, keyword, sign, name, constant, literal, TokenRead, TextItem, taken, replaced, refused, literal_length, Tested, within_replacements, within_tokens, tested, within_literals, outcome}
use Rattle.dae_tree.specs.Directives.{lines_of, replaced_lines, includes}
use Rattle.dae_tree.specs.Reading.{Reading}
use Rattle.dae_tree.specs.declared.headers.Header.TheVariants.{Stdio, Stdlib}
use Rattle.dae_tree.specs.declared.tokens.Token.{Token}
use Rattle.dae_tree.specs.declared.tokens.TokenKind.{TokenKind}
use Rattle.dae_tree.specs.declared.tokens.TokenKind.TheVariants as kinds
use Rattle.dae_tree.specs.declared.tokens.Room.{Room}
use Rattle.dae_tree.specs.declared.faults.LexError.{LexError}
use Rattle.dae_tree.specs.declared.faults.LexError.TheVariants as errors

-- adjacent string literals are one, from the start of the first to the end of the last (C90 5.1.1.2, phase 6)
abbrev pub literal_of : Meaning → Option (List ℕ)
literal_of (literal bytes) = Some bytes
literal_of _ = None

abbrev pub before_by : Option (List ℕ) → Option (List ℕ) → TokenRead → TokenRead → List TokenRead → List TokenRead
before_by (Some a) (Some b) t u us =
    record { meaning = literal (a ++ b); start = t.start; end = u.end; place = t.place } ∷ us
before_by _ _ t u us = t ∷ u ∷ us

abbrev pub before : TokenRead → List TokenRead → List TokenRead
before t [] = t ∷ []
before t (u ∷ us) = before_by (literal_of t.meaning) (literal_of u.meaning) t u us

abbrev pub joined_literals : List TokenRead → List TokenRead
joined_literals [] = []
joined_literals (t ∷ ts) = before t (joined_literals ts)

-- each name once, in the order of the first tokens
abbrev pub names_with : List (List ℕ) → Meaning → List (List ℕ)
names_with names (name n) = if list_any (bytes_eq n) names then names else names ++ n ∷ []
names_with names _ = names

abbrev pub names_after : List (List ℕ) → List TokenRead → List (List ℕ)
names_after names [] = names
names_after names (t ∷ ts) = names_after (names_with names t.meaning) ts

-- each literal, in order
abbrev pub literals_with : List (List ℕ) → Meaning → List (List ℕ)
literals_with literals (literal bytes) = literals ++ bytes ∷ []
literals_with literals _ = literals

abbrev pub literals_after : List (List ℕ) → List TokenRead → List (List ℕ)
literals_after literals [] = literals
literals_after literals (t ∷ ts) = literals_after (literals_with literals t.meaning) ts

-- the tokens with the numbers of their names and literals, behind these names and literals
abbrev pub kind_of : List (List ℕ) → List (List ℕ) → Meaning → TokenKind
kind_of names literals (keyword k) = kinds.Keyword k
kind_of names literals (sign s) = kinds.Sign s
kind_of names literals (name n) = kinds.Name (position_or_len (bytes_eq n) names)
kind_of names literals (constant c) = kinds.Constant c
kind_of names literals (literal bytes) = kinds.Literal (length literals)

abbrev pub token_of : List (List ℕ) → List (List ℕ) → TokenRead → Token
token_of names literals t =
    record { kind = kind_of names literals t.meaning; start = t.start; end = t.end; place = t.place }

abbrev pub numbered : List (List ℕ) → List (List ℕ) → List TokenRead → List Token
numbered names literals [] = []
numbered names literals (t ∷ ts) =
    token_of names literals t ∷ numbered (names_with names t.meaning) (literals_with literals t.meaning) ts

-- how many replacements the items are
abbrev pub count_replaced : List TextItem → ℕ
count_replaced [] = 0
count_replaced (replaced origin ∷ items) = suc (count_replaced items)
count_replaced (taken meaning origin ∷ items) = count_replaced items
count_replaced (refused error ∷ items) = count_replaced items

-- what is left of the room
abbrev pub room_after : Room → List TextItem → List TokenRead → Room
room_after room items reads = record {
  tokens = room.tokens - length reads;
  replacements = room.replacements - count_replaced items;
  literal_bytes = room.literal_bytes - sum_by (λ t. literal_length t.meaning) reads;
}

abbrev pub reading_of : ℕ → List ℕ → List (List Cut) → List TokenRead → Reading
reading_of file text lines reads = record {
  text = text;
  tokens = numbered [] [] (joined_literals reads);
  names = names_after [] (joined_literals reads);
  literals = literals_after [] (joined_literals reads);
  stdio = includes Stdio lines;
  stdlib = includes Stdlib lines;
  end = (spot_behind (start_of file) text).place;
}

abbrev pub lines_in : ℕ → List ℕ → List (List Cut)
lines_in file text = lines_of (cut 0 (joined_lines file text))

-- the items within the room, tested: tokens and refusals in reading order
abbrev pub tested_of : Room → List TextItem → List Tested
tested_of room items =
    within_literals room.literal_bytes
    (tested (within_tokens room.tokens (within_replacements room.replacements items)))

abbrev pub tested_in : ℕ → List ℕ → Room → List Tested
tested_in file text room = tested_of room (replaced_lines room.replacements [] (lines_in file text))

-- the tokens, or the first refusal
abbrev pub reads_of : Room → List TextItem → Result (List TokenRead) LexError
reads_of room items = outcome (tested_of room items)

abbrev pub with_room : ℕ → List ℕ → Room → List (List Cut) → List TextItem → Result (List TokenRead) LexError → Result (Reading × Room) LexError
with_room file text room lines items (Ok reads) = Ok (reading_of file text lines reads, room_after room items reads)
with_room file text room lines items (Err error) = Err error

-- Lines are joined, the text is cut into pieces, names are replaced line by line, the limits are kept, words and numbers
-- are tested, and adjacent literals join: what is read and what is left of the room, or the first refusal. A refusal
-- stands in the list where its cause stands, so that the first of the list is the first in reading order.
abbrev pub tokens_of : ℕ → List ℕ → Room → Result (Reading × Room) LexError
tokens_of file text room =
    let lines = lines_in file text in
    let items = replaced_lines room.replacements [] lines in
    with_room file text room lines items (reads_of room items)

-- What an answer says, where the room was `old` and is `new`: the tokens and the room that is left, or the first refusal
-- with the room as it was, or want of memory with the room as it was.
abbrev pub Answers : Result Reading LexError → Room → Room → Result (Reading × Room) LexError → Type 0
Answers (Ok reading) old new answer = answer ≡ Ok (reading, new)
Answers (Err errors.Memory) old new answer = new ≡ old
Answers (Err error) old new answer = (answer ≡ Err error) × (new ≡ old)
