-- Names of macros replaced, from left to right (C90 6.8.3, macros without parameters), the limits kept, and words and
-- numbers tested.
use Rattle.std.specs.Prelude.{ℕ, zero, suc, ◌-◌, List, [], ◌∷◌, ◌++◌, Bool, true, false, not, ◌&&◌, nat_le, if◌then◌else◌, length, Option, Some, None, Result, Ok, Err}
use Rattle.std.specs.List.{flat_map, list_any}
use Rattle.std.specs.Str.{bytes_eq}
use Rattle.dae_base.specs.declared.Place.{Place}
use Rattle.dae_tree.specs.Tables.{keyword_of, refused_word}
use Rattle.dae_tree.specs.Literals.{values_of, inside}
use Rattle.dae_tree.specs.Pieces.{Cut}
use Rattle.dae_tree.specs.declared.signs.Sign.{Sign}
use Rattle.dae_tree.specs.declared.words.Keyword.{Keyword}
use Rattle.dae_tree.specs.declared.constants.Constant.{Constant}
use Rattle.dae_tree.specs.declared.pieces.PieceKind.{PieceKind}
use Rattle.dae_tree.specs.declared.pieces.PieceKind.TheVariants as kinds
use Rattle.dae_tree.specs.declared.faults.Construct.{Construct}
use Rattle.dae_tree.specs.declared.faults.Construct.TheVariants.{TooManyReplacements, LiteralsTooLong}
use Rattle.dae_tree.specs.declared.faults.TextFault.{TextFault}
use Rattle.dae_tree.specs.declared.faults.TextFault.TheVariants as faults
use Rattle.dae_tree.specs.declared.faults.LexError.{LexError}
use Rattle.dae_tree.specs.declared.faults.LexError.TheVariants.{BadByte, TooManyTokens, Refused}

-- what a token is
pub data Meaning : Type 0 where
  keyword : Keyword → Meaning
  sign : Sign → Meaning
  name : List ℕ → Meaning
  constant : Constant → Meaning
  literal : List ℕ → Meaning

-- a token: what it is, and the span and place of the piece of the text that it comes from
pub record TokenRead : Type 0 where
  pub meaning : Meaning
  pub start : ℕ
  pub end : ℕ
  pub place : Place

-- a macro: its name, and what it is replaced by
pub record Definition : Type 0 where
  pub name : List ℕ
  pub body : List Cut

-- What replacement leaves, in reading order: a token with the piece of the text that it comes from, or what it is
-- refused for once it counts as a token; a mark that a name of the text was replaced here; or a refusal.
pub data TextItem : Type 0 where
  taken : Result Meaning Construct → Cut → TextItem
  replaced : Cut → TextItem
  refused : LexError → TextItem

-- a fault at a place, as the reason why a text has no tokens
abbrev pub error_at : TextFault → Place → LexError
error_at faults.BadByte place = BadByte place
error_at (faults.Named construct) place = Refused construct place

-- a word is a keyword that is taken or refused, or else a name
abbrev pub word_or_name : Option Keyword → Option Construct → List ℕ → Result Meaning Construct
word_or_name (Some k) refusal word = Ok (keyword k)
word_or_name None (Some construct) word = Err construct
word_or_name None None word = Ok (name word)

unfoldable pub word_meaning : List ℕ → Result Meaning Construct
word_meaning word = word_or_name (keyword_of word) (refused_word word) word

-- a piece that isn't replaced: blanks leave nothing, and a fault or a number sign is refused
abbrev pub items_by : PieceKind → Cut → Cut → List TextItem
items_by kinds.Blank p origin = []
items_by kinds.LineEnd p origin = []
items_by kinds.Word p origin = taken (word_meaning p.spelling) origin ∷ []
items_by (kinds.Constant value) p origin = taken (Ok (constant value)) origin ∷ []
items_by kinds.Text p origin = taken (Ok (literal (values_of (inside p.spelling)))) origin ∷ []
items_by (kinds.Mark mark) p origin = taken (Ok (sign mark)) origin ∷ []
items_by kinds.Hash p origin = refused (BadByte origin.place) ∷ []
items_by (kinds.Late construct) p origin = taken (Err construct) origin ∷ []
items_by (kinds.Faulty fault) p origin = refused (error_at fault origin.place) ∷ []
items_by (kinds.FaultyComment fault) p origin = refused (error_at fault origin.place) ∷ []

abbrev pub items_of : Cut → Cut → List TextItem
items_of p origin = items_by p.kind p origin

abbrev pub body_of : List Definition → List ℕ → Option (List Cut)
body_of [] word = None
body_of (m ∷ ms) word = if bytes_eq word m.name then Some m.body else body_of ms word

abbrev pub is_word_kind : PieceKind → Bool
is_word_kind kinds.Word = true
is_word_kind _ = false

-- what a piece is replaced by, where the names in names are those that it came from
abbrev pub replacement : List Definition → List (List ℕ) → Cut → Option (List Cut)
replacement macros names p =
    if is_word_kind p.kind && not (list_any (bytes_eq p.spelling) names) then body_of macros p.spelling else None

-- A piece with all names in it replaced, where at most n replacements stand in one another: each of them counts as one of
-- all, so that a deeper one is one too many.
abbrev pub expand : ℕ → List Definition → List (List ℕ) → Cut → Cut → List TextItem
expand zero macros names origin p = elim (replacement macros names p) [
  | None ↦ items_of p origin
  | Some body ↦ refused (Refused TooManyReplacements origin.place) ∷ []
]
expand (suc n) macros names origin p = elim (replacement macros names p) [
  | None ↦ items_of p origin
  | Some body ↦ replaced origin ∷ flat_map (expand n macros (names ++ p.spelling ∷ []) origin) body
]

-- at most n replacements
abbrev pub within_replacements : ℕ → List TextItem → List TextItem
within_replacements n [] = []
within_replacements zero (replaced origin ∷ items) =
    refused (Refused TooManyReplacements origin.place) ∷ within_replacements zero items
within_replacements (suc n) (replaced origin ∷ items) = within_replacements n items
within_replacements n (item ∷ items) = item ∷ within_replacements n items

-- at most n tokens
abbrev pub within_tokens : ℕ → List TextItem → List TextItem
within_tokens n [] = []
within_tokens zero (taken meaning origin ∷ items) = refused (TooManyTokens origin.place) ∷ within_tokens zero items
within_tokens (suc n) (taken meaning origin ∷ items) = taken meaning origin ∷ within_tokens n items
within_tokens n (item ∷ items) = item ∷ within_tokens n items

-- tokens that are tested, or refusals
pub data Tested : Type 0 where
  token : TokenRead → Tested
  failed : LexError → Tested

abbrev pub tested_one : Result Meaning Construct → Cut → Tested
tested_one (Ok meaning) origin =
    token (record { meaning = meaning; start = origin.start; end = origin.end; place = origin.place })
tested_one (Err construct) origin = failed (Refused construct origin.place)

abbrev pub tested : List TextItem → List Tested
tested [] = []
tested (taken meaning origin ∷ items) = tested_one meaning origin ∷ tested items
tested (replaced origin ∷ items) = tested items
tested (refused error ∷ items) = failed error ∷ tested items

-- at most n bytes in all literals
abbrev pub literal_length : Meaning → ℕ
literal_length (literal bytes) = length bytes
literal_length _ = 0

abbrev pub within_literals : ℕ → List Tested → List Tested
within_literals n [] = []
within_literals n (token t ∷ ts) =
    if nat_le (literal_length t.meaning) n then token t ∷ within_literals (n - literal_length t.meaning) ts
    else failed (Refused LiteralsTooLong t.place) ∷ within_literals n ts
within_literals n (failed error ∷ ts) = failed error ∷ within_literals n ts

-- the tokens, or the first refusal
abbrev pub before_all : TokenRead → Result (List TokenRead) LexError → Result (List TokenRead) LexError
before_all t (Ok ts) = Ok (t ∷ ts)
before_all t (Err error) = Err error

abbrev pub outcome : List Tested → Result (List TokenRead) LexError
outcome [] = Ok []
outcome (token t ∷ ts) = before_all t (outcome ts)
outcome (failed error ∷ ts) = Err error
