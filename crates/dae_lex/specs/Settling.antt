-- The items of a text one by one: the tokens so far, and what is left of the room.
use Rattle.std.specs.Prelude.{◌≡◌, ℕ, zero, suc, ◌-◌, List, [], ◌∷◌, ◌++◌, map, nat_le, if◌then◌else◌, Result, Ok, Err, All}
use Rattle.dae_tree.specs.Literals.{values_of}
use Rattle.dae_tree.specs.Replacing.{Meaning, keyword, sign, name, constant, literal, TokenRead, TextItem, taken, replaced, refused, Tested, token, failed, tested_one, literal_length}
use Rattle.dae_tree.specs.declared.tokens.Room.{Room}
use Rattle.dae_tree.specs.declared.pieces.PieceKind.{PieceKind}
use Rattle.dae_tree.specs.declared.pieces.PieceKind.TheVariants as kinds
use Rattle.dae_tree.specs.declared.faults.Construct.{Construct}
use Rattle.dae_tree.specs.declared.faults.Construct.TheVariants.{TooManyReplacements, LiteralsTooLong}
use Rattle.dae_tree.specs.declared.faults.LexError.{LexError}
use Rattle.dae_tree.specs.declared.faults.LexError.TheVariants as errors
use Rattle.dae_lex.specs.declared.output.Meaning.{Meaning as Meant}
use Rattle.dae_lex.specs.declared.output.Meaning.TheVariants as meanings
use Rattle.dae_lex.specs.declared.output.ReadToken.{ReadToken}
use Rattle.dae_lex.specs.declared.output.Output.{Output}
use Rattle.dae_lex.specs.declared.numbers.WordNumbers.{WordNumbers}
use Rattle.dae_lex.specs.Numbers.{IsName, IsLiteral}

-- what the code has of a token
abbrev pub meaning_of : Meant → Meaning
meaning_of (meanings.Keyword k) = keyword k
meaning_of (meanings.Sign s) = sign s
meaning_of (meanings.Name number n) = name n.now
meaning_of (meanings.Constant c) = constant c
meaning_of (meanings.Literal number inside) = literal (values_of inside.now)

-- a name and a literal have their numbers
abbrev pub IsMeant : WordNumbers → Meant → Type 0
IsMeant w (meanings.Name number n) = IsName w number n.now
IsMeant w (meanings.Literal number inside) = IsLiteral w number (values_of inside.now)
IsMeant w _ = Unit {0}

-- a piece of this kind is a token with this meaning, however it is spelled
abbrev pub IsFixed : PieceKind → Meant → Type 0
IsFixed (kinds.Constant c) m = m ≡ meanings.Constant c
IsFixed (kinds.Mark s) m = m ≡ meanings.Sign s
IsFixed _ m = ⊥

abbrev pub meant : Result Meant Construct → Result Meaning Construct
meant (Ok meaning) = Ok (meaning_of meaning)
meant (Err construct) = Err construct

abbrev pub read_of : ReadToken → TokenRead
read_of t = record { meaning = meaning_of t.meaning; start = t.start; end = t.end; place = t.place }

abbrev pub AreRead : WordNumbers → Output → Type 0
AreRead w out = All (λ t. IsMeant w t.meaning) out.tokens.items

pub record LexState : Type 0 where
  pub tokens : List TokenRead
  pub room : Room

abbrev pub state_of : Output → LexState
state_of out = record { tokens = map read_of out.tokens.items; room = out.room }

-- a tested token is kept, where n tokens may follow it
abbrev pub keep : LexState → ℕ → Tested → Result LexState LexError
keep s n (failed error) = Err error
keep s n (token t) =
    if nat_le (literal_length t.meaning) s.room.literal_bytes
    then Ok (record {
      tokens = s.tokens ++ t ∷ [];
      room = record {
        tokens = n;
        replacements = s.room.replacements;
        literal_bytes = s.room.literal_bytes - literal_length t.meaning;
      };
    })
    else Err (errors.Refused LiteralsTooLong t.place)

abbrev pub step : LexState → TextItem → Result LexState LexError
step s (taken meaning origin) = elim s.room.tokens [
  | zero ↦ Err (errors.TooManyTokens origin.place)
  | suc n ↦ keep s n (tested_one meaning origin)
]
step s (replaced origin) = elim s.room.replacements [
  | zero ↦ Err (errors.Refused TooManyReplacements origin.place)
  | suc n ↦ Ok (record {
    tokens = s.tokens;
    room = record { tokens = s.room.tokens; replacements = n; literal_bytes = s.room.literal_bytes };
  })
]
step s (refused error) = Err error

abbrev pub settle : LexState → List TextItem → Result LexState LexError
settle s [] = Ok s
settle s (item ∷ items) = elim (step s item) [ Ok t ↦ settle t items | Err error ↦ Err error ]

-- what an error says of an answer: nothing, where memory ran out, and else that it is refused so
abbrev pub Fails : {A : Type 0} → LexError → Result A LexError → Type 0
Fails errors.Memory answer = Unit {0}
Fails error answer = answer ≡ Err error

-- a call that left this state gave what settling gives
abbrev pub Settles : {A : Type 0} → LexState → Result A LexError → Result LexState LexError → Type 0
Settles new (Ok x) settled = settled ≡ Ok new
Settles new (Err error) settled = Fails error settled
