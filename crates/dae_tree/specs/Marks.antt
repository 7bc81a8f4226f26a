-- Tokens as the grammar sees them: what each is, with its place. A token that only closes or parts has no place.
use Rattle.std.specs.Prelude.{ℕ, List, [], ◌∷◌, map}
use Rattle.dae_base.specs.declared.Place.{Place}
use Rattle.dae_tree.specs.declared.constants.Constant.{Constant}
use Rattle.dae_tree.specs.declared.words.Keyword.{Keyword}
use Rattle.dae_tree.specs.declared.words.Keyword.TheVariants as keywords
use Rattle.dae_tree.specs.declared.signs.Sign.{Sign}
use Rattle.dae_tree.specs.declared.signs.Sign.TheVariants as signs
use Rattle.dae_tree.specs.declared.tokens.TokenKind.{TokenKind}
use Rattle.dae_tree.specs.declared.tokens.TokenKind.TheVariants as kinds
use Rattle.dae_tree.specs.declared.tokens.Token.{Token}
use Rattle.dae_tree.specs.declared.expressions.Name.{Name}

-- what only closes or parts: `)`, `]`, `}`, `,`, `:` and `else`
pub data Separator : Type 0 where
  close_paren : Separator
  close_bracket : Separator
  close_brace : Separator
  comma : Separator
  colon : Separator
  else_word : Separator

pub data TokenMark : Type 0 where
  word : Keyword → Place → TokenMark
  sign : Sign → Place → TokenMark
  name : Name → TokenMark
  constant : Place → Constant → TokenMark
  literal : Place → ℕ → TokenMark
  part : Separator → TokenMark

abbrev pub word_mark : Keyword → Place → TokenMark
word_mark keywords.Else place = part else_word
word_mark k place = word k place

abbrev pub sign_mark : Sign → Place → TokenMark
sign_mark signs.RightParen place = part close_paren
sign_mark signs.RightBracket place = part close_bracket
sign_mark signs.RightBrace place = part close_brace
sign_mark signs.Comma place = part comma
sign_mark signs.Colon place = part colon
sign_mark s place = sign s place

abbrev pub mark_of : TokenKind → Place → TokenMark
mark_of (kinds.Keyword k) place = word_mark k place
mark_of (kinds.Sign s) place = sign_mark s place
mark_of (kinds.Name n) place = name (record { place = place; number = n })
mark_of (kinds.Constant c) place = constant place c
mark_of (kinds.Literal n) place = literal place n

abbrev pub mark : Token → TokenMark
mark t = mark_of t.kind t.place

abbrev pub marks : List Token → List TokenMark
marks tokens = map mark tokens

-- the numbers of the literals among tokens, in order
abbrev pub literal_numbers : List TokenMark → List ℕ
literal_numbers [] = []
literal_numbers (literal p n ∷ ts) = n ∷ literal_numbers ts
literal_numbers (_ ∷ ts) = literal_numbers ts
