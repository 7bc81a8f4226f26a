-- What stands at the front, by a token's kind.
use Rattle.std.proofs.Common.{◌≡◌, Bool, false, List, [], ◌∷◌, Option, Some, None, refl, sym, ap, ◌∙◌}
use Rattle.std.proofs.lemmas.Option.{same_Some}
use Rattle.dae_base.specs.declared.Place.{Place}
use Rattle.dae_tree.specs.declared.words.Keyword.{Keyword}
use Rattle.dae_tree.specs.declared.words.Keyword.TheVariants as keywords
use Rattle.dae_tree.specs.declared.signs.Sign.{Sign}
use Rattle.dae_tree.specs.declared.signs.Sign.TheVariants as signs
use Rattle.dae_tree.specs.declared.tokens.TokenKind.{TokenKind}
use Rattle.dae_tree.specs.declared.tokens.TokenKind.TheVariants as kinds
use Rattle.dae_tree.specs.declared.expressions.Name.{Name}
use Rattle.dae_tree.specs.Marks.{TokenMark, word, sign, name, constant, literal, part, close_paren, close_bracket, close_brace, comma, colon, else_word, mark_of, sign_mark, word_mark}
use Rattle.dae_tree.specs.Names.{Names, is_type}
use Rattle.dae_tree.specs.Words.{nothing_seen, admits, begins_specifiers}
use Rattle.dae_parse_states.specs.Fronts.{sign_at, word_at, name_at}

pub sign_kept : (g : Sign) (p : Place) (ts : List TokenMark) → sign_at (sign_mark g p ∷ ts) ≡ Some g
sign_kept signs.RightParen p ts = refl
sign_kept signs.RightBracket p ts = refl
sign_kept signs.RightBrace p ts = refl
sign_kept signs.Comma p ts = refl
sign_kept signs.Colon p ts = refl
sign_kept _ p ts = refl

pub no_sign : (k : Keyword) (p : Place) (ts : List TokenMark) → sign_at (word_mark k p ∷ ts) ≡ None
no_sign keywords.Else p ts = refl
no_sign _ p ts = refl

pub word_kept : (k : Keyword) (p : Place) (ts : List TokenMark) → word_at (word_mark k p ∷ ts) ≡ Some k
word_kept keywords.Else p ts = refl
word_kept _ p ts = refl

pub no_word : (g : Sign) (p : Place) (ts : List TokenMark) → word_at (sign_mark g p ∷ ts) ≡ None
no_word signs.RightParen p ts = refl
no_word signs.RightBracket p ts = refl
no_word signs.RightBrace p ts = refl
no_word signs.Comma p ts = refl
no_word signs.Colon p ts = refl
no_word _ p ts = refl

pub no_name_word : (k : Keyword) (p : Place) (ts : List TokenMark) → name_at (word_mark k p ∷ ts) ≡ None
no_name_word keywords.Else p ts = refl
no_name_word _ p ts = refl

pub no_name_sign : (g : Sign) (p : Place) (ts : List TokenMark) → name_at (sign_mark g p ∷ ts) ≡ None
no_name_sign signs.RightParen p ts = refl
no_name_sign signs.RightBracket p ts = refl
no_name_sign signs.RightBrace p ts = refl
no_name_sign signs.Comma p ts = refl
no_name_sign signs.Colon p ts = refl
no_name_sign _ p ts = refl

pub sign_is : (k : TokenKind) (p : Place) (ts : List TokenMark) (g : Sign) → sign_at (mark_of k p ∷ ts) ≡ Some g → mark_of k p ≡ sign_mark g p
sign_is (kinds.Sign h) p ts g e = ap (λ (s : Sign). sign_mark s p) (same_Some h g (sym (sign_kept h p ts) ∙ e))
sign_is (kinds.Keyword k) p ts g e = let n = no_sign k p ts in cc
sign_is (kinds.Name n) p ts g e = cc
sign_is (kinds.Constant c) p ts g e = cc
sign_is (kinds.Literal n) p ts g e = cc

pub word_is : (k : TokenKind) (p : Place) (ts : List TokenMark) (w : Keyword) → word_at (mark_of k p ∷ ts) ≡ Some w → mark_of k p ≡ word_mark w p
word_is (kinds.Keyword k) p ts w e = ap (λ (s : Keyword). word_mark s p) (same_Some k w (sym (word_kept k p ts) ∙ e))
word_is (kinds.Sign h) p ts w e = let n = no_word h p ts in cc
word_is (kinds.Name n) p ts w e = cc
word_is (kinds.Constant c) p ts w e = cc
word_is (kinds.Literal n) p ts w e = cc

pub name_is : (k : TokenKind) (p : Place) (ts : List TokenMark) (n : Name) → name_at (mark_of k p ∷ ts) ≡ Some n → mark_of k p ≡ name n
name_is (kinds.Name m) p ts n e = ap name (same_Some (record { place = p; number = m }) n e)
name_is (kinds.Sign h) p ts n e = let q = no_name_sign h p ts in cc
name_is (kinds.Keyword k) p ts n e = let q = no_name_word k p ts in cc
name_is (kinds.Constant c) p ts n e = cc
name_is (kinds.Literal m) p ts n e = cc

abbrev by_name : Names → Option Name → Bool
by_name names None = false
by_name names (Some n) = is_type names n.number

abbrev by_front : Names → Option Keyword → Option Name → Bool
by_front names None o = by_name names o
by_front names (Some k) o = admits nothing_seen k

-- a token that only closes or parts begins no specifiers, nor does `else`
pub begins_by : (names : Names) (ts : List TokenMark) → begins_specifiers names ts ≡ by_front names (word_at ts) (name_at ts)
begins_by names [] = refl
begins_by names (word k p ∷ ts) = refl
begins_by names (sign g p ∷ ts) = refl
begins_by names (name n ∷ ts) = refl
begins_by names (constant p c ∷ ts) = refl
begins_by names (literal p n ∷ ts) = refl
begins_by names (part close_paren ∷ ts) = refl
begins_by names (part close_bracket ∷ ts) = refl
begins_by names (part close_brace ∷ ts) = refl
begins_by names (part comma ∷ ts) = refl
begins_by names (part colon ∷ ts) = refl
begins_by names (part else_word ∷ ts) = refl
