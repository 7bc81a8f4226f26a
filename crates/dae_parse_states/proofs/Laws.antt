-- The laws of what stands next, for the proofs of the crates above.
use Rattle.std.proofs.Common.{◌≡◌, List, [], ◌∷◌, Option, Some, None, refl}
use Rattle.dae_base.specs.declared.Place.{Place}
use Rattle.dae_tree.specs.declared.signs.Sign.TheVariants as signs
use Rattle.dae_tree.specs.Marks.{TokenMark, sign, part, close_paren, close_bracket, colon, comma}
use Rattle.dae_tree.specs.Names.{Names}
use Rattle.dae_tree.specs.Grammar.{Manner}
use Rattle.dae_tree.specs.Trees.{Expression, Declarator}
use Rattle.dae_parse_grammar.specs.Frames.{Loop, Frame, ParserState, state, gave_declarator, seek, in_start, in_loop_test, in_step}
use Rattle.dae_parse_grammar.specs.Machine.{suffixed, at_paren, at_bracket, at_colon, at_open, at_semicolon, argument_given, started, loop_tested, stepped}
use Rattle.dae_parse_states.specs.Fronts.{sign_at}
use Rattle.dae_tree.specs.declared.tokens.TokenKind.{TokenKind}
use Rattle.dae_tree.specs.declared.words.Keyword.{Keyword}
use Rattle.dae_tree.specs.Marks.{mark_of, word_mark}
use Rattle.dae_parse_states.specs.Fronts.{word_at}
use Rattle.dae_parse_states.proofs.ByKind as kinds_of

pub paren_or_none : (ts : List TokenMark) (next : List TokenMark → ParserState) → ¬ (sign_at ts ≡ Some signs.RightParen) → at_paren ts next ≡ None
paren_or_none [] next h = refl
paren_or_none (part close_paren ∷ ts) next h = absurd (h refl)
paren_or_none (_ ∷ ts) next h = refl

pub bracket_or_none : (ts : List TokenMark) (next : List TokenMark → ParserState) → ¬ (sign_at ts ≡ Some signs.RightBracket) → at_bracket ts next ≡ None
bracket_or_none [] next h = refl
bracket_or_none (part close_bracket ∷ ts) next h = absurd (h refl)
bracket_or_none (_ ∷ ts) next h = refl

pub colon_or_none : (ts : List TokenMark) (next : List TokenMark → ParserState) → ¬ (sign_at ts ≡ Some signs.Colon) → at_colon ts next ≡ None
colon_or_none [] next h = refl
colon_or_none (part colon ∷ ts) next h = absurd (h refl)
colon_or_none (_ ∷ ts) next h = refl

pub open_or_none : (ts : List TokenMark) (next : Place → List TokenMark → ParserState) → ¬ (sign_at ts ≡ Some signs.LeftParen) → at_open ts next ≡ None
open_or_none [] next h = refl
open_or_none (sign signs.LeftParen p ∷ ts) next h = absurd (h refl)
open_or_none (_ ∷ ts) next h = refl

pub semicolon_or_none : (ts : List TokenMark) (next : Place → List TokenMark → ParserState) → ¬ (sign_at ts ≡ Some signs.Semicolon) → at_semicolon ts next ≡ None
semicolon_or_none [] next h = refl
semicolon_or_none (sign signs.Semicolon p ∷ ts) next h = absurd (h refl)
semicolon_or_none (_ ∷ ts) next h = refl

-- the token that stands next is the keyword that is seen there
pub word_is : (k : TokenKind) (p : Place) (ts : List TokenMark) (w : Keyword) → word_at (mark_of k p ∷ ts) ≡ Some w → mark_of k p ≡ word_mark w p
word_is = kinds_of.word_is
