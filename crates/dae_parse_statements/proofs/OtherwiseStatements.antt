-- Where the machine goes by the token that stands next, where that is none of those that it looks for.
use Rattle.std.proofs.Common.{◌≡◌, List, [], ◌∷◌, Some, None, refl}
use Rattle.dae_base.specs.declared.Place.{Place}
use Rattle.dae_tree.specs.declared.words.Keyword.{Keyword}
use Rattle.dae_tree.specs.declared.words.Keyword.TheVariants as keywords
use Rattle.dae_tree.specs.declared.signs.Sign.TheVariants as signs
use Rattle.dae_tree.specs.Marks.{TokenMark, word, sign, part, close_brace, else_word, word_mark}
use Rattle.dae_tree.specs.Names.{Names}
use Rattle.dae_tree.specs.Trees.{Expression, Statement, If}
use Rattle.dae_parse_grammar.specs.Frames.{Inside, Frame, state, stating, in_statements, in_return, seek, gave_statement, awaits_expression, awaits_statement}
use Rattle.dae_parse_grammar.specs.Machine.{block_followed, stated, evaluation_begun, returned, branched, done_followed}
use Rattle.dae_parse_states.specs.Fronts.{sign_at, word_at}
use Rattle.std.proofs.Common.{Option}
use Rattle.dae_tree.specs.Marks.{close_paren}
use Rattle.dae_parse_grammar.specs.Frames.{Loop, in_start, in_loop_test, in_step}
use Rattle.dae_parse_grammar.specs.Machine.{started, loop_tested, stepped}

pub started_otherwise : (p q : Place) (s : List Frame) (names : Names) (ts : List TokenMark) → ¬ (sign_at ts ≡ Some signs.Semicolon)
    → started p q s names ts ≡ Some (state (seek 16) (awaits_expression (in_start p q) ∷ s) names ts)
started_otherwise p q s names [] h = refl
started_otherwise p q s names (sign signs.Semicolon r ∷ ts) h = absurd (h refl)
started_otherwise p q s names (_ ∷ ts) h = refl

pub tested_otherwise : (p q : Place) (a : Option Expression) (r : Place) (s : List Frame) (names : Names) (ts : List TokenMark) → ¬ (sign_at ts ≡ Some signs.Semicolon)
    → loop_tested p q a r s names ts ≡ Some (state (seek 16) (awaits_expression (in_loop_test p q a r) ∷ s) names ts)
tested_otherwise p q a r s names [] h = refl
tested_otherwise p q a r s names (sign signs.Semicolon u ∷ ts) h = absurd (h refl)
tested_otherwise p q a r s names (_ ∷ ts) h = refl

pub stepped_otherwise : (l : Loop) (s : List Frame) (names : Names) (ts : List TokenMark) → ¬ (sign_at ts ≡ Some signs.RightParen)
    → stepped l s names ts ≡ Some (state (seek 16) (awaits_expression (in_step l) ∷ s) names ts)
stepped_otherwise l s names [] h = refl
stepped_otherwise l s names (part close_paren ∷ ts) h = absurd (h refl)
stepped_otherwise l s names (_ ∷ ts) h = refl

pub followed_otherwise : (i : Inside) (before : List Statement) (s : List Frame) (names : Names) (ts : List TokenMark) → ¬ (sign_at ts ≡ Some signs.RightBrace)
    → block_followed i before s names ts ≡ Some (state stating (awaits_statement (in_statements i before) ∷ s) names ts)
followed_otherwise i before s names [] h = refl
followed_otherwise i before s names (part close_brace ∷ ts) h = absurd (h refl)
followed_otherwise i before s names (_ ∷ ts) h = refl

pub returned_otherwise : (p : Place) (s : List Frame) (names : Names) (ts : List TokenMark) → ¬ (sign_at ts ≡ Some signs.Semicolon)
    → returned p s names ts ≡ Some (state (seek 16) (awaits_expression (in_return p) ∷ s) names ts)
returned_otherwise p s names [] h = refl
returned_otherwise p s names (sign signs.Semicolon q ∷ ts) h = absurd (h refl)
returned_otherwise p s names (_ ∷ ts) h = refl

pub branched_otherwise : (p q : Place) (e : Expression) (b : Statement) (s : List Frame) (names : Names) (ts : List TokenMark) → ¬ (word_at ts ≡ Some keywords.Else)
    → branched p q e b s names ts ≡ Some (state (gave_statement (If p q e b)) s names ts)
branched_otherwise p q e b s names [] h = refl
branched_otherwise p q e b s names (part else_word ∷ ts) h = absurd (h refl)
branched_otherwise p q e b s names (_ ∷ ts) h = refl

pub done_or_none : (p : Place) (b : Statement) (s : List Frame) (names : Names) (ts : List TokenMark) → ¬ (word_at ts ≡ Some keywords.While) → done_followed p b s names ts ≡ None
done_or_none p b s names [] h = refl
done_or_none p b s names (word keywords.While q ∷ ts) h = absurd (h refl)
done_or_none p b s names (_ ∷ ts) h = refl

-- neither a sign nor a word that begins a statement of its own
pub stated_otherwise : (s : List Frame) (names : Names) (ts : List TokenMark) → ¬ (sign_at ts ≡ Some signs.LeftBrace) → ¬ (sign_at ts ≡ Some signs.Semicolon) → word_at ts ≡ None
    → stated s names ts ≡ evaluation_begun s names ts
stated_otherwise s names [] h k w = refl
stated_otherwise s names (sign signs.LeftBrace p ∷ ts) h k w = absurd (h refl)
stated_otherwise s names (sign signs.Semicolon p ∷ ts) h k w = absurd (k refl)
stated_otherwise s names (word v p ∷ ts) h k w = cc
stated_otherwise s names (_ ∷ ts) h k w = refl

-- a word that begins no statement of its own
pub word_otherwise : (k : Keyword) (p : Place) (s : List Frame) (names : Names) (ts : List TokenMark)
    → ¬ (k ≡ keywords.If) → ¬ (k ≡ keywords.While) → ¬ (k ≡ keywords.Switch) → ¬ (k ≡ keywords.Do) → ¬ (k ≡ keywords.For)
    → ¬ (k ≡ keywords.Break) → ¬ (k ≡ keywords.Continue) → ¬ (k ≡ keywords.Return) → ¬ (k ≡ keywords.Case) → ¬ (k ≡ keywords.Default)
    → stated s names (word_mark k p ∷ ts) ≡ evaluation_begun s names (word_mark k p ∷ ts)
word_otherwise keywords.If p s names ts a b c d e f g h i j = absurd (a refl)
word_otherwise keywords.While p s names ts a b c d e f g h i j = absurd (b refl)
word_otherwise keywords.Switch p s names ts a b c d e f g h i j = absurd (c refl)
word_otherwise keywords.Do p s names ts a b c d e f g h i j = absurd (d refl)
word_otherwise keywords.For p s names ts a b c d e f g h i j = absurd (e refl)
word_otherwise keywords.Break p s names ts a b c d e f g h i j = absurd (f refl)
word_otherwise keywords.Continue p s names ts a b c d e f g h i j = absurd (g refl)
word_otherwise keywords.Return p s names ts a b c d e f g h i j = absurd (h refl)
word_otherwise keywords.Case p s names ts a b c d e f g h i j = absurd (i refl)
word_otherwise keywords.Default p s names ts a b c d e f g h i j = absurd (j refl)
word_otherwise keywords.Else p s names ts a b c d e f g h i j = refl
word_otherwise _ p s names ts a b c d e f g h i j = refl
