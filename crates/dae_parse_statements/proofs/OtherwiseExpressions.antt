-- Where the machine goes by the token that stands next, where that is none of those that it looks for.
use Rattle.std.proofs.Common.{◌≡◌, List, [], ◌∷◌, Option, Some, None, refl}
use Rattle.dae_base.specs.declared.Place.{Place}
use Rattle.dae_tree.specs.declared.signs.Sign.TheVariants as signs
use Rattle.dae_tree.specs.Marks.{TokenMark, sign, part, close_paren, close_bracket, colon, comma}
use Rattle.dae_tree.specs.Names.{Names}
use Rattle.dae_tree.specs.Grammar.{Manner}
use Rattle.dae_tree.specs.Trees.{Expression, Declarator}
use Rattle.dae_parse_grammar.specs.Frames.{Loop, Frame, state, gave_declarator, seek, in_start, in_loop_test, in_step}
use Rattle.dae_parse_grammar.specs.Machine.{suffixed, at_paren, at_bracket, at_colon, at_open, at_semicolon, argument_given, started, loop_tested, stepped}
use Rattle.dae_parse_states.specs.Fronts.{sign_at}

pub argument_or_none : (a f : Expression) (p : Place) (before : List Expression) (l : _) (s : List Frame) (names : Names) (ts : List TokenMark) → ¬ (sign_at ts ≡ Some signs.Comma) → ¬ (sign_at ts ≡ Some signs.RightParen)
    → argument_given a f p before l s names ts ≡ None
argument_or_none a f p before l s names [] h k = refl
argument_or_none a f p before l s names (part comma ∷ ts) h k = absurd (h refl)
argument_or_none a f p before l s names (part close_paren ∷ ts) h k = absurd (k refl)
argument_or_none a f p before l s names (_ ∷ ts) h k = refl
