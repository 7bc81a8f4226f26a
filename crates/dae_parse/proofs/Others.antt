-- What the machine does where the frame on top of the stack awaits something else than what was read: nothing.
use Rattle.std.proofs.Common.{◌≡◌, List, [], ◌∷◌, None, refl}
use Rattle.dae_tree.specs.Marks.{TokenMark}
use Rattle.dae_tree.specs.Names.{Names}
use Rattle.dae_parse_grammar.specs.Frames as plain
use Rattle.dae_parse_grammar.specs.Machine.{given, specifiers_taken, declarator_taken, initialiser_taken, declaration_taken, statement_taken}
use Rattle.dae_parse_states.specs.Kept.{Frame}
use Rattle.dae_parse_states.specs.Kept as frame
use Rattle.dae_parse_states.specs.Frames.{ShowsStack}

pub other_expression : (e : _) (fs : List Frame) (s : List plain.Frame) (names : Names) (ts : List TokenMark) → ShowsStack fs s
    → ((f : _) (below : List Frame) → ¬ (fs ≡ frame.Expression f ∷ below)) → given e s names ts ≡ None
other_expression e [] (plain.awaits_expression g ∷ s) names ts shows other = absurd shows
other_expression e (frame.Expression f ∷ fs) (plain.awaits_expression g ∷ s) names ts shows other = absurd (other f fs refl)
other_expression e (_ ∷ fs) (plain.awaits_expression g ∷ s) names ts shows other = absurd shows.0
other_expression e fs _ names ts shows other = refl

pub other_specifiers : (ws : _) (fs : List Frame) (s : List plain.Frame) (names : Names) (ts : List TokenMark) → ShowsStack fs s
    → ((f : _) (below : List Frame) → ¬ (fs ≡ frame.Specifiers f ∷ below)) → specifiers_taken ws s names ts ≡ None
other_specifiers ws [] (plain.awaits_specifiers g ∷ s) names ts shows other = absurd shows
other_specifiers ws (frame.Specifiers f ∷ fs) (plain.awaits_specifiers g ∷ s) names ts shows other = absurd (other f fs refl)
other_specifiers ws (_ ∷ fs) (plain.awaits_specifiers g ∷ s) names ts shows other = absurd shows.0
other_specifiers ws fs _ names ts shows other = refl

pub other_declarator : (d : _) (fs : List Frame) (s : List plain.Frame) (names : Names) (ts : List TokenMark) → ShowsStack fs s
    → ((f : _) (below : List Frame) → ¬ (fs ≡ frame.Declarator f ∷ below)) → declarator_taken d s names ts ≡ None
other_declarator d [] (plain.awaits_declarator g ∷ s) names ts shows other = absurd shows
other_declarator d (frame.Declarator f ∷ fs) (plain.awaits_declarator g ∷ s) names ts shows other = absurd (other f fs refl)
other_declarator d (_ ∷ fs) (plain.awaits_declarator g ∷ s) names ts shows other = absurd shows.0
other_declarator d fs _ names ts shows other = refl

pub other_initialiser : (x : _) (fs : List Frame) (s : List plain.Frame) (names : Names) (ts : List TokenMark) → ShowsStack fs s
    → ((f : _) (below : List Frame) → ¬ (fs ≡ frame.Initialiser f ∷ below)) → initialiser_taken x s names ts ≡ None
other_initialiser x [] (plain.awaits_initialiser g ∷ s) names ts shows other = absurd shows
other_initialiser x (frame.Initialiser f ∷ fs) (plain.awaits_initialiser g ∷ s) names ts shows other = absurd (other f fs refl)
other_initialiser x (_ ∷ fs) (plain.awaits_initialiser g ∷ s) names ts shows other = absurd shows.0
other_initialiser x fs _ names ts shows other = refl

pub other_declaration : (d : _) (fs : List Frame) (s : List plain.Frame) (names : Names) (ts : List TokenMark) → ShowsStack fs s
    → ((f : _) (below : List Frame) → ¬ (fs ≡ frame.Declaration f ∷ below)) → declaration_taken d s names ts ≡ None
other_declaration d [] (plain.awaits_declaration g ∷ s) names ts shows other = absurd shows
other_declaration d (frame.Declaration f ∷ fs) (plain.awaits_declaration g ∷ s) names ts shows other = absurd (other f fs refl)
other_declaration d (_ ∷ fs) (plain.awaits_declaration g ∷ s) names ts shows other = absurd shows.0
other_declaration d fs _ names ts shows other = refl

pub other_statement : (b : _) (fs : List Frame) (s : List plain.Frame) (names : Names) (ts : List TokenMark) → ShowsStack fs s
    → ((f : _) (below : List Frame) → ¬ (fs ≡ frame.Statement f ∷ below)) → statement_taken b s names ts ≡ None
other_statement b [] (plain.awaits_statement g ∷ s) names ts shows other = absurd shows
other_statement b (frame.Statement f ∷ fs) (plain.awaits_statement g ∷ s) names ts shows other = absurd (other f fs refl)
other_statement b (_ ∷ fs) (plain.awaits_statement g ∷ s) names ts shows other = absurd shows.0
other_statement b fs _ names ts shows other = refl
