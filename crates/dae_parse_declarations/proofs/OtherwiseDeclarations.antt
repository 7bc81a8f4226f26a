-- Where the machine goes by the token that stands next, where that is none of those that it looks for.
use Rattle.std.proofs.Common.{◌≡◌, Bool, true, false, List, [], ◌∷◌, length, Some, None, refl, arith}
use Rattle.dae_base.specs.declared.Place.{Place}
use Rattle.dae_tree.specs.declared.signs.Sign.TheVariants as signs
use Rattle.dae_tree.specs.Marks.{TokenMark, sign, part, close_brace, comma}
use Rattle.dae_tree.specs.Names.{Names}
use Rattle.dae_tree.specs.Words.{nothing_seen}
use Rattle.dae_tree.specs.Grammar.{by_name}
use Rattle.dae_tree.specs.Trees.{Specifiers, Declarator, Initialiser, InitDeclarator, External}
use Rattle.dae_parse_grammar.specs.Frames.{Frame, state, in_value, seek, in_list, initialising, declaring, of_item, specifying, for_declaration, in_file, awaits_expression, awaits_specifiers, awaits_declarator, awaits_initialiser, awaits_declaration}
use Rattle.dae_parse_grammar.specs.Machine.{initialised, list_followed, listed, declaration_begun, definition_begun, item_given, plain_item, item_followed, external_begun}
use Rattle.dae_parse_states.specs.Fronts.{sign_at}
use Rattle.dae_parse_nodes.specs.Parts.{is_some_list}

pub initialised_otherwise : (s : List Frame) (names : Names) (ts : List TokenMark) → ¬ (sign_at ts ≡ Some signs.LeftBrace)
    → initialised s names ts ≡ Some (state (seek 15) (awaits_expression in_value ∷ s) names ts)
initialised_otherwise s names [] h = refl
initialised_otherwise s names (sign signs.LeftBrace p ∷ ts) h = absurd (h refl)
initialised_otherwise s names (_ ∷ ts) h = refl

pub list_otherwise : (p : Place) (before : List Initialiser) (s : List Frame) (names : Names) (ts : List TokenMark) → ¬ (sign_at ts ≡ Some signs.RightBrace)
    → list_followed p before s names ts ≡ Some (state initialising (awaits_initialiser (in_list p before) ∷ s) names ts)
list_otherwise p before s names [] h = refl
list_otherwise p before s names (part close_brace ∷ ts) h = absurd (h refl)
list_otherwise p before s names (_ ∷ ts) h = refl

pub listed_or_none : (x : Initialiser) (p : Place) (before : List Initialiser) (s : List Frame) (names : Names) (ts : List TokenMark) → ¬ (sign_at ts ≡ Some signs.Comma) → ¬ (sign_at ts ≡ Some signs.RightBrace)
    → listed x p before s names ts ≡ None
listed_or_none x p before s names [] h k = refl
listed_or_none x p before s names (part comma ∷ ts) h k = absurd (h refl)
listed_or_none x p before s names (part close_brace ∷ ts) h k = absurd (k refl)
listed_or_none x p before s names (_ ∷ ts) h k = refl

pub declaration_otherwise : (outer : Bool) (ws : Specifiers) (s : List Frame) (names : Names) (ts : List TokenMark) → ¬ (sign_at ts ≡ Some signs.Semicolon)
    → declaration_begun outer ws s names ts ≡ Some (state (declaring by_name false) (awaits_declarator (of_item outer ws []) ∷ s) names ts)
declaration_otherwise outer ws s names [] h = refl
declaration_otherwise outer ws s names (sign signs.Semicolon p ∷ ts) h = absurd (h refl)
declaration_otherwise outer ws s names (_ ∷ ts) h = refl

pub item_or_none : (ws : Specifiers) (i : InitDeclarator) (before : List InitDeclarator) (s : List Frame) (names : Names) (ts : List TokenMark) → ¬ (sign_at ts ≡ Some signs.Comma) → ¬ (sign_at ts ≡ Some signs.Semicolon)
    → item_followed ws i before s names ts ≡ None
item_or_none ws i before s names [] h k = refl
item_or_none ws i before s names (part comma ∷ ts) h k = absurd (h refl)
item_or_none ws i before s names (sign signs.Semicolon p ∷ ts) h k = absurd (k refl)
item_or_none ws i before s names (_ ∷ ts) h k = refl

-- ---- the first declarator at file scope

pub inner_otherwise : (d : Declarator) (ws : Specifiers) (before : List InitDeclarator) (s : List Frame) (names : Names) (ts : List TokenMark) → ¬ (sign_at ts ≡ Some signs.Assign)
    → item_given false d ws before s names ts ≡ plain_item d ws before s names ts
inner_otherwise d ws before s names [] h = refl
inner_otherwise d ws before s names (sign signs.Assign p ∷ ts) h = absurd (h refl)
inner_otherwise d ws before s names (_ ∷ ts) h = refl

pub later_otherwise : (outer : Bool) (d : Declarator) (ws : Specifiers) (before : List InitDeclarator) (s : List Frame) (names : Names) (ts : List TokenMark) → ¬ (sign_at ts ≡ Some signs.Assign) → true ≡ is_some_list before
    → item_given outer d ws before s names ts ≡ plain_item d ws before s names ts
later_otherwise outer d ws [] s names ts h k = cc
later_otherwise outer d ws (i ∷ before) s names [] h k = refl
later_otherwise outer d ws (i ∷ before) s names (sign signs.Assign p ∷ ts) h k = absurd (h refl)
later_otherwise true d ws (i ∷ before) s names (_ ∷ ts) h k = refl
later_otherwise false d ws (i ∷ before) s names (_ ∷ ts) h k = refl

pub first_otherwise : (d : Declarator) (ws : Specifiers) (before : List InitDeclarator) (s : List Frame) (names : Names) (ts : List TokenMark) → ¬ (sign_at ts ≡ Some signs.Assign) → ¬ (sign_at ts ≡ Some signs.LeftBrace)
    → item_given true d ws before s names ts ≡ plain_item d ws before s names ts
first_otherwise d ws [] s names [] h k = refl
first_otherwise d ws [] s names (sign signs.Assign p ∷ ts) h k = absurd (h refl)
first_otherwise d ws [] s names (sign signs.LeftBrace p ∷ ts) h k = absurd (k refl)
first_otherwise d ws [] s names (_ ∷ ts) h k = refl
first_otherwise d ws (i ∷ before) s names [] h k = refl
first_otherwise d ws (i ∷ before) s names (sign signs.Assign p ∷ ts) h k = absurd (h refl)
first_otherwise d ws (i ∷ before) s names (_ ∷ ts) h k = refl

pub begun_by_brace : (d : Declarator) (ws : Specifiers) (before : List InitDeclarator) (s : List Frame) (names : Names) (p : Place) (ts : List TokenMark) → false ≡ is_some_list before
    → item_given true d ws before s names (sign signs.LeftBrace p ∷ ts) ≡ Some (definition_begun d ws p s names ts)
begun_by_brace d ws [] s names p ts k = refl
begun_by_brace d ws (i ∷ before) s names p ts k = cc

-- ---- the end of a file

pub ended_file : (before : List External) (s : List Frame) (names : Names) (ts : List TokenMark) → length ts ≡ 0 → external_begun before s names ts ≡ None
ended_file before s names [] h = refl
ended_file before s names (t ∷ ts) h = absurd (omega (arith, h))

pub file_goes_on : (before : List External) (s : List Frame) (names : Names) (ts : List TokenMark) → ¬ (length ts ≡ 0)
    → external_begun before s names ts ≡ Some (state (specifying nothing_seen []) (awaits_specifiers (for_declaration true) ∷ awaits_declaration (in_file before) ∷ s) names ts)
file_goes_on before s names [] h = absurd (h refl)
file_goes_on before s names (t ∷ ts) h = refl
