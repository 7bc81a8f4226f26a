-- Words and literals by number: each is read once, and is then known by its number.
use Rattle.std.specs.Prelude.{◌≡◌, ℕ, ◌<◌, List, [], map, length, All, slice_index_or}
use Rattle.std.specs.List.{position_or_len}
use Rattle.std.specs.Str.{bytes_eq}
use Rattle.dae_tree.specs.Literals.{values_of, inside}
use Rattle.dae_tree.specs.Pieces.{Cut}
use Rattle.dae_tree.specs.Replacing.{Definition}
use Rattle.dae_tree.specs.declared.pieces.PieceKind.{PieceKind}
use Rattle.dae_tree.specs.declared.pieces.PieceKind.TheVariants as kinds
use Rattle.dae_lex.specs.declared.numbers.WordNumbers.{WordNumbers}
use Rattle.dae_lex.specs.declared.numbers.NumberedPiece.{NumberedPiece}
use Rattle.dae_lex.specs.declared.macros.Macro.{Macro}
use Rattle.dae_lex.specs.declared.macros.Macros.{Macros}
use Rattle.dae_lex_scan.specs.Cuts.{cut_of}

abbrev pub words_of : WordNumbers → List (List ℕ)
words_of w = map (λ k. k.now) w.words.keys

-- a word's number is its place among the words, and a literal's the place of its bytes
abbrev pub IsName : WordNumbers → ℕ → List ℕ → Type 0
IsName w n name = (n ≡ position_or_len (bytes_eq name) (words_of w)) × (n < length (words_of w))

abbrev pub IsLiteral : WordNumbers → ℕ → List ℕ → Type 0
IsLiteral w n bytes = (n < length w.literals.items) × (slice_index_or w.literals.items n [] ≡ bytes)

abbrev pub IsNumberedBy : PieceKind → WordNumbers → ℕ → List ℕ → Type 0
IsNumberedBy kinds.Word w n spelling = IsName w n spelling
IsNumberedBy kinds.Text w n spelling = IsLiteral w n (values_of (inside spelling))
IsNumberedBy _ w n spelling = Unit {0}

abbrev pub IsNumbered : WordNumbers → NumberedPiece → Type 0
IsNumbered w p = IsNumberedBy p.piece.kind w p.number p.piece.spelling.now

-- what had a number keeps it
pub record Keeps (old new : WordNumbers) : Type 0 where
  pub words : (n : ℕ) (name : List ℕ) → IsName old n name → IsName new n name
  pub literals : (n : ℕ) (bytes : List ℕ) → IsLiteral old n bytes → IsLiteral new n bytes

abbrev pub cuts_of : List NumberedPiece → List Cut
cuts_of ps = map (λ p. cut_of p.piece) ps

-- the macros as they are defined, and that their names and bodies have numbers
abbrev pub definition_of : Macro → Definition
definition_of m = record { name = m.name.now; body = cuts_of m.body.items }

abbrev pub definitions_of : Macros → List Definition
definitions_of m = map (λ e. definition_of e.1) m.bodies.entries

abbrev pub AreDefined : WordNumbers → Macros → Type 0
AreDefined w m =
    All (λ e. IsName w e.0 e.1.name.now × All (IsNumbered w) e.1.body.items) m.bodies.entries
