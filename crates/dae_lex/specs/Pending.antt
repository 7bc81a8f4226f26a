-- Replacements that aren't over, the outermost first, and what they still give.
use Rattle.std.specs.Prelude.{◌≡◌, ℕ, pred, ◌+◌, ◌*◌, ◌^◌, List, [], ◌∷◌, ◌++◌, map, length, Option, Result, Ok, Err, All}
use Rattle.std.specs.List.{flat_map, sum_by}
use Rattle.dae_tree.specs.Pieces.{Cut}
use Rattle.dae_tree.specs.Replacing.{Definition, TextItem, expand, replacement}
use Rattle.dae_tree.specs.declared.faults.LexError.{LexError}
use Rattle.dae_lex.specs.declared.macros.Macros.{Macros}
use Rattle.dae_lex.specs.declared.numbers.WordNumbers.{WordNumbers}
use Rattle.dae_lex.specs.declared.output.Output.{Output}
use Rattle.dae_lex_scan.specs.declared.pieces.SourcePiece.{SourcePiece}
use Rattle.dae_lex.specs.declared.replace.OpenReplacement.{OpenReplacement}
use Rattle.dae_lex.specs.declared.replace.Stack.{Stack}
use Rattle.dae_lex_scan.specs.Cuts.{cut_of}
use Rattle.dae_lex.specs.Numbers.{IsName, IsNumbered, cuts_of, definitions_of}
use Rattle.dae_lex.specs.Settling.{LexState, Fails, settle, state_of}

pub record PendingReplacement : Type 0 where
  pub name : List ℕ
  pub rest : List Cut

abbrev pub frame_of : OpenReplacement → PendingReplacement
frame_of f = record { name = f.name.now; rest = cuts_of f.rest.now }

abbrev pub frames_of : Stack → List PendingReplacement
frames_of s = map (λ e. frame_of e.1) s.frames.entries

-- the names and the rests of bodies have numbers
abbrev pub AreOpen : WordNumbers → Stack → Type 0
AreOpen w s =
    All (λ e. IsName w e.0 e.1.name.now × All (IsNumbered w) e.1.rest.now) s.frames.entries

abbrev pub names_of : List PendingReplacement → List (List ℕ)
names_of fs = map (λ f. f.name) fs

-- what a piece is replaced by, where these replacements aren't over
abbrev pub replacement_in : Macros → Stack → Cut → Option (List Cut)
replacement_in macros stack p = replacement (definitions_of macros) (names_of (frames_of stack)) p

-- what the rest gives, where n replacements may stand in one another and these names were come from
unfoldable pub pending : ℕ → List Definition → List (List ℕ) → Cut → List PendingReplacement → List TextItem
pending n macros names origin [] = []
pending n macros names origin (f ∷ inner) =
    pending (pred n) macros (names ++ f.name ∷ []) origin inner ++ flat_map (expand (pred n) macros (names ++ f.name ∷ []) origin) f.rest

-- what settling gives of it
abbrev pub settling : ℕ → Macros → SourcePiece → Output → Stack → Result LexState LexError
settling n macros origin out stack =
    settle (state_of out) (pending n (definitions_of macros) [] (cut_of origin) (frames_of stack))

-- what is left to do falls with each turn
unfoldable pub work_of : ℕ → List PendingReplacement → ℕ
work_of left frames = left * 2 ^ 64 + sum_by (λ f. 1 + length f.rest) frames

-- after Ok what is left gives the same as before, and a refusal is what it gave
abbrev pub Follows : {A : Type 0} → Result A LexError → Result LexState LexError → Result LexState LexError → Type 0
Follows (Ok x) before after = after ≡ before
Follows (Err error) before after = Fails error before
