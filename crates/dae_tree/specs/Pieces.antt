-- A text cut into the longest pieces.
use Rattle.std.specs.Prelude.{ℕ, zero, suc, pred, ◌+◌, ◌-◌, List, [], ◌∷◌, take, slice_index_or}
use Rattle.dae_base.specs.declared.Place.{Place}
use Rattle.dae_tree.specs.Lines.{Char, bytes_of, spots_of, start_of}
use Rattle.dae_tree.specs.Forms.{form}
use Rattle.dae_tree.specs.declared.pieces.TextSpot.{TextSpot}
use Rattle.dae_tree.specs.declared.pieces.Lexeme.{Lexeme}
use Rattle.dae_tree.specs.declared.pieces.PieceKind.{PieceKind}

-- what a piece is, its bytes with lines joined, and where it stands in the text
pub record Cut : Type 0 where
  pub kind : PieceKind
  pub spelling : List ℕ
  pub start : ℕ
  pub end : ℕ
  pub place : Place

abbrev pub spot_at : List Char → ℕ → TextSpot
spot_at cs i = slice_index_or (spots_of cs) i (start_of 0)

-- the piece at the front of these characters
abbrev pub piece : Lexeme → List Char → Cut
piece f cs = record {
  kind = f.kind;
  spelling = take f.length (bytes_of cs);
  start = (spot_at cs 0).offset;
  end = (spot_at cs (f.length - 1)).offset + 1;
  place = (spot_at cs f.at).place;
}

-- the pieces, where the first n characters are of a piece before
abbrev pub cut : ℕ → List Char → List Cut
cut n [] = []
cut (suc n) (c ∷ cs) = cut n cs
cut zero (c ∷ cs) = piece (form (bytes_of (c ∷ cs))) (c ∷ cs) ∷ cut (pred (form (bytes_of (c ∷ cs))).length) cs
