-- What the code has of the characters and pieces of a text.
use Rattle.std.specs.Prelude.{ℕ, ◌+◌, ◌<◌, ◌≤◌, List, [], ◌∷◌}
use Rattle.dae_tree.specs.Lines.{Char}
use Rattle.dae_base.specs.declared.Place.{Place}
use Rattle.dae_tree.specs.Order.{IsNoLater}
use Rattle.dae_tree.specs.Pieces.{Cut}
use Rattle.dae_tree.specs.declared.pieces.TextSpot.{TextSpot}
use Rattle.dae_lex_scan.specs.declared.pieces.SourcePiece.{SourcePiece}

abbrev pub cut_of : SourcePiece → Cut
cut_of p = record { kind = p.kind; spelling = p.spelling.now; start = p.start; end = p.end; place = p.place }

-- bytes with their spots
abbrev pub chars : List ℕ → List TextSpot → List Char
chars (b ∷ bs) (s ∷ ss) = record { byte = b; spot = s } ∷ chars bs ss
chars _ _ = []

-- offsets from e on that rise, up to b
abbrev pub Rise : ℕ → List TextSpot → ℕ → Type 0
Rise e [] b = e ≤ b
Rise e (s ∷ ss) b = (e ≤ s.offset) × Rise (s.offset + 1) ss b

-- pieces from e on, each behind the one before, up to b
abbrev pub FollowEachOther : ℕ → List Cut → ℕ → Type 0
FollowEachOther e [] b = e ≤ b
FollowEachOther e (p ∷ ps) b = (e ≤ p.start) × (p.start < p.end) × FollowEachOther p.end ps b

-- characters and pieces whose places don't fall, from a place on
abbrev pub SpotsFrom : Place → List TextSpot → Type 0
SpotsFrom p [] = Unit {0}
SpotsFrom p (s ∷ ss) = IsNoLater p s.place × SpotsFrom s.place ss

abbrev pub PlacesFrom : Place → List Place → Type 0
PlacesFrom p [] = Unit {0}
PlacesFrom p (q ∷ qs) = IsNoLater p q × PlacesFrom q qs
