-- The characters of a text: each byte with the spot where it stands, and lines joined (C90 5.1.1.2, phase 2).
use Rattle.std.specs.Prelude.{◌==◌, ℕ, zero, suc, ◌+◌, List, [], ◌∷◌, map, if◌then◌else◌, ◌&&◌}
use Rattle.dae_tree.specs.declared.pieces.TextSpot.{TextSpot}

-- a byte of the text, and where it stands
pub record Char : Type 0 where
  pub byte : ℕ
  pub spot : TextSpot

abbrev pub bytes_of : List Char → List ℕ
bytes_of = map (λ c. c.byte)

abbrev pub spots_of : List Char → List TextSpot
spots_of = map (λ c. c.spot)

-- a text begins at line 1, column 1
abbrev pub start_of : ℕ → TextSpot
start_of file = record { offset = 0; place = record { file = file; line = 1; col = 1 } }

-- the spot after a byte: a line feed ends its line
abbrev pub spot_after : ℕ → TextSpot → TextSpot
spot_after byte s =
    record {
      offset = s.offset + 1;
      place = (if byte == 10
          then record { file = s.place.file; line = s.place.line + 1; col = 1 }
          else record { file = s.place.file; line = s.place.line; col = s.place.col + 1 });
    }

-- each byte with its spot, where the first stands at s, and the spot behind the last
abbrev pub placed : TextSpot → List ℕ → List Char
placed s [] = []
placed s (b ∷ bs) = record { byte = b; spot = s } ∷ placed (spot_after b s) bs

abbrev pub spot_behind : TextSpot → List ℕ → TextSpot
spot_behind s [] = s
spot_behind s (b ∷ bs) = spot_behind (spot_after b s) bs

-- how many bytes a join takes at the front: a backslash with a line feed, or with a carriage return and a line feed
abbrev pub join_length : List ℕ → ℕ
join_length (a ∷ b ∷ c ∷ bs) =
    if (a == 92) && (b == 10) then 2 else (if (a == 92) && (b == 13) && (c == 10) then 3 else 0)
join_length (a ∷ b ∷ []) = if (a == 92) && (b == 10) then 2 else 0
join_length _ = 0

-- how many bytes of a join come now, where n bytes are left of one that began before
abbrev pub join_left : ℕ → List ℕ → ℕ
join_left zero bs = join_length bs
join_left (suc n) bs = suc n

-- The characters without the joins, where n bytes are left of one that began before. What follows a join keeps its
-- spot.
abbrev pub without_joins : ℕ → List Char → List Char
without_joins n [] = []
without_joins n (c ∷ cs) =
    elim (join_left n (c.byte ∷ bytes_of cs)) [ zero ↦ c ∷ without_joins 0 cs | suc m ↦ without_joins m cs ]

-- the characters of a text, lines joined
abbrev pub joined_lines : ℕ → List ℕ → List Char
joined_lines file text = without_joins 0 (placed (start_of file) text)
