-- The texts of several files, which are fetched in order. Each may have as many bytes as those before it left.
use Rattle.std.specs.Prelude.{◌≡◌, ◌⊎◌, ℕ, ◌-◌, ◌<◌, ◌≤◌, List, [], ◌∷◌, length, Option}
use Rattle.dae_cli_drive.specs.Lines.{read_line}
use Rattle.dae_cli_drive.specs.Puts.{Answer, told}
use Rattle.dae_cli_source_jobs.specs.Refusals.{too_long_line}
use Rattle.dae_cli_drive.specs.Shelves.{FailsToFetch, IsTold, ShelfSeen}

-- how many bytes the sources of a job may have
abbrev pub most_source : ℕ
most_source = 1048576

-- the texts of the files with these names, which together have at most so many bytes
abbrev pub AreFetched : (List ℕ → Option (List ℕ)) → (left : ℕ) → (names texts : List (List ℕ))
    → Type 0
AreFetched told left [] [] = Unit {0}
AreFetched told left [] (t ∷ ts) = ⊥
AreFetched told left (n ∷ ns) [] = ⊥
AreFetched told left (n ∷ ns) (t ∷ ts) =
    IsTold told n t × (length t ≤ left) × AreFetched told (left - length t) ns ts

-- the file isn't got, or it has more bytes than that
pub data IsNotFetched (s : ShelfSeen) (left : ℕ) (name : List ℕ) : Answer → Type 0 where
  not_got : FailsToFetch s name → IsNotFetched s left name (told 5 (read_line name))
  too_long : (text : List ℕ) → IsTold s.told name text → left < length text
      → IsNotFetched s left name (told 2 (too_long_line name))

-- one of the files isn't fetched, and those before it are
abbrev pub IsFirstNotFetched : ShelfSeen → (left : ℕ) → (names : List (List ℕ)) → Answer → Type 0
IsFirstNotFetched s left [] a = ⊥
IsFirstNotFetched s left (n ∷ ns) a =
    IsNotFetched s left n a
    ⊎ ((t : List ℕ) × IsTold s.told n t × (length t ≤ left)
    × IsFirstNotFetched s (left - length t) ns a)
