-- The names of the files of a job.
use Rattle.std.specs.Prelude.{ℕ, ◌≤◌, Bool, false, not, ◌&&◌, nat_le, nat_eq, IsTrue, List, [], ◌∷◌, length}
use Rattle.std.specs.List.{list_all}

abbrev pub begins_with_dash : List ℕ → Bool
begins_with_dash [] = false
begins_with_dash (b ∷ bs) = nat_eq b 45

-- 1 to 4,096 bytes, and no dash at the front
abbrev pub is_file_name : List ℕ → Bool
is_file_name name = not (begins_with_dash name) && (nat_le 1 (length name) && nat_le (length name) 4096)

abbrev pub IsFileName : List ℕ → Type 0
IsFileName name = IsTrue (is_file_name name)

-- 1 to 1,024 names of files
pub record AreFiles (files : List (List ℕ)) : Type 0 where
  pub some : 1 ≤ length files
  pub few : length files ≤ 1024
  pub named : IsTrue (list_all is_file_name files)
