-- The numbers of the names of main and of the library's functions in a file (C90 7.9.6.3, 7.9.7.9, 7.10.4.1, 7.10.4.3 and
-- 5.1.2.2.1). A name's number is its place among the file's names, none of which stands twice.
use Rattle.std.specs.Prelude.{ℕ, suc, List, [], ◌∷◌, Option, Some, None, if◌then◌else◌, codes}
use Rattle.std.specs.Str.{bytes_eq}
use Rattle.dae_types_kinds.specs.Types.{word_for}
use Rattle.dae_types_file_plans.specs.Files.{LibraryNames}

abbrev pub number_behind : ℕ → List (List ℕ) → List ℕ → Option ℕ
number_behind n [] name = None
number_behind n (x ∷ xs) name = if bytes_eq x name then Some n else number_behind (word_for (suc n)) xs name

abbrev pub number_among : List (List ℕ) → List ℕ → Option ℕ
number_among names name = number_behind 0 names name

abbrev pub numbers_in : List (List ℕ) → LibraryNames
numbers_in names =
    record {
      printf = number_among names (codes "printf");
      putchar = number_among names (codes "putchar");
      exit = number_among names (codes "exit");
      abort = number_among names (codes "abort");
      main = number_among names (codes "main");
    }
