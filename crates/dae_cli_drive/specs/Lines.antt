-- The lines of a job that ends before a program is known.
use Rattle.std.specs.Prelude.{ℕ, List, ◌++◌, codes}

abbrev pub words_line : List ℕ
words_line = codes "words\n"

abbrev pub memory_line : List ℕ
memory_line = codes "memory\n"

abbrev pub read_line : List ℕ → List ℕ
read_line name = codes "read " ++ (name ++ codes "\n")
