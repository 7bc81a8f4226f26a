-- What is declared before the first token of a file changes no literal.
use Rattle.std.proofs.Common.{◌≡◌, ℕ, Bool, true, false, List, Option, Some, None, refl, ◌∙◌}
use Rattle.dae_types_kinds.specs.declared.tables.LibraryFunction.{LibraryFunction}
use Rattle.dae_types_kinds.specs.declared.tables.LibraryFunction.TheVariants as library
use Rattle.dae_types_kinds.specs.Tables.{Tables}
use Rattle.dae_types_file_plans.specs.Files.{LibraryNames, start_of, with_library, with_stdio, with_stdlib, empty_tables, printf_type, putchar_type, exit_type, abort_type}

library_keeps : (f : LibraryFunction) (t : ℕ) (name : Option ℕ) (s : Tables) → (let u = with_library f t name s in u.literals) ≡ s.literals
library_keeps f t None s = refl
library_keeps f t (Some name) s = refl

stdio_keeps : (b : Bool) (n : LibraryNames) (s : Tables) → (let u = with_stdio b n s in u.literals) ≡ s.literals
stdio_keeps false n s = refl
stdio_keeps true n s =
    library_keeps library.Putchar putchar_type n.putchar (with_library library.Printf printf_type n.printf s) ∙ library_keeps library.Printf printf_type n.printf s

stdlib_keeps : (b : Bool) (n : LibraryNames) (s : Tables) → (let u = with_stdlib b n s in u.literals) ≡ s.literals
stdlib_keeps false n s = refl
stdlib_keeps true n s =
    library_keeps library.Abort abort_type n.abort (with_library library.Exit exit_type n.exit s) ∙ library_keeps library.Exit exit_type n.exit s

pub starts_keep_literals : (stdio stdlib : Bool) (n : LibraryNames) (literals : List (List ℕ)) → (let s = start_of stdio stdlib n literals in s.literals) ≡ literals
starts_keep_literals stdio stdlib n ls = stdlib_keeps stdlib n (with_stdio stdio n (empty_tables ls n.main)) ∙ stdio_keeps stdio n (empty_tables ls n.main)
