-- What the tokens of a text are parsed into, or why they are not.
use Rattle.std.specs.Prelude.{◌≡◌, ℕ, suc, ◌+◌, List, ◌++◌, length, take, slice_get, Some, None, Result, Ok, Err}
use Rattle.dae_base.specs.declared.Place.{Place}
use Rattle.dae_tree.specs.declared.tokens.Token.{Token}
use Rattle.dae_tree.specs.Reading.{Reading}
use Rattle.dae_tree.specs.Files.{FileContents}
use Rattle.dae_tree.specs.Marks.{TokenMark, marks}
use Rattle.dae_tree.specs.Trees.{External}
use Rattle.dae_tree.specs.Statements.{IsTreeOf}
use Rattle.dae_tree.specs.Depth.{nodes_file, first_deeper, greatest_depth, first_too_long}
use Rattle.dae_tree.specs.FileViews.{view_externals}
use Rattle.dae_parse_grammar.specs.Machine.{step, begun}
use Rattle.dae_parse_grammar.specs.Runs.{run}
use Rattle.dae_parse_grammar.specs.Stuck.{stuck}
use Rattle.dae_parse.specs.declared.error.ParseError.{ParseError}
use Rattle.dae_parse.specs.declared.error.ParseError.TheVariants as errors

-- the grammar's tree of the tokens, with no node too deep and no definition too long
pub record IsWithinLimits (tokens : List Token) (file : List External) : Type 0 where
  pub tree : IsTreeOf (marks tokens) file
  pub shallow : first_deeper greatest_depth (nodes_file file) ≡ None
  pub short : first_too_long file ≡ None

-- a file: that tree, with the names, literals and headers that were read
pub record IsFileOf (r : Reading) (f : FileContents) : Type 0 where
  pub tree : IsWithinLimits r.tokens (view_externals f.externals)
  pub names : f.names ≡ r.names
  pub literals : f.literals ≡ r.literals
  pub stdio : f.stdio ≡ r.stdio
  pub stdlib : f.stdlib ≡ r.stdlib

-- no file begins with the first so many tokens
abbrev pub NothingBegins : List Token → ℕ → Type 0
NothingBegins tokens n = (more : List TokenMark) (file : List External) → ¬ IsTreeOf (marks (take n tokens) ++ more) file

-- The grammar's machine stops where so many tokens stand before the one at which it is stuck. No file begins with the tokens up
-- to that one, or all are taken.
pub record IsStuckAt (tokens : List Token) (i : ℕ) : Type 0 where
  pub turns : ℕ
  pub stops : step (run turns (begun (marks tokens))) ≡ None
  pub left : i + length (stuck (run turns (begun (marks tokens)))) ≡ length tokens
  pub nothing : (t : Token) → slice_get tokens i ≡ Some t → NothingBegins tokens (suc i)

-- the place of the token with this number, or the end
abbrev pub place_from : Reading → ℕ → Place
place_from r i = elim (slice_get r.tokens i) [ None ↦ r.end | Some t ↦ t.place ]

-- the place of the token at which the grammar's machine is stuck, or the end
abbrev pub IsPlaceOfSyntax : Reading → Place → Type 0
IsPlaceOfSyntax r p = (i : ℕ) × IsStuckAt r.tokens i × (p ≡ place_from r i)

-- The tokens have no tree, or one with a node too deep, the first of which stands there, or else one with a definition too
-- long, the first of which stands there. Nothing is said of want of memory.
abbrev pub IsRefused : Reading → ParseError → Type 0
IsRefused r (errors.Syntax p) = ((file : List External) → ¬ IsTreeOf (marks r.tokens) file) × IsPlaceOfSyntax r p
IsRefused r (errors.TooDeep p) = (file : List External) × IsTreeOf (marks r.tokens) file × (first_deeper greatest_depth (nodes_file file) ≡ Some p)
IsRefused r (errors.FunctionTooLong p) =
    (file : List External) × IsTreeOf (marks r.tokens) file × (first_deeper greatest_depth (nodes_file file) ≡ None) × (first_too_long file ≡ Some p)
IsRefused r errors.Memory = Unit {0}

abbrev pub Answers : Reading → Result FileContents ParseError → Type 0
Answers r (Ok f) = IsFileOf r f
Answers r (Err e) = IsRefused r e

-- ---- refusals beside one another

-- a refusal that has a cause in the text
abbrev pub IsCause : ParseError → Type 0
IsCause errors.Memory = ⊥
IsCause _ = Unit {0}

-- two refusals of one text, where neither is want of memory: of one kind and one place
abbrev pub AreAlike : ParseError → ParseError → Type 0
AreAlike errors.Memory e = Unit {0}
AreAlike d errors.Memory = Unit {0}
AreAlike (errors.Syntax p) (errors.Syntax q) = p ≡ q
AreAlike (errors.TooDeep p) (errors.TooDeep q) = p ≡ q
AreAlike (errors.FunctionTooLong p) (errors.FunctionTooLong q) = p ≡ q
AreAlike _ _ = ⊥
