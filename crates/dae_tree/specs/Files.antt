-- What a file promises: its tree is one of the grammar within the limits, and its names and literals are numbered.
use Rattle.std.specs.Prelude.{◌≡◌, ℕ, ◌<◌, Bool, List, [], None, length, All}
use Rattle.std.specs.List.{IsDistinct, range_with_len}
use Rattle.std.specs.Str.{bytes_eq}
use Rattle.dae_tree.specs.declared.headers.Header.{Header}
use Rattle.dae_tree.specs.declared.headers.Header.TheVariants.{Stdio, Stdlib}
use Rattle.dae_tree.specs.Marks.{TokenMark, name, literal, literal_numbers}
use Rattle.dae_tree.specs.declared.statements.External.{External}
use Rattle.dae_tree.specs.FileViews.{view_externals}
use Rattle.dae_tree.specs.Statements.{AreExternals, spell_file}
use Rattle.dae_tree.specs.Depth.{nodes_file, first_deeper, greatest_depth, first_too_long}

-- a file: what it declares and defines, the bytes of its names and literals, the headers that it includes
pub record FileContents : Type 0 where
  pub externals : List External
  pub names : List (List ℕ)
  pub literals : List (List ℕ)
  pub stdio : Bool
  pub stdlib : Bool

abbrev pub contents_include : Header → FileContents → Bool
contents_include Stdio c = c.stdio
contents_include Stdlib c = c.stdlib

-- a token's name or literal is one of those that there are
abbrev pub IsNumberedMark : ℕ → ℕ → TokenMark → Type 0
IsNumberedMark names literals (name n) = n.number < names
IsNumberedMark names literals (literal p n) = n < literals
IsNumberedMark names literals _ = Unit {0}

-- The tree is of the grammar for the tokens that it spells, each part with the names that are in scope where it stands: so
-- specifiers have a type, and a name of a type is one that a typedef declared. No node is too deep, and no definition too
-- long. No name stands twice, the numbers in the tree lie within the lists, and the literals have the numbers from 0 on.
pub record IsFile (c : FileContents) : Type 0 where
  pub grammar : AreExternals [] (view_externals c.externals)
  pub shallow : first_deeper greatest_depth (nodes_file (view_externals c.externals)) ≡ None
  pub short : first_too_long (view_externals c.externals) ≡ None
  pub distinct : IsDistinct bytes_eq c.names
  pub numbers : All (IsNumberedMark (length c.names) (length c.literals)) (spell_file (view_externals c.externals) [])
  pub counted : literal_numbers (spell_file (view_externals c.externals) []) ≡ range_with_len 0 (length c.literals)
