-- Files that are alike: equal, as far as the types of a file depend on it.
use Rattle.std.specs.Prelude.{◌≡◌, List, [], ◌∷◌}
use Rattle.dae_tree.specs.Files.{FileContents}
use Rattle.dae_tree.specs.FileViews.{view_externals}

-- two files with one tree, and the same names, literals and headers
pub record IsLike (f g : FileContents) : Type 0 where
  pub tree : view_externals f.externals ≡ view_externals g.externals
  pub names : f.names ≡ g.names
  pub literals : f.literals ≡ g.literals
  pub stdio : f.stdio ≡ g.stdio
  pub stdlib : f.stdlib ≡ g.stdlib

-- file by file
abbrev pub AreLike : List FileContents → List FileContents → Type 0
AreLike [] [] = Unit {0}
AreLike [] (g ∷ gs) = ⊥
AreLike (f ∷ fs) [] = ⊥
AreLike (f ∷ fs) (g ∷ gs) = IsLike f g × AreLike fs gs
