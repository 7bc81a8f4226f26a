-- What is declared and defined at file scope has names (C90 6.5.4, 6.7.1): a definition of what a declaration there declares needs
-- no case for a declarator without a name.
use Rattle.std.specs.Prelude.{◌≡◌, Some}
use Rattle.std.specs.List.{AllByRecursion}
use Rattle.dae_tree.specs.declared.expressions.Name.{Name}
use Rattle.dae_tree.specs.Files.{FileContents, IsFile}
use Rattle.dae_tree.specs.FileViews.{view_externals}
use Rattle.dae_tree.specs.Names.{declared_name}
use Rattle.dae_tree.specs.Trees.{Declarator, InitDeclarator, External, Declared, Defined}

abbrev pub IsNamed : Declarator → Type 0
IsNamed d = (n : Name) × (declared_name d ≡ Some n)

abbrev pub IsNamedItem : InitDeclarator → Type 0
IsNamedItem i = IsNamed i.declarator

abbrev pub HasNames : External → Type 0
HasNames (Declared d) = AllByRecursion IsNamedItem d.items
HasNames (Defined ws d p ds ss) = IsNamed d

abbrev pub FilesHaveNames : Type 0
FilesHaveNames = (c : FileContents) → IsFile c → AllByRecursion HasNames (view_externals c.externals)
