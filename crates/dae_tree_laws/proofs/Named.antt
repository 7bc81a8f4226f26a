-- A declarator that must have a name has one.
use Rattle.std.proofs.Common.{Bool, List, [], ◌∷◌, refl}
use Rattle.std.specs.List.{AllByRecursion}
use Rattle.dae_tree.specs.FileViews.{view_externals}
use Rattle.dae_tree.specs.Grammar.{by_name, IsDeclarator}
use Rattle.dae_tree.specs.Names.{Names, after_specifiers, has_typedef, after_item, after_external}
use Rattle.dae_tree.specs.Statements.{AreItems, AreExternals}
use Rattle.dae_tree.specs.Trees as tree
use Rattle.dae_tree.specs.Trees.{Declarator, InitDeclarator, External}
use Rattle.dae_tree_laws.specs.Named.{IsNamed, IsNamedItem, HasNames, FilesHaveNames}

named : (names : Names) (d : Declarator) → IsDeclarator by_name names d → IsNamed d
named names tree.Absent h = absurd h
named names (tree.Named n) h = (n, refl)
named names (tree.Pointer p qs d) h = named names d h
named names (tree.Grouped p d) h = named names d h.2
named names (tree.Unsized d p) h = named names d h.1
named names (tree.Sized d p e) h = named names d h.1
named names (tree.Empty d p) h = named names d h.1
named names (tree.Void d p q) h = named names d h.1
named names (tree.Function d p ps) h = named names d h.1

named_items : (is : Bool) (names : Names) (items : List InitDeclarator) → AreItems is names items → AllByRecursion IsNamedItem items
named_items is names [] h = tt
named_items is names (i ∷ items) h = (named names i.declarator h.0.0, named_items is (after_item is i names) items h.1)

named_external : (names : Names) (x : External) → AreExternals names (x ∷ []) → HasNames x
named_external names (tree.Declared d) h = named_items (has_typedef d.specifiers) (after_specifiers d.specifiers names) d.items h.0.1
named_external names (tree.Defined ws d p ds ss) h = named (after_specifiers ws names) d h.0.1

named_externals : (names : Names) (xs : List External) → AreExternals names xs → AllByRecursion HasNames xs
named_externals names [] h = tt
named_externals names (x ∷ xs) h = (named_external names x (h.0, tt), named_externals (after_external x names) xs h.1)

pub files_have_names : FilesHaveNames
files_have_names c is = named_externals [] (view_externals c.externals) is.grammar
