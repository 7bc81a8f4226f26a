-- What the latest scope that ended declared, in memory and put into tables; and what is left of tables at the end of a file.
use Rattle.std.specs.Prelude.{◌≡◌, List}
use Rattle.dae_types_kinds.specs.declared.tables.Designation.{Designation}
use Rattle.dae_types_kinds.specs.declared.tables.Tag.{Tag}
use Rattle.dae_types_kinds.specs.Tables.{Tables}
use Rattle.dae_types_tables.specs.declared.kept.FileTables.{FileTables}
use Rattle.dae_types_tables.specs.declared.kept.Kept.{Kept}

abbrev pub view_kept : Kept → List Designation × List Tag
view_kept k = (k.names.items, k.tags.items)

-- the names and tags that the latest scope that ended declared
abbrev pub kept_scope : Tables → List Designation × List Tag
kept_scope s = (s.kept_names, s.kept_tags)

abbrev pub with_kept : List Designation → List Tag → Tables → Tables
with_kept names tags s = record s { kept_names = names; kept_tags = tags }

pub record Remains (f : FileTables) (s : Tables) : Type 0 where
  pub shapes : f.shapes.items ≡ s.shapes
  pub structures : f.structures.items ≡ s.structures
  pub components : f.components.items ≡ s.components
  pub objects : f.objects.items ≡ s.objects
  pub routines : f.routines.items ≡ s.routines
  pub uses : f.uses.items ≡ s.uses
  pub literals : f.literals ≡ s.literals
