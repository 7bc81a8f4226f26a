-- What has been declared so far, as tables (C90 6.1.2). Rows stand in the order of the text; a row's number is its place.
use Rattle.std.specs.Prelude.{ℕ, zero, suc, List, [], ◌∷◌, ◌++◌, length, take, drop, Option, Some, None, Bool, false, is_some, nat_eq, if◌then◌else◌, find, reverse}
use Rattle.dae_base.specs.declared.Place.{Place}
use Rattle.dae_types_kinds.specs.declared.types.Shape.{Shape}
use Rattle.dae_types_kinds.specs.declared.types.Structure.{Structure}
use Rattle.dae_types_kinds.specs.declared.tables.Component.{Component}
use Rattle.dae_types_kinds.specs.declared.tables.Designation.{Designation}
use Rattle.dae_types_kinds.specs.declared.tables.Entity.{Entity}
use Rattle.dae_types_kinds.specs.declared.tables.Tag.{Tag}
use Rattle.dae_types_kinds.specs.declared.tables.Tagged.{Tagged}
use Rattle.dae_types_kinds.specs.declared.tables.StaticObject.{StaticObject}
use Rattle.dae_types_kinds.specs.declared.tables.Local.{Local}
use Rattle.dae_types_kinds.specs.declared.tables.Routine.{Routine}
use Rattle.dae_types_kinds.specs.declared.tables.Storage.{Storage}
use Rattle.dae_types_kinds.specs.declared.tables.EntityUse.{EntityUse}
use Rattle.dae_types_kinds.specs.declared.tables.Innermost.{Innermost}

-- Types, structures and their members; names and tags in scope, and where the innermost scope starts; the file's objects
-- and functions; the parameters and locals of the function at hand, and where each is kept, as far as that is settled; uses
-- of the file's objects and functions; the bytes of its literals; and the number of the name main, where a name is main. What
-- the latest scope that ended declared is kept, since the parameters of a definition come back in its body.
pub record Tables : Type 0 where
  pub shapes : List Shape
  pub structures : List Structure
  pub components : List Component
  pub names : List Designation
  pub tags : List Tag
  pub innermost : Innermost
  pub kept_names : List Designation
  pub kept_tags : List Tag
  pub objects : List StaticObject
  pub routines : List Routine
  pub locals : List Local
  pub storages : List Storage
  pub uses : List EntityUse
  pub literals : List (List ℕ)
  pub main : Option ℕ

-- ---- tables that grow

abbrev pub with_shape : Shape → Tables → Tables
with_shape x s = record s { shapes = s.shapes ++ (x ∷ []) }

abbrev pub with_structure : Structure → Tables → Tables
with_structure x s = record s { structures = s.structures ++ (x ∷ []) }

abbrev pub with_component : Component → Tables → Tables
with_component x s = record s { components = s.components ++ (x ∷ []) }

abbrev pub with_name : ℕ → Entity → Tables → Tables
with_name name e s = record s { names = s.names ++ (record { name = name; entity = e } ∷ []) }

abbrev pub with_tag : ℕ → Tagged → Tables → Tables
with_tag name t s = record s { tags = s.tags ++ (record { name = name; tagged = t } ∷ []) }

abbrev pub with_local : Local → Tables → Tables
with_local x s = record s { locals = s.locals ++ (x ∷ []) }

abbrev pub with_use : Entity → Place → Tables → Tables
with_use e p s = record s { uses = s.uses ++ (record { entity = e; place = p } ∷ []) }

abbrev pub with_uses : List EntityUse → Tables → Tables
with_uses xs s = record s { uses = xs }

abbrev pub with_object : StaticObject → Tables → Tables
with_object x s = record s { objects = s.objects ++ (x ∷ []) }

abbrev pub with_routine : Routine → Tables → Tables
with_routine x s = record s { routines = s.routines ++ (x ∷ []) }

abbrev pub with_locals : List Local → Tables → Tables
with_locals xs s = record s { locals = xs }

abbrev pub with_storages : List Storage → Tables → Tables
with_storages xs s = record s { storages = xs }

-- a row is written anew
abbrev pub written_at : {X : Type 0} → ℕ → X → List X → List X
written_at n x [] = []
written_at zero x (y ∷ ys) = x ∷ ys
written_at (suc n) x (y ∷ ys) = y ∷ written_at n x ys

abbrev pub set_structure : ℕ → Structure → Tables → Tables
set_structure n x s = record s { structures = written_at n x s.structures }

abbrev pub set_local : ℕ → Local → Tables → Tables
set_local n x s = record s { locals = written_at n x s.locals }

abbrev pub set_object : ℕ → StaticObject → Tables → Tables
set_object n x s = record s { objects = written_at n x s.objects }

abbrev pub set_routine : ℕ → Routine → Tables → Tables
set_routine n x s = record s { routines = written_at n x s.routines }

-- ---- scopes (C90 6.1.2.1 and 6.1.2.3)

abbrev pub is_named : ℕ → Designation → Bool
is_named name b = nat_eq b.name name

abbrev pub is_tagged : ℕ → Tag → Bool
is_tagged name b = nat_eq b.name name

abbrev pub entity_of : Option Designation → Option Entity
entity_of None = None
entity_of (Some b) = Some b.entity

abbrev pub tagged_of : Option Tag → Option Tagged
tagged_of None = None
tagged_of (Some b) = Some b.tagged

-- the latest declaration of a name, and of a tag
unfoldable pub found_name : Tables → ℕ → Option Entity
found_name s name = entity_of (find (is_named name) (reverse s.names))

unfoldable pub found_tag : Tables → ℕ → Option Tagged
found_tag s name = tagged_of (find (is_tagged name) (reverse s.tags))

-- the declaration in the innermost scope
unfoldable pub own_entity : Tables → ℕ → Option Entity
own_entity s name = entity_of (find (is_named name) (drop s.innermost.names s.names))

abbrev pub own_name : Tables → ℕ → Bool
own_name s name = is_some (own_entity s name)

unfoldable pub own_tag : Tables → ℕ → Option Tagged
own_tag s name = tagged_of (find (is_tagged name) (drop s.innermost.tags s.tags))

-- the member of this name in a structure
abbrev pub is_component : ℕ → ℕ → Component → Bool
is_component structure name f = if nat_eq f.name name then nat_eq f.structure structure else false

unfoldable pub found_component : Tables → ℕ → ℕ → Option Component
found_component s structure name = find (is_component structure name) s.components

-- a scope begins; it ends, and the one round it goes on
abbrev pub opened : Tables → Tables
opened s = record s { innermost = record { names = length s.names; tags = length s.tags } }

abbrev pub closed : Innermost → Tables → Tables
closed outer s =
    record s {
      names = take s.innermost.names s.names;
      tags = take s.innermost.tags s.tags;
      innermost = outer;
      kept_names = drop s.innermost.names s.names;
      kept_tags = drop s.innermost.tags s.tags;
    }

-- a scope begins with what the latest one that ended declared
abbrev pub reopened : Tables → Tables
reopened s = record s { innermost = record { names = length s.names; tags = length s.tags }; names = s.names ++ s.kept_names; tags = s.tags ++ s.kept_tags }
