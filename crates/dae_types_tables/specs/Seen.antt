-- A checker's vectors in memory, seen as the tables of what is declared, and what functions leave in them.
use Rattle.std.specs.Prelude.{ℕ, List, [], Option, Some, None, Result, Ok, length}
use Rattle.dae_types_kinds.specs.declared.rules.CheckError.{CheckError}
use Rattle.dae_types_kinds.specs.declared.tables.Innermost.{Innermost}
use Rattle.dae_types_kinds.specs.declared.tables.StaticObject.{StaticObject}
use Rattle.dae_types_kinds.specs.declared.tables.Routine.{Routine}
use Rattle.dae_types_kinds.specs.declared.types.Structure.{Structure}
use Rattle.dae_types_kinds.specs.Tables.{Tables, with_structure, with_object, with_routine, reopened}
use Rattle.dae_types_kinds.specs.Types.{first_shapes}
use Rattle.dae_types_rules.specs.Plan.{CheckPlan, Gives, check_of}
use Rattle.dae_types_tables.specs.declared.checker.Checker.{Checker}

abbrev pub tables : Checker → Tables
tables c =
    record {
      shapes = c.shapes.items;
      structures = c.structures.items;
      components = c.components.items;
      names = c.names;
      tags = c.tags.items;
      innermost = c.innermost;
      kept_names = c.kept_names.items;
      kept_tags = c.kept_tags.items;
      objects = c.objects.items;
      routines = c.routines.items;
      locals = c.locals.items;
      storages = c.storages.items;
      uses = c.uses.items;
      literals = c.literals;
      main = c.main;
    }

-- nothing is declared, and the basic types are there
abbrev pub bare : List (List ℕ) → Option ℕ → Tables
bare literals main =
    record {
      shapes = first_shapes;
      structures = [];
      components = [];
      names = [];
      tags = [];
      innermost = record { names = 0; tags = 0 };
      kept_names = [];
      kept_tags = [];
      objects = [];
      routines = [];
      locals = [];
      storages = [];
      uses = [];
      literals = literals;
      main = main;
    }

-- the bytes of a literal, where it is there
abbrev pub literal_or_none : Option (List ℕ) → List ℕ
literal_or_none None = []
literal_or_none (Some bytes) = bytes

-- ---- what is added, with its number; and a scope that goes on, with where the one round it starts

abbrev pub numbered_structure : Structure → Tables → Tables × ℕ
numbered_structure x s = (with_structure x s, length s.structures)

abbrev pub numbered_object : StaticObject → Tables → Tables × ℕ
numbered_object x s = (with_object x s, length s.objects)

abbrev pub numbered_routine : Routine → Tables → Tables × ℕ
numbered_routine x s = (with_routine x s, length s.routines)

abbrev pub continued : Tables → Tables × Innermost
continued s = (reopened s, s.innermost)

-- ---- what a function leaves, and gives with it, unless memory ran out

abbrev pub Leaves : {X : Type 0} → Checker → Result X CheckError → Tables → Type 0
Leaves c r t = Gives (λ x. tables c) r (Ok t)

abbrev pub LeavesAnd : {X : Type 0} → Checker → Result X CheckError → Tables × X → Type 0
LeavesAnd c r y = Gives (λ x. (tables c, x)) r (Ok y)

-- a function does what this plan says, stopping at the first broken rule
abbrev pub Follows : {X : Type 0} → Checker → Result X CheckError → CheckPlan X → Checker → Type 0
Follows new r m old = Gives (λ x. (tables new, x)) r (check_of m (tables old))

-- the same, where what it gives is seen by a view
abbrev pub FollowsBy : {X Y : Type 0} → (X → Y) → Checker → Result X CheckError → CheckPlan Y → Checker → Type 0
FollowsBy view new r m old = Gives (λ x. (tables new, view x)) r (check_of m (tables old))
