-- What the bodies of a file may name, by its uses.
use Rattle.std.specs.Prelude.{ℕ, suc, List, [], ◌∷◌, ◌++◌, length, Option, Some, None, if◌then◌else◌, slice_get}
use Rattle.dae_types_kinds.specs.declared.tables.Entity.TheVariants as entity
use Rattle.dae_types_kinds.specs.declared.tables.StaticObject.{StaticObject}
use Rattle.dae_types_kinds.specs.declared.tables.Routine.{Routine}
use Rattle.dae_types_kinds.specs.declared.types.Layout.{Layout}
use Rattle.dae_types_kinds.specs.declared.types.Shape.{Shape}
use Rattle.dae_types_kinds.specs.declared.types.Shape.TheVariants as shape
use Rattle.dae_types_kinds.specs.Tables.{Tables}
use Rattle.dae_types_kinds.specs.Types.{layout_at, shape_of}
use Rattle.dae_types_kinds.specs.Values.{parameters_of, routine_type}
use Rattle.dae_types_plans.specs.Steps.{parameter_types}
use Rattle.dae_types_typed.specs.declared.files.FileParts.{FileParts}
use Rattle.dae_types_typed.specs.Sound.{tables_of, is_used}
use Rattle.dae_types_sound.specs.declared.extents.FileNames.{FileNames}

-- the layout of an object that is used
abbrev pub used_layout : FileParts → ℕ → StaticObject → Option Layout
used_layout f o x = if is_used f.uses (entity.Object o) then Some (layout_at (tables_of f) x.type_id) else None

-- of the objects from number o on
abbrev pub used_layouts : FileParts → List (Option Layout) → (o : ℕ) → List StaticObject → List (Option Layout)
used_layouts f done o [] = done
used_layouts f done o (x ∷ xs) = used_layouts f (done ++ used_layout f o x ∷ []) (suc o) xs

-- the number of parameters of a function that is used
abbrev pub used_count : FileParts → ℕ → Option ℕ
used_count f r = if is_used f.uses (entity.Function r) then Some (length (parameter_types (tables_of f) r)) else None

abbrev pub used_counts : FileParts → List (Option ℕ) → (r : ℕ) → List Routine → List (Option ℕ)
used_counts f done r [] = done
used_counts f done r (x ∷ xs) = used_counts f (done ++ used_count f r ∷ []) (suc r) xs

abbrev pub names_in : FileParts → FileNames
names_in f =
    record {
      literals = length f.literals;
      objects = used_layouts f [] 0 f.objects;
      functions = used_counts f [] 0 f.routines;
    }

-- the list of the types of a function's parameters
abbrev pub parameter_list : Tables → ℕ → Shape
parameter_list s r = shape_of s (parameters_of (shape_of s (routine_type (slice_get s.routines r))))

-- the list before its last type
abbrev pub shorter : Tables → Shape → Option Shape
shorter s (shape.Parameter before t) = Some (shape_of s before)
shorter s _ = None
