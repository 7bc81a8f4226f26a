-- The same type in two files (C90 6.1.2.6): structures are the same by their tags and their members, and behind a pointer by
-- their tags alone.
use Rattle.std.specs.Prelude.{ℕ, zero, suc, Bool, true, false, ◌&&◌, ◌||◌, List, [], ◌∷◌, length, Option, Some, None, is_some, slice_get}
use Rattle.std.specs.Str.{bytes_eq}
use Rattle.dae_types_kinds.specs.declared.types.Shape.{Shape}
use Rattle.dae_types_kinds.specs.declared.types.Shape.TheVariants as shape
use Rattle.dae_types_kinds.specs.declared.types.Structure.{Structure}
use Rattle.dae_types_kinds.specs.declared.tables.Component.{Component}
use Rattle.dae_types_kinds.specs.Types.{shape_of, layout_of, counts_agree}
use Rattle.dae_types_typed.specs.declared.files.FileParts.{FileParts}
use Rattle.dae_types_typed.specs.Sound.{tables_of, bytes_of, members_of}

abbrev pub tag_by : List (List ℕ) → Option ℕ → Option (List ℕ)
tag_by names None = None
tag_by names (Some n) = Some (bytes_of names n)

abbrev pub tag_of : FileParts → Option Structure → Option (List ℕ)
tag_of f None = None
tag_of f (Some s) = tag_by f.names s.tag

abbrev pub same_tag : Option (List ℕ) → Option (List ℕ) → Bool
same_tag None None = true
same_tag (Some x) (Some y) = bytes_eq x y
same_tag _ _ = false

-- members agree in order, by name and by type
abbrev pub same_members : (ℕ → ℕ → Bool) → FileParts → FileParts → List Component → List Component → Bool
same_members same f g [] [] = true
same_members same f g (c ∷ cs) (d ∷ ds) =
    bytes_eq (bytes_of f.names c.name) (bytes_of g.names d.name) && (same c.type_id d.type_id && same_members same f g cs ds)
same_members same f g _ _ = false

-- both are complete
abbrev pub same_bodies : (ℕ → ℕ → Bool) → FileParts → FileParts → (m n : ℕ) → Bool
same_bodies same f g m n =
    (is_some (layout_of (tables_of f) m) && is_some (layout_of (tables_of g) n))
    && same_members same f g (members_of (tables_of f) m) (members_of (tables_of g) n)

abbrev pub same_structure : (ℕ → ℕ → Bool) → FileParts → FileParts → (behind : Bool) → (m n : ℕ) → Bool
same_structure same f g behind m n =
    same_tag (tag_of f (slice_get f.structures m)) (tag_of g (slice_get g.structures n)) && (behind || same_bodies same f g m n)

abbrev pub same_plain : Shape → Shape → Bool
same_plain shape.Void shape.Void = true
same_plain shape.Char shape.Char = true
same_plain shape.SignedChar shape.SignedChar = true
same_plain shape.UnsignedChar shape.UnsignedChar = true
same_plain shape.Short shape.Short = true
same_plain shape.UnsignedShort shape.UnsignedShort = true
same_plain shape.Int shape.Int = true
same_plain shape.Unsigned shape.Unsigned = true
same_plain shape.NoParameters shape.NoParameters = true
same_plain _ _ = false

abbrev pub shape_across : (Bool → ℕ → ℕ → Bool) → FileParts → FileParts → (behind : Bool) → Shape → Shape → Bool
shape_across same f g behind (shape.Pointer m) (shape.Pointer n) = same true m n
shape_across same f g behind (shape.Array m c) (shape.Array n d) = counts_agree c d && same behind m n
shape_across same f g behind (shape.Struct m) (shape.Struct n) = same_structure (same false) f g behind m n
shape_across same f g behind (shape.Function r ps) (shape.Function t qs) = same behind r t && same behind ps qs
shape_across same f g behind (shape.Parameter ps m) (shape.Parameter qs n) = same behind ps qs && same behind m n
shape_across same f g behind x y = same_plain x y

-- the counter begins at the number of the first file's shapes, since no type holds itself
abbrev pub same_within_files : ℕ → FileParts → FileParts → (behind : Bool) → ℕ → ℕ → Bool
same_within_files zero f g behind m n = false
same_within_files (suc k) f g behind m n =
    shape_across (same_within_files k f g) f g behind (shape_of (tables_of f) m) (shape_of (tables_of g) n)

-- the members of two structures, two structures, and two shapes are the same, as far as so many levels of what they are
-- made of tell
abbrev pub members_within : ℕ → FileParts → FileParts → (m n : ℕ) → Bool
members_within k f g m n = same_members (same_within_files k f g false) f g (members_of (tables_of f) m) (members_of (tables_of g) n)

abbrev pub structures_within : ℕ → FileParts → FileParts → (behind : Bool) → (m n : ℕ) → Bool
structures_within k f g behind m n = same_structure (same_within_files k f g false) f g behind m n

abbrev pub shapes_within : ℕ → FileParts → FileParts → (behind : Bool) → (x y : Shape) → Bool
shapes_within k f g behind x y = shape_across (same_within_files k f g) f g behind x y

unfoldable pub same_across : FileParts → FileParts → ℕ → ℕ → Bool
same_across f g m n = same_within_files (length f.shapes) f g false m n
