-- Sizes, alignments and offsets of C90's types: of `struct s { char c; int n; short h; };`, of arrays of it, of a structure that
-- isn't complete, and of what is no object type.
use Rattle.std.proofs.Common.{◌≡◌, ℕ, [], ◌∷◌, ◌++◌, Some, None, true, false, refl}
use Rattle.dae_types_kinds.specs.declared.types.Shape.TheVariants as shape
use Rattle.dae_types_kinds.specs.declared.tables.Component.{Component}
use Rattle.dae_types_kinds.specs.Tables.{Tables}
use Rattle.dae_types_kinds.specs.Types.{char_id, int_id, layout, layout_at, layout_of, no_parameters_id, shape_of, short_id, void_id}
use Rattle.dae_types_file_plans.specs.Files.{empty_tables}
use Rattle.dae_types_typed.specs.Sound.{laid_out, members_of}
use Rattle.dae_types.specs.Layouts.{align_of_type, member_of_type, size_of_type}

-- a member of the first structure
abbrev member : (name offset type : ℕ) → Component
member n k t = record { structure = 0; name = n; offset = k; type_id = t }

-- The names are c = 0, n = 1 and h = 2. Behind the types that are there from the start, type 16 is s, type 17 an array of 3 of
-- it, type 18 an array of it without a size, and type 19 a structure without members.
abbrev file : Tables
file =
    record (empty_tables [] None) {
      shapes = (empty_tables [] None).shapes ++ shape.Struct 0 ∷ shape.Array 16 (Some 3) ∷ shape.Array 16 None ∷ shape.Struct 1 ∷ [];
      structures = record { tag = None; begun = true; layout = Some (layout 12 4) } ∷ record { tag = None; begun = false; layout = None } ∷ [];
      components = member 0 0 char_id ∷ member 1 4 int_id ∷ member 2 8 short_id ∷ [];
    }

laid_out_by_members : laid_out file (layout 0 1) (members_of file 0) ≡ layout 12 4
unfolding shape_of layout_of layout_at
laid_out_by_members = refl

structure_size : size_of_type file 16 ≡ Some 12
unfolding shape_of layout_of layout_at
structure_size = refl

structure_align : align_of_type file 16 ≡ Some 4
unfolding shape_of layout_of layout_at
structure_align = refl

member_c : member_of_type file 16 0 ≡ Some (0, char_id)
unfolding shape_of layout_of layout_at
member_c = refl

member_n : member_of_type file 16 1 ≡ Some (4, int_id)
unfolding shape_of layout_of layout_at
member_n = refl

member_h : member_of_type file 16 2 ≡ Some (8, short_id)
unfolding shape_of layout_of layout_at
member_h = refl

no_other_member : member_of_type file 16 3 ≡ None
unfolding shape_of layout_of layout_at
no_other_member = refl

int_has_no_member : member_of_type file int_id 0 ≡ None
unfolding shape_of layout_of layout_at
int_has_no_member = refl

array_size : size_of_type file 17 ≡ Some 36
unfolding shape_of layout_of layout_at
array_size = refl

unsized_array : size_of_type file 18 ≡ None
unfolding shape_of layout_of layout_at
unsized_array = refl

incomplete_structure : size_of_type file 19 ≡ None
unfolding shape_of layout_of layout_at
incomplete_structure = refl

void_has_no_size : size_of_type file void_id ≡ None
unfolding shape_of layout_of layout_at
void_has_no_size = refl

function_has_no_size : size_of_type file 11 ≡ None
unfolding shape_of layout_of layout_at
function_has_no_size = refl

list_has_no_alignment : align_of_type file no_parameters_id ≡ None
unfolding shape_of layout_of layout_at
list_has_no_alignment = refl

no_type_has_no_size : size_of_type file 20 ≡ None
unfolding shape_of layout_of layout_at
no_type_has_no_size = refl
