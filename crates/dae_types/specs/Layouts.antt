-- The size and the alignment of a type, and where the members of a structure are (C90 6.1.2.5, 6.3.3.4 and 6.5.2.1).
use Rattle.std.specs.Prelude.{ℕ, List, Option, Some, None, Bool, true, false, ◌&&◌, not, nat_eq, if◌then◌else◌, find, fold, option_map, take_while}
use Rattle.dae_types_kinds.specs.declared.types.Layout.{Layout}
use Rattle.dae_types_kinds.specs.declared.types.Shape.{Shape}
use Rattle.dae_types_kinds.specs.declared.types.Shape.TheVariants as shape
use Rattle.dae_types_kinds.specs.declared.tables.Component.{Component}
use Rattle.dae_types_kinds.specs.Tables.{Tables}
use Rattle.dae_types_kinds.specs.Types.{is_complete, layout, layout_at, placed, rounded, shape_of, structure_of}
use Rattle.dae_types_typed.specs.Sound.{members_of}

-- ---- sizes and alignments

-- lists of the types of parameters stand among the types, and are none
abbrev pub is_list_of_types : Shape → Bool
is_list_of_types shape.NoParameters = true
is_list_of_types (shape.Parameter before t) = true
is_list_of_types _ = false

-- a complete type of objects (C90 6.1.2.5)
abbrev pub is_sized : Tables → ℕ → Bool
is_sized s n = is_complete s n && not (is_list_of_types (shape_of s n))

-- what sizeof gives (C90 6.3.3.4): the bytes of an object of the type
abbrev pub size_of_type : Tables → ℕ → Option ℕ
size_of_type s n = if is_sized s n then Some (layout_at s n).size else None

-- the number whose multiples are the addresses of objects of the type (C90 3.1)
abbrev pub align_of_type : Tables → ℕ → Option ℕ
align_of_type s n = if is_sized s n then Some (layout_at s n).align else None

-- ---- members. They stand in the order of their declarations, each at the next place that suits it (C90 6.5.2.1).

abbrev pub is_member_called : ℕ → Component → Bool
is_member_called name c = nat_eq c.name name

-- the bytes up to the end of members that stand behind a layout
abbrev pub with_members : Tables → Layout → List Component → Layout
with_members s = fold (λ (l : Layout) (c : Component). placed l (layout_at s c.type_id))

-- the offset of a member behind others, and its type
abbrev pub place_after : Tables → Layout → Component → ℕ × ℕ
place_after s l c = (rounded l.size (layout_at s c.type_id).align, c.type_id)

-- the first of these members that has this name, behind those before it
abbrev pub member_behind : Tables → Layout → List Component → ℕ → Option (ℕ × ℕ)
member_behind s l cs name =
    let before = take_while (λ c. not (is_member_called name c)) cs in
    option_map (place_after s (with_members s l before)) (find (is_member_called name) cs)

abbrev pub member_if : Tables → Option ℕ → ℕ → Option (ℕ × ℕ)
member_if s None name = None
member_if s (Some structure) name = member_behind s (layout 0 1) (members_of s structure) name

-- the offset and the type of the member of this name in a type; of what is no structure there is none
abbrev pub member_of_type : Tables → ℕ → ℕ → Option (ℕ × ℕ)
member_of_type s n name = member_if s (structure_of (shape_of s n)) name
