-- Whether the types and structures of a file are laid out soundly, as tests one after the other.
use Rattle.std.specs.Prelude.{ℕ, suc, Bool, true, ◌&&◌, nat_eq, nat_lt, List, [], ◌∷◌, Option, Some, None}
use Rattle.dae_types_kinds.specs.declared.types.Layout.{Layout}
use Rattle.dae_types_kinds.specs.declared.types.Shape.{Shape}
use Rattle.dae_types_kinds.specs.declared.types.Shape.TheVariants as shape
use Rattle.dae_types_kinds.specs.declared.types.Structure.{Structure}
use Rattle.dae_types_kinds.specs.Tables.{Tables}
use Rattle.dae_types_kinds.specs.Types.{is_complete, layout}
use Rattle.dae_types_typed.specs.Sound.{laid_out, members_of}

-- the type of an array stands behind that of its elements, which is complete, and a list of parameters behind the shorter one
abbrev pub is_sound_shape : Tables → ℕ → Shape → Bool
is_sound_shape s n (shape.Array e count) = nat_lt e n && is_complete s e
is_sound_shape s n (shape.Parameter before t) = nat_lt before n
is_sound_shape s n _ = true

-- shapes from number n on
abbrev pub are_sound_shapes : Tables → ℕ → List Shape → Bool
are_sound_shapes s n [] = true
are_sound_shapes s n (x ∷ xs) = is_sound_shape s n x && are_sound_shapes s (suc n) xs

-- what the members of a structure say
abbrev pub by_members : Tables → ℕ → Layout
by_members s n = laid_out s (layout 0 1) (members_of s n)

abbrev pub same_layout : Layout → Layout → Bool
same_layout l m = nat_eq l.size m.size && nat_eq l.align m.align

-- a complete structure is laid out as its members say
abbrev pub is_laid_out : Tables → ℕ → Option Layout → Bool
is_laid_out s n None = true
is_laid_out s n (Some l) = same_layout l (by_members s n)

-- structures from number n on
abbrev pub are_laid_out : Tables → ℕ → List Structure → Bool
are_laid_out s n [] = true
are_laid_out s n (x ∷ xs) = is_laid_out s n x.layout && are_laid_out s (suc n) xs
