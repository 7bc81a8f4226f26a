-- Types: their classes, sameness, composites and layout (C90 6.1.2.5, 6.1.2.6 and 6.5.2.1).
use Rattle.std.specs.Prelude.{ℕ, zero, suc, ◌+◌, ◌-◌, ◌*◌, ◌/◌, ◌^◌, List, [], ◌∷◌, length, Option, Some, None, Bool, true, false, ◌&&◌, ◌||◌, is_some, nat_eq, nat_lt, if◌then◌else◌, slice_get, min, max}
use Rattle.dae_types_kinds.specs.declared.types.Shape.{Shape}
use Rattle.dae_types_kinds.specs.declared.types.Shape.TheVariants as shape
use Rattle.dae_types_kinds.specs.declared.types.Layout.{Layout}
use Rattle.dae_types_kinds.specs.declared.types.Structure.{Structure}
use Rattle.dae_types_kinds.specs.Tables.{Tables, with_shape}

-- ---- the types that are there from the start, by their numbers

abbrev pub void_id : ℕ
void_id = 0

abbrev pub char_id : ℕ
char_id = 1

abbrev pub signed_char_id : ℕ
signed_char_id = 2

abbrev pub unsigned_char_id : ℕ
unsigned_char_id = 3

abbrev pub short_id : ℕ
short_id = 4

abbrev pub unsigned_short_id : ℕ
unsigned_short_id = 5

abbrev pub int_id : ℕ
int_id = 6

abbrev pub unsigned_id : ℕ
unsigned_id = 7

abbrev pub no_parameters_id : ℕ
no_parameters_id = 8

abbrev pub first_shapes : List Shape
first_shapes = shape.Void ∷ shape.Char ∷ shape.SignedChar ∷ shape.UnsignedChar ∷ shape.Short ∷ shape.UnsignedShort ∷ shape.Int ∷ shape.Unsigned ∷ shape.NoParameters ∷ []

-- the shape of a type; past the end of the list, void
abbrev pub shape_or : Option Shape → Shape
shape_or None = shape.Void
shape_or (Some s) = s

unfoldable pub shape_of : Tables → ℕ → Shape
shape_of s n = shape_or (slice_get s.shapes n)

-- a type of this shape is made
abbrev pub made : Shape → Tables → Tables × ℕ
made x s = (with_shape x s, length s.shapes)

-- ---- classes of types

abbrev pub is_integer : Shape → Bool
is_integer shape.Char = true
is_integer shape.SignedChar = true
is_integer shape.UnsignedChar = true
is_integer shape.Short = true
is_integer shape.UnsignedShort = true
is_integer shape.Int = true
is_integer shape.Unsigned = true
is_integer _ = false

abbrev pub is_character : Shape → Bool
is_character shape.Char = true
is_character shape.SignedChar = true
is_character shape.UnsignedChar = true
is_character _ = false

abbrev pub is_unsigned : Shape → Bool
is_unsigned shape.Unsigned = true
is_unsigned _ = false

abbrev pub is_pointer : Shape → Bool
is_pointer (shape.Pointer n) = true
is_pointer _ = false

abbrev pub is_void : Shape → Bool
is_void shape.Void = true
is_void _ = false

abbrev pub is_function : Shape → Bool
is_function (shape.Function r ps) = true
is_function _ = false

abbrev pub is_array : Shape → Bool
is_array (shape.Array n count) = true
is_array _ = false

abbrev pub is_structure : Shape → Bool
is_structure (shape.Struct n) = true
is_structure _ = false

abbrev pub is_scalar : Shape → Bool
is_scalar s = is_integer s || is_pointer s

-- the type that a pointer points to
abbrev pub pointee : Shape → Option ℕ
pointee (shape.Pointer n) = Some n
pointee _ = None

abbrev pub points_to_void : Tables → Shape → Bool
points_to_void s (shape.Pointer n) = is_void (shape_of s n)
points_to_void s _ = false

-- the number of a structure
abbrev pub structure_of : Shape → Option ℕ
structure_of (shape.Struct n) = Some n
structure_of _ = None

-- ---- complete types

abbrev pub layout_or : Option Structure → Option Layout
layout_or None = None
layout_or (Some s) = s.layout

-- the layout of a structure, where it is complete
unfoldable pub layout_of : Tables → ℕ → Option Layout
layout_of s n = layout_or (slice_get s.structures n)

-- elements of an array are complete, so that it is where its size is known
abbrev pub is_complete_shape : Tables → Shape → Bool
is_complete_shape s shape.Void = false
is_complete_shape s (shape.Array n count) = is_some count
is_complete_shape s (shape.Struct n) = is_some (layout_of s n)
is_complete_shape s (shape.Function r ps) = false
is_complete_shape s _ = true

abbrev pub is_complete : Tables → ℕ → Bool
is_complete s n = is_complete_shape s (shape_of s n)

-- ---- the same type within one file. Structures are the same by their number, and an array without a size is the same as
-- each array of the same elements. A recursion into a list of shapes has a counter, which begins at its length.

abbrev pub counts_agree : Option ℕ → Option ℕ → Bool
counts_agree (Some m) (Some n) = nat_eq m n
counts_agree _ _ = true

abbrev pub same_shape : (ℕ → ℕ → Bool) → Shape → Shape → Bool
same_shape f shape.Void shape.Void = true
same_shape f shape.Char shape.Char = true
same_shape f shape.SignedChar shape.SignedChar = true
same_shape f shape.UnsignedChar shape.UnsignedChar = true
same_shape f shape.Short shape.Short = true
same_shape f shape.UnsignedShort shape.UnsignedShort = true
same_shape f shape.Int shape.Int = true
same_shape f shape.Unsigned shape.Unsigned = true
same_shape f (shape.Pointer m) (shape.Pointer n) = f m n
same_shape f (shape.Array m c) (shape.Array n d) = counts_agree c d && f m n
same_shape f (shape.Struct m) (shape.Struct n) = nat_eq m n
same_shape f (shape.Function r ps) (shape.Function t qs) = f r t && f ps qs
same_shape f shape.NoParameters shape.NoParameters = true
same_shape f (shape.Parameter ps m) (shape.Parameter qs n) = f ps qs && f m n
same_shape f _ _ = false

abbrev pub same_within : ℕ → Tables → ℕ → ℕ → Bool
same_within zero s m n = false
same_within (suc k) s m n = same_shape (same_within k s) (shape_of s m) (shape_of s n)

unfoldable pub same : Tables → ℕ → ℕ → Bool
same s m n = same_within (length s.shapes) s m n

-- ---- the composite of two same types: each array has the size that one of them has (C90 6.1.2.6)

abbrev pub either_count : Option ℕ → Option ℕ → Option ℕ
either_count None d = d
either_count (Some c) d = Some c

abbrev pub make_pointer : Tables × ℕ → Tables × ℕ
make_pointer x = made (shape.Pointer x.1) x.0

abbrev pub make_array : Option ℕ → Tables × ℕ → Tables × ℕ
make_array count x = made (shape.Array x.1 count) x.0

abbrev pub make_function : (Tables → Tables × ℕ) → Tables × ℕ → Tables × ℕ
make_function f x = made (shape.Function x.1 (f x.0).1) (f x.0).0

abbrev pub make_parameter : (Tables → Tables × ℕ) → Tables × ℕ → Tables × ℕ
make_parameter f x = made (shape.Parameter x.1 (f x.0).1) (f x.0).0

abbrev pub composite_shape : (Tables → ℕ → ℕ → Tables × ℕ) → Tables → ℕ → Shape → Shape → Tables × ℕ
composite_shape f s old (shape.Pointer m) (shape.Pointer n) = make_pointer (f s m n)
composite_shape f s old (shape.Array m c) (shape.Array n d) = make_array (either_count c d) (f s m n)
composite_shape f s old (shape.Function r ps) (shape.Function t qs) = make_function (λ u. f u ps qs) (f s r t)
composite_shape f s old (shape.Parameter ps m) (shape.Parameter qs n) = make_parameter (λ u. f u m n) (f s ps qs)
composite_shape f s old x y = (s, old)

abbrev pub composite_within : ℕ → Tables → ℕ → ℕ → Tables × ℕ
composite_within zero s m n = (s, m)
composite_within (suc k) s m n = composite_shape (composite_within k) s m (shape_of s m) (shape_of s n)

unfoldable pub composite : Tables → ℕ → ℕ → Tables × ℕ
composite s m n = composite_within (length s.shapes) s m n

-- ---- numbers that are words stop at the greatest one

abbrev pub greatest_word : ℕ
greatest_word = 2 ^ 32 - 1

abbrev pub word_for : ℕ → ℕ
word_for n = min n greatest_word

-- ---- bytes and alignment. Sums and products stop at the greatest word, which is far above what a type may have.

abbrev pub most_bytes : ℕ
most_bytes = 67108864

abbrev pub layout : ℕ → ℕ → Layout
layout size align = record { size = size; align = align }

abbrev pub layout_else : Option Layout → Layout
layout_else None = layout 0 1
layout_else (Some l) = l

abbrev pub repeated : Option ℕ → Layout → Layout
repeated None l = layout 0 l.align
repeated (Some count) l = layout (min (l.size * count) greatest_word) l.align

-- a type without a layout has 0 bytes
abbrev pub shape_layout : (ℕ → Layout) → Tables → Shape → Layout
shape_layout f s shape.Void = layout 0 1
shape_layout f s shape.Char = layout 1 1
shape_layout f s shape.SignedChar = layout 1 1
shape_layout f s shape.UnsignedChar = layout 1 1
shape_layout f s shape.Short = layout 2 2
shape_layout f s shape.UnsignedShort = layout 2 2
shape_layout f s (shape.Array n count) = repeated count (f n)
shape_layout f s (shape.Struct n) = layout_else (layout_of s n)
shape_layout f s _ = layout 4 4

abbrev pub layout_within : ℕ → Tables → ℕ → Layout
layout_within zero s n = layout 0 1
layout_within (suc k) s n = shape_layout (layout_within k s) s (shape_of s n)

unfoldable pub layout_at : Tables → ℕ → Layout
layout_at s n = layout_within (length s.shapes) s n

-- the least multiple of a number that isn't 0 from n on
abbrev pub rounded : ℕ → ℕ → ℕ
rounded n to = if nat_eq to 0 then n else (min (n + (to - 1)) greatest_word / to) * to

-- a member at the next place that suits it, behind the members so far
abbrev pub placed : Layout → Layout → Layout
placed l m = layout (min (rounded l.size m.align + m.size) greatest_word) (max l.align m.align)

-- a structure ends where each of an array of it would begin
abbrev pub finished : Layout → Layout
finished l = layout (rounded l.size l.align) l.align

abbrev pub is_too_large : Tables → ℕ → Option ℕ → Bool
is_too_large s element count = nat_lt most_bytes (repeated count (layout_at s element)).size
