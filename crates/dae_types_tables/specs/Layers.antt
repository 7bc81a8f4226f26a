-- What is still to be made of a composite, one layer round another (C90 6.1.2.6).
use Rattle.std.specs.Prelude.{ℕ, zero, suc, List, [], ◌∷◌}
use Rattle.std.specs.Option.{option_or}
use Rattle.dae_types_kinds.specs.declared.types.Shape.{Shape}
use Rattle.dae_types_kinds.specs.declared.types.Shape.TheVariants as shape
use Rattle.dae_types_kinds.specs.Tables.{Tables}
use Rattle.dae_types_kinds.specs.Types.{composite_within, made, make_array, make_function, make_parameter, make_pointer, shape_of}
use Rattle.dae_types_tables.specs.declared.sameness.TypesToCompare.{TypesToCompare}
use Rattle.dae_types_tables.specs.declared.sameness.Layer.{Layer}
use Rattle.dae_types_tables.specs.declared.sameness.Layer.TheVariants as layer
use Rattle.dae_types_tables.specs.declared.sameness.Want.{Want}
use Rattle.dae_types_tables.specs.declared.sameness.Want.TheVariants as want

abbrev pub pair : ℕ → ℕ → ℕ → TypesToCompare
pair k m n = record { depth = k; left = m; right = n }

abbrev pub composite_of : TypesToCompare → Tables → Tables × ℕ
composite_of p s = composite_within p.depth s p.left p.right

-- a layer round the type that was made last
abbrev pub make_layer : Layer → Tables × ℕ → Tables × ℕ
make_layer (layer.Composite p) x = composite_of p x.0
make_layer layer.Pointer x = make_pointer x
make_layer (layer.Array count) x = make_array count x
make_layer (layer.FunctionWith p) x = make_function (composite_of p) x
make_layer (layer.Function r) x = made (shape.Function r x.1) x.0
make_layer (layer.ParameterWith p) x = make_parameter (composite_of p) x
make_layer (layer.Parameter ps) x = made (shape.Parameter ps x.1) x.0

-- the outermost stands first
abbrev pub wrapped : List Layer → Tables × ℕ → Tables × ℕ
wrapped [] x = x
wrapped (l ∷ ls) x = make_layer l (wrapped ls x)

-- ---- what a layer wants made

abbrev pub want_of_shapes : ℕ → ℕ → Shape → Shape → Want
want_of_shapes k old (shape.Pointer m) (shape.Pointer n) = want.Parts layer.Pointer (pair k m n)
want_of_shapes k old (shape.Array m c) (shape.Array n d) = want.Parts (layer.Array (option_or c d)) (pair k m n)
want_of_shapes k old (shape.Function r ps) (shape.Function t qs) = want.Parts (layer.FunctionWith (pair k ps qs)) (pair k r t)
want_of_shapes k old (shape.Parameter ps m) (shape.Parameter qs n) = want.Parts (layer.ParameterWith (pair k m n)) (pair k ps qs)
want_of_shapes k old x y = want.Type old

abbrev pub want_of_pair : ℕ → Tables → ℕ → ℕ → Want
want_of_pair zero s m n = want.Type m
want_of_pair (suc k) s m n = want_of_shapes k m (shape_of s m) (shape_of s n)

abbrev pub want_of : Tables → ℕ → Layer → Want
want_of s last (layer.Composite p) = want_of_pair p.depth s p.left p.right
want_of s last layer.Pointer = want.Shape (shape.Pointer last)
want_of s last (layer.Array count) = want.Shape (shape.Array last count)
want_of s last (layer.FunctionWith p) = want.Parts (layer.Function last) p
want_of s last (layer.Function r) = want.Shape (shape.Function r last)
want_of s last (layer.ParameterWith p) = want.Parts (layer.Parameter last) p
want_of s last (layer.Parameter ps) = want.Shape (shape.Parameter ps last)
