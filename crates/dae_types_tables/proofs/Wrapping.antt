-- What a layer wants makes the composite that it stands for, and less is left behind it.
use Rattle.std.proofs.Common.{arith, ◌≡◌, ◌<◌, ◌+◌, ℕ, zero, suc, List, [], ◌∷◌, ◌++◌, Option, Some, None, Result, Ok, Err, refl, ap, sym, ◌∙◌}
use Rattle.std.specs.Option.{option_or}
use Rattle.dae_types_kinds.specs.declared.rules.Breach.{Breach}
use Rattle.dae_types_kinds.specs.declared.types.Shape.{Shape}
use Rattle.dae_types_kinds.specs.declared.types.Shape.TheVariants as shape
use Rattle.dae_types_kinds.specs.Tables.{Tables}
use Rattle.dae_types_kinds.specs.Types.{composite_shape, composite_within, either_count, made, make_array, shape_of}
use Rattle.dae_types_tables.specs.declared.sameness.TypesToCompare.{TypesToCompare}
use Rattle.dae_types_tables.specs.declared.sameness.Layer.{Layer}
use Rattle.dae_types_tables.specs.declared.sameness.Layer.TheVariants as layer
use Rattle.dae_types_tables.specs.declared.sameness.Want.{Want}
use Rattle.dae_types_tables.specs.declared.sameness.Want.TheVariants as want
use Rattle.dae_types_tables.specs.Layers.{composite_of, make_layer, want_of, want_of_pair, want_of_shapes, wrapped}

pub wrap_inside : (ls : List Layer) (l : Layer) (x : Tables × ℕ) → wrapped (ls ++ l ∷ []) x ≡ wrapped ls (make_layer l x)
wrap_inside [] l x = refl
wrap_inside (m ∷ ls) l x = ap (make_layer m) (wrap_inside ls l x)

-- ---- what is made is the layer

abbrev made_by : Want → Tables → Tables × ℕ
made_by (want.Parts l p) s = make_layer l (composite_of p s)
made_by (want.Shape x) s = made x s
made_by (want.Type n) s = (s, n)

either_is_first : (count size : Option ℕ) → option_or count size ≡ either_count count size
either_is_first None size = refl
either_is_first (Some count) size = refl

shapes_make : (k : ℕ) (s : Tables) (m : ℕ) (x y : Shape) → made_by (want_of_shapes k m x y) s ≡ composite_shape (composite_within k) s m x y
shapes_make k s m (shape.Pointer a) (shape.Pointer b) = refl
shapes_make k s m (shape.Array a c) (shape.Array b d) = ap (λ (count : Option ℕ). make_array count (composite_within k s a b)) (either_is_first c d)
shapes_make k s m (shape.Function r ps) (shape.Function t qs) = refl
shapes_make k s m (shape.Parameter ps a) (shape.Parameter qs b) = refl
shapes_make k s m x y = refl

pair_makes : (k : ℕ) (s : Tables) (m n : ℕ) → made_by (want_of_pair k s m n) s ≡ composite_within k s m n
pair_makes zero s m n = refl
pair_makes (suc k) s m n = shapes_make k s m (shape_of s m) (shape_of s n)

want_makes : (s : Tables) (last : ℕ) (l : Layer) → made_by (want_of s last l) s ≡ make_layer l (s, last)
want_makes s last (layer.Composite p) = pair_makes p.depth s p.left p.right
want_makes s last layer.Pointer = refl
want_makes s last (layer.Array count) = refl
want_makes s last (layer.FunctionWith p) = refl
want_makes s last (layer.Function r) = refl
want_makes s last (layer.ParameterWith p) = refl
want_makes s last (layer.Parameter ps) = refl

-- what was to be made before, behind what the last of the layers wants
wanted : (ls : List Layer) (l : Layer) (s : Tables) (last : ℕ) (w : Want) (answer : Tables × ℕ) → w ≡ want_of s last l → wrapped (ls ++ l ∷ []) (s, last) ≡ answer → wrapped ls (made_by w s) ≡ answer
wanted ls l s last w answer is before =
    ap (λ (v : Want). wrapped ls (made_by v s)) is ∙ ap (wrapped ls) (want_makes s last l) ∙ sym (wrap_inside ls l (s, last)) ∙ before

pub parts_wanted : (ls : List Layer) (l outer : Layer) (first : TypesToCompare) (s : Tables) (last : ℕ) (answer : Tables × ℕ) → want.Parts outer first ≡ want_of s last l → wrapped (ls ++ l ∷ []) (s, last) ≡ answer → wrapped ((ls ++ outer ∷ []) ++ layer.Composite first ∷ []) (s, last) ≡ answer
parts_wanted ls l outer first s last answer is before =
    wrap_inside (ls ++ outer ∷ []) (layer.Composite first) (s, last) ∙ wrap_inside ls outer (composite_of first s) ∙ wanted ls l s last (want.Parts outer first) answer is before

abbrev or_answer : Tables × ℕ → Result (Tables × ℕ) Breach → Tables × ℕ
or_answer x (Ok y) = y
or_answer x (Err e) = x

pub shape_wanted : (ls : List Layer) (l : Layer) (x : Shape) (s : Tables) (last : ℕ) (y answer : Tables × ℕ) → want.Shape x ≡ want_of s last l → (let new : Result (Tables × ℕ) Breach = Ok (made x s) in new ≡ Ok y) → wrapped (ls ++ l ∷ []) (s, last) ≡ answer → wrapped ls y ≡ answer
shape_wanted ls l x s last y answer is made before =
    ap (λ (r : Result (Tables × ℕ) Breach). wrapped ls (or_answer y r)) (sym made) ∙ wanted ls l s last (want.Shape x) answer is before

pub type_wanted : (ls : List Layer) (l : Layer) (id : ℕ) (s : Tables) (last : ℕ) (answer : Tables × ℕ) → want.Type id ≡ want_of s last l → wrapped (ls ++ l ∷ []) (s, last) ≡ answer → wrapped ls (s, id) ≡ answer
type_wanted ls l id s last answer is before = wanted ls l s last (want.Type id) answer is before

-- ---- how many layers it takes at most

abbrev cost : ℕ → ℕ
cost zero = 1
cost (suc k) = 3 + cost k + cost k

abbrev layer_weight : Layer → ℕ
layer_weight (layer.Composite p) = cost p.depth
layer_weight (layer.FunctionWith p) = 2 + cost p.depth
layer_weight (layer.ParameterWith p) = 2 + cost p.depth
layer_weight l = 1

abbrev pub weight : List Layer → ℕ
weight [] = 0
weight (l ∷ ls) = layer_weight l + weight ls

weight_with : (ls : List Layer) (l : Layer) → weight (ls ++ l ∷ []) ≡ weight ls + layer_weight l
weight_with [] l = omega arith
weight_with (m ∷ ls) l = omega (arith, weight_with ls l)

abbrev want_weight : Want → ℕ
want_weight (want.Parts l p) = layer_weight l + cost p.depth
want_weight (want.Shape x) = 0
want_weight (want.Type n) = 0

shapes_lighter : (k m : ℕ) (x y : Shape) → want_weight (want_of_shapes k m x y) < 3 + cost k + cost k
shapes_lighter k m (shape.Pointer a) (shape.Pointer b) = omega arith
shapes_lighter k m (shape.Array a c) (shape.Array b d) = omega arith
shapes_lighter k m (shape.Function r ps) (shape.Function t qs) = omega arith
shapes_lighter k m (shape.Parameter ps a) (shape.Parameter qs b) = omega arith
shapes_lighter k m x y = omega arith

pair_lighter : (k : ℕ) (s : Tables) (m n : ℕ) → want_weight (want_of_pair k s m n) < cost k
pair_lighter zero s m n = omega arith
pair_lighter (suc k) s m n = shapes_lighter k m (shape_of s m) (shape_of s n)

lighter : (s : Tables) (last : ℕ) (l : Layer) → want_weight (want_of s last l) < layer_weight l
lighter s last (layer.Composite p) = pair_lighter p.depth s p.left p.right
lighter s last layer.Pointer = omega arith
lighter s last (layer.Array count) = omega arith
lighter s last (layer.FunctionWith p) = omega arith
lighter s last (layer.Function r) = omega arith
lighter s last (layer.ParameterWith p) = omega arith
lighter s last (layer.Parameter ps) = omega arith

want_lighter : (ls : List Layer) (l : Layer) (s : Tables) (last : ℕ) (w : Want) → w ≡ want_of s last l → weight ls + want_weight w < weight (ls ++ l ∷ [])
want_lighter ls l s last w is =
    rw (is, weight_with ls l) (omega (arith, lighter s last l))

pub parts_lighter : (ls : List Layer) (l outer : Layer) (first : TypesToCompare) (s : Tables) (last : ℕ) → want.Parts outer first ≡ want_of s last l → weight ((ls ++ outer ∷ []) ++ layer.Composite first ∷ []) < weight (ls ++ l ∷ [])
parts_lighter ls l outer first s last is =
    omega (arith, want_lighter ls l s last (want.Parts outer first) is, weight_with (ls ++ outer ∷ []) (layer.Composite first), weight_with ls outer)

pub one_lighter : (ls : List Layer) (l : Layer) (s : Tables) (last : ℕ) → weight ls < weight (ls ++ l ∷ [])
one_lighter ls l s last = omega (arith, lighter s last l, weight_with ls l)
