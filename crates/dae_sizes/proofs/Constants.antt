-- The items that aggregates get are numbers and addresses of objects with static storage: by induction over the plans of
-- initialisers, with the measure of those that are neither.
use Rattle.std.proofs.Common.{◌≡◌, ℕ, ◌+◌, ◌≤◌, Bool, true, false, List, [], ◌∷◌, ◌++◌, Option, Some, None, if◌then◌else◌, refl, arith}
use Rattle.std.specs.Prelude.{◌&&◌, ◌||◌}
use Rattle.dae_base.specs.declared.Place.{Place}
use Rattle.dae_base.specs.declared.LoadKind.{LoadKind}
use Rattle.dae_tree.specs.Trees as tree
use Rattle.dae_tree.specs.Trees.{Expression, Initialiser, Initialisers}
use Rattle.dae_tree.specs.Depth.{place_of}
use Rattle.dae_program.specs.Trees as program
use Rattle.dae_types_kinds.specs.declared.types.Shape.{Shape}
use Rattle.dae_types_kinds.specs.declared.types.Shape.TheVariants as shape
use Rattle.dae_types_kinds.specs.declared.values.Known.{Known}
use Rattle.dae_types_kinds.specs.declared.values.Known.TheVariants as known
use Rattle.dae_types_kinds.specs.Tables.{Tables, with_shape}
use Rattle.dae_types_kinds.specs.Types.{shape_of, int_id, is_scalar}
use Rattle.dae_types_kinds.specs.Values.{Typed, number, load_kind, known_as, constant_tree}
use Rattle.dae_types_rules.specs.Plan.{CheckPlan}
use Rattle.dae_types_plans.specs.Expressions.{plan_value}
use Rattle.dae_types_file_plans.specs.Initialisers.{Once, FillSlot, Filling, Landing, Opening, Content, over, literal_in, has_literal, landed_in, lowered, next_slot, literal_bytes, constant_settings, byte_settings, behind_bytes, item_by, item_in, item_at, value_item, is_one_literal, is_text_array, parts_of, open_with, opens, list_at, plan_initialiser, plan_initialisers, empty_filling, whole_by, is_value_for, filled_type, plan_content}
use Rattle.dae_sizes.specs.Worth.{declares, declares_in_initialiser, declares_in_initialisers}
use Rattle.dae_sizes.proofs.Within.{Grown, Within, none, same, stays, fewer, lighter, pure_within, node_reads, maps_reads, maps_stays, asks_within, chain_within, nothing_within, looks_within}
use Rattle.dae_sizes.proofs.Steps.{pardons_within}
use Rattle.dae_sizes.proofs.Expressions.{value_of_within}

abbrev pub other : program.Expression → ℕ
other (program.Number k) = 0
other (program.Address o k) = 0
other e = 1

abbrev pub others : List program.Setting → ℕ
others [] = 0
others (x ∷ xs) = other x.value + others xs

others-append : (xs ys : List program.Setting) → others (xs ++ ys) ≡ others xs + others ys
others-append [] ys = omega arith
others-append (x ∷ xs) ys = let h = others-append xs ys in omega (arith, h)

constant_is_none : (o : ℕ) (t : Shape) (k : Known) → others (constant_settings o t (constant_tree k)) ≡ 0
constant_is_none o t (known.Number w) = refl
constant_is_none o t (known.Address (Some n) k) = refl
constant_is_none o t (known.Address None w) = refl
constant_is_none o t known.NullPointer = refl
constant_is_none o t known.Division = refl
constant_is_none o t known.Nothing = refl

bytes_are_none : (o : ℕ) (k : LoadKind) (bs : List ℕ) → others (byte_settings o k bs) ≡ 0
bytes_are_none o k [] = refl
bytes_are_none o k (b ∷ bs) = let h = bytes_are_none (behind_bytes o 1) k bs in omega (arith, h)

abbrev pub filled : Filling → ℕ
filled f = others f.items

abbrev landed : Landing → ℕ
landed l = filled l.filling

abbrev opened_to : Opening → ℕ
opened_to o = filled o.inside

abbrev pub held : Content → ℕ
held x = others x.items

landed_few : (f : Filling) (z : Option FillSlot) → landed (landed_in f z) ≤ filled f
landed_few f None = omega arith
landed_few f (Some z) = omega arith

opens_if : (b : Bool) (w : ℕ) (x y : Opening) → opened_to x ≤ w → opened_to y ≤ w → opened_to (if b then x else y) ≤ w
opens_if true w x y h k = h
opens_if false w x y h k = k

opens_few : (s : Tables) (f : Filling) (js : Initialisers) (z : Option FillSlot) → opened_to (opens s f js z) ≤ filled f
opens_few s f js None = omega arith
opens_few s f js (Some z) =
    let t = shape_of s z.type_id in
    opens_if (is_scalar t || (is_text_array s t && is_one_literal js)) (filled f) (open_with f (Once z.offset z.type_id ∷ []) true z.rest) (open_with f (parts_of z.offset z.type_id t ∷ []) false z.rest) (omega arith) (omega arith)

scalar_few : (f : Filling) (z : FillSlot) (t u : Shape) (x : Typed) → others (f.items ++ constant_settings z.offset t (constant_tree (known_as u t x.known))) ≤ filled f
scalar_few f z t u x =
    let h = others-append f.items (constant_settings z.offset t (constant_tree (known_as u t x.known))) in
    let k = constant_is_none z.offset t (known_as u t x.known) in omega (arith, h, k)

item_few : (s : Tables) (n : Option ℕ) (x : Typed) (z : FillSlot) (t : Shape) (f : Filling) → filled (item_by s n x z t f) ≤ filled f
item_few s n x z (shape.Array u count) f =
    let g = others-append f.items (byte_settings z.offset (load_kind (shape_of s u)) (literal_bytes s n)) in
    let k = bytes_are_none z.offset (load_kind (shape_of s u)) (literal_bytes s n) in omega (arith, g, k)
item_few s n x z (shape.Struct k) f = omega arith
item_few s n x z t f = let g = scalar_few f z t (shape_of s x.type_id) x in omega (arith, g)

item_in_few : (s : Tables) (n : Option ℕ) (x : Typed) (z : Option FillSlot) (f : Filling) → filled (item_in s n x z f) ≤ filled f
item_in_few s n x None f = omega arith
item_in_few s n x (Some z) f = item_few s n x z (shape_of s z.type_id) f

module _ (ls : List (List ℕ)) where
  item_within : (p : Place) (n : Option ℕ) (x : Typed) (l : Landing) → Within ls filled 0 (landed l) (item_at p n x l)
  item_within p n x l = pardons_within l.filling (node_reads nothing_within (λ s y e g. item_in_few s n x l.place l.filling))

  value_item_within : (e : Expression) (f : Filling) → Within ls filled (declares e) (filled f) (value_item (place_of e) (literal_in e) f (plan_value e))
  value_item_within e f =
      fewer (omega arith) (chain_within (pardons_within (number 0 int_id) (value_of_within 0 (omega arith) ls e))
      (λ x l. pardons_within (over f) (fewer {k = 0} (omega arith) (chain_within {μ = landed} {w = filled f} (node_reads nothing_within (λ s y q g. landed_few f (lowered s (has_literal (literal_in e)) x (next_slot s f.rest))))
      (λ y k. lighter (omega (arith, k)) (item_within (place_of e) (literal_in e) x y))))))

  list_within : {n w : ℕ} (p : Place) (f : Filling) (js : Initialisers) (fill : Filling → CheckPlan Filling) → ((g : Filling) → filled g ≤ filled f → Within ls filled n w (fill g)) → Within ls filled n w (list_at p f js fill)
  list_within p f js fill h =
      pardons_within (over f) (fewer (omega arith) (chain_within {μ = opened_to} {w = filled f} (node_reads nothing_within (λ s y e g. opens_few s f js (next_slot s f.rest)))
      (λ o k. maps_reads (h o.inside k) (λ s g e l. l))))

  mutual
    pub initialiser_within : (f : Filling) (x : Initialiser) → Within ls filled (declares_in_initialiser x) (filled f) (plan_initialiser f x)
    initialiser_within f (tree.Value e) = value_item_within e f
    initialiser_within f (tree.Listed p js comma) = list_within p f js (λ g. plan_initialisers g js) (λ g k. lighter (omega (arith, k)) (initialisers_within g js))

    pub initialisers_within : (f : Filling) (xs : Initialisers) → Within ls filled (declares_in_initialisers xs) (filled f) (plan_initialisers f xs)
    initialisers_within f tree.no_initialisers = pure_within f (omega arith)
    initialisers_within f (tree.initialiser_then x xs) = chain_within (initialiser_within f x) (λ g k. lighter (omega (arith, k)) (initialisers_within g xs))

  filled_type_grown : (s : Tables) (t n : ℕ) (u : Shape) → Grown 0 s (filled_type s t n u).0
  filled_type_grown s t n (shape.Array u None) = same 0 s (with_shape (shape.Array u (Some n)) s) refl refl refl
  filled_type_grown s t n u = stays 0

  whole_within : (o t : ℕ) (x : Initialiser) (b : Bool) → Within ls filled (declares_in_initialiser x) 0 (whole_by o t x b)
  whole_within o t (tree.Value e) true = node_reads (value_of_within 0 (omega arith) ls e) (λ s x e l. omega arith)
  whole_within o t (tree.Value e) false = lighter (omega arith) (initialiser_within (empty_filling (Once o t ∷ [])) (tree.Value e))
  whole_within o t (tree.Listed p js comma) b = lighter (omega arith) (initialiser_within (empty_filling (Once o t ∷ [])) (tree.Listed p js comma))

  -- an object with an initialiser gets constants alone
  pub content_constant : (p : Place) (o t : ℕ) (x : Initialiser) → Within ls held (declares_in_initialiser x) 0 (plan_content p o t x)
  content_constant p o t x =
      asks_within (maps_stays (fewer (omega arith) (chain_within (looks_within {μ = none} {w = 0} (λ s. is_value_for s t x) (λ s e. omega arith)) (λ b l. whole_within o t x b)))
      (λ s f e l. record { grown = filled_type_grown s t f.count (shape_of s t); small = l }))
