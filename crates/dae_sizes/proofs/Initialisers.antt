-- What is set by an initialiser weighs no more than its tokens and literals pay: by induction over its plan.
use Rattle.std.proofs.Common.{◌≡◌, ℕ, ◌+◌, ◌≤◌, Bool, true, false, List, [], ◌∷◌, ◌++◌, Option, Some, None, if◌then◌else◌, refl, ap, ◌∙◌, arith}
use Rattle.std.specs.Prelude.{slice_get, ◌&&◌, ◌||◌}
use Rattle.dae_base.specs.declared.Place.{Place}
use Rattle.dae_base.specs.declared.LoadKind.{LoadKind}
use Rattle.dae_tree.specs.Trees as tree
use Rattle.dae_tree.specs.Trees.{Expression, Initialiser, Initialisers}
use Rattle.dae_tree.specs.Depth.{place_of}
use Rattle.dae_program.specs.Trees as program
use Rattle.dae_types_kinds.specs.declared.types.Shape.{Shape}
use Rattle.dae_types_kinds.specs.declared.types.Shape.TheVariants as shape
use Rattle.dae_types_kinds.specs.declared.values.Known.{Known}
use Rattle.dae_types_kinds.specs.declared.values.Known.TheVariants as known
use Rattle.dae_types_kinds.specs.Tables.{Tables, with_shape}
use Rattle.dae_types_kinds.specs.Types.{shape_of, int_id, is_scalar}
use Rattle.dae_types_kinds.specs.Values.{Typed, number, load_kind, known_as, constant_tree}
use Rattle.dae_types_rules.specs.Plan.{CheckPlan}
use Rattle.dae_types_plans.specs.Expressions.{plan_value}
use Rattle.dae_types_file_plans.specs.Initialisers.{Once, FillSlot, Filling, Landing, Opening, Content, over, literal_in, has_literal, landed_in, lowered, next_slot, literal_bytes, byte_settings, item_by, item_in, item_at, value_item, is_one_literal, is_text_array, parts_of, open_with, opens, list_at, plan_initialiser, plan_initialisers, empty_filling, plan_unused_initialiser, whole_by, is_value_for, filled_type, plan_content, constant_settings, behind_bytes}
use Rattle.dae_sizes.specs.Worth.{worth, worth_of_initialiser, worth_of_initialisers, declares, declares_in_initialiser, declares_in_initialisers}
use Rattle.dae_sizes.specs.Weights.{weight_of_items}
use Rattle.dae_sizes.specs.Paid.{bytes_or_none, for_each, price}
use Rattle.dae_sizes.specs.Paid as paid
use Rattle.dae_sizes.proofs.Within.{Grown, Within, none, same, stays, fewer, lighter, unmeasured, pure_within, node_reads, maps_reads, maps_stays, asks_within, chain_within, nothing_within, looks_within}
use Rattle.dae_sizes.proofs.Steps.{pardons_within}
use Rattle.dae_sizes.proofs.Expressions.{value_of_within}

-- the literal that an expression is, or none
abbrev pub text_in : List (List ℕ) → Option ℕ → List ℕ
text_in ls None = []
text_in ls (Some n) = paid.bytes_of_literal ls n

bytes_are : (o : Option (List ℕ)) → (elim o [ None ↦ [] | Some bytes ↦ bytes ]) ≡ bytes_or_none o
bytes_are None = refl
bytes_are (Some bytes) = refl

-- the literals of tables are those of their file
pub text_is : (s : Tables) (ls : List (List ℕ)) (n : Option ℕ) → s.literals ≡ ls → literal_bytes s n ≡ text_in ls n
text_is s ls None e = refl
text_is s ls (Some n) e = bytes_are (slice_get s.literals n) ∙ ap (λ (l : List (List ℕ)). bytes_or_none (slice_get l n)) e

pub literal_pays : (c : ℕ) (ls : List (List ℕ)) (e : Expression) → for_each c (text_in ls (literal_in e)) + for_each c (text_in ls (literal_in e)) ≤ worth (price c ls) e
literal_pays c ls (tree.Literal p n) = omega arith
literal_pays c ls e = omega arith

-- ---- items

pub items-append : (c : ℕ) (xs ys : List program.Setting) → weight_of_items c (xs ++ ys) ≡ weight_of_items c xs + weight_of_items c ys
items-append c [] ys = omega arith
items-append c (x ∷ xs) ys = let h = items-append c xs ys in omega (arith, h)

constant_weighs : (c o : ℕ) (t : Shape) (k : Known) → weight_of_items c (constant_settings o t (constant_tree k)) ≤ c + c
constant_weighs c o t (known.Number w) = omega arith
constant_weighs c o t (known.Address (Some n) k) = omega arith
constant_weighs c o t (known.Address None w) = omega arith
constant_weighs c o t known.NullPointer = omega arith
constant_weighs c o t known.Division = omega arith
constant_weighs c o t known.Nothing = omega arith

bytes_weigh : (c o : ℕ) (k : LoadKind) (bs : List ℕ) → weight_of_items c (byte_settings o k bs) ≡ for_each c bs + for_each c bs
bytes_weigh c o k [] = refl
bytes_weigh c o k (b ∷ bs) = let h = bytes_weigh c (behind_bytes o 1) k bs in omega (arith, h)

abbrev pub filled : ℕ → Filling → ℕ
filled c f = weight_of_items c f.items

abbrev landed : ℕ → Landing → ℕ
landed c l = filled c l.filling

abbrev opened_to : ℕ → Opening → ℕ
opened_to c o = filled c o.inside

abbrev pub held : ℕ → Content → ℕ
held c x = weight_of_items c x.items

landed_weighs : (c : ℕ) (f : Filling) (z : Option FillSlot) → landed c (landed_in f z) ≤ filled c f
landed_weighs c f None = omega arith
landed_weighs c f (Some z) = omega arith

opens_if : (b : Bool) (c w : ℕ) (x y : Opening) → opened_to c x ≤ w → opened_to c y ≤ w → opened_to c (if b then x else y) ≤ w
opens_if true c w x y h k = h
opens_if false c w x y h k = k

opens_weighs : (c : ℕ) (s : Tables) (f : Filling) (js : Initialisers) (z : Option FillSlot) → opened_to c (opens s f js z) ≤ filled c f
opens_weighs c s f js None = omega arith
opens_weighs c s f js (Some z) =
    let t = shape_of s z.type_id in
    opens_if (is_scalar t || (is_text_array s t && is_one_literal js)) c (filled c f) (open_with f (Once z.offset z.type_id ∷ []) true z.rest) (open_with f (parts_of z.offset z.type_id t ∷ []) false z.rest) (omega arith) (omega arith)

scalar_weighs : (c : ℕ) (f : Filling) (z : FillSlot) (t u : Shape) (x : Typed) → weight_of_items c (f.items ++ constant_settings z.offset t (constant_tree (known_as u t x.known))) ≤ (c + c) + filled c f
scalar_weighs c f z t u x =
    let h = items-append c f.items (constant_settings z.offset t (constant_tree (known_as u t x.known))) in
    let k = constant_weighs c z.offset t (known_as u t x.known) in omega (arith, h, k)

module _ (c : ℕ) (low : c ≤ 1) (ls : List (List ℕ)) where
  -- an item for a scalar, or the bytes of a literal
  item_weighs : (s : Tables) (n : Option ℕ) (x : Typed) (z : FillSlot) (t : Shape) (f : Filling) (w : ℕ) → s.literals ≡ ls → 2 ≤ w → for_each c (text_in ls n) + for_each c (text_in ls n) ≤ w → filled c (item_by s n x z t f) ≤ filled c f + w
  item_weighs s n x z (shape.Array u count) f w e l h =
      let g = items-append c f.items (byte_settings z.offset (load_kind (shape_of s u)) (literal_bytes s n)) in
      let k = bytes_weigh c z.offset (load_kind (shape_of s u)) (literal_bytes s n) in
      let t = ap (for_each c) (text_is s ls n e) in omega (arith, h, g, k, t)
  item_weighs s n x z (shape.Struct k) f w e l h = omega arith
  item_weighs s n x z t f w e l h = let g = scalar_weighs c f z t (shape_of s x.type_id) x in omega (arith, low, l, g)

  item_in_weighs : (s : Tables) (n : Option ℕ) (x : Typed) (z : Option FillSlot) (f : Filling) (w : ℕ) → s.literals ≡ ls → 2 ≤ w → for_each c (text_in ls n) + for_each c (text_in ls n) ≤ w → filled c (item_in s n x z f) ≤ filled c f + w
  item_in_weighs s n x None f w e l h = omega arith
  item_in_weighs s n x (Some z) f w e l h = item_weighs s n x z (shape_of s z.type_id) f w e l h

  item_within : (p : Place) (n : Option ℕ) (x : Typed) (l : Landing) (w : ℕ) → 2 ≤ w → for_each c (text_in ls n) + for_each c (text_in ls n) ≤ w → Within ls (filled c) 0 (landed c l + w) (item_at p n x l)
  item_within p n x l w h k = pardons_within l.filling (node_reads nothing_within (λ s y e g. item_in_weighs s n x l.place l.filling w e h k))

  value_item_within : (e : Expression) (f : Filling) → Within ls (filled c) (declares e) (filled c f + worth (price c ls) e) (value_item (place_of e) (literal_in e) f (plan_value e))
  value_item_within e f =
      fewer (omega arith) (chain_within (pardons_within (number 0 int_id) (value_of_within c low ls e))
      (λ x l. pardons_within (over f) (fewer {k = 0} (omega arith) (chain_within {μ = landed c} {w = filled c f} (node_reads nothing_within (λ s y q g. landed_weighs c f (lowered s (has_literal (literal_in e)) x (next_slot s f.rest))))
      (λ y k. lighter (omega (arith, k)) (item_within (place_of e) (literal_in e) x y (worth (price c ls) e) (omega (arith, l)) (literal_pays c ls e)))))))

  list_within : {n w : ℕ} (p : Place) (f : Filling) (js : Initialisers) (fill : Filling → CheckPlan Filling) → ((g : Filling) → filled c g ≤ filled c f → Within ls (filled c) n w (fill g)) → Within ls (filled c) n w (list_at p f js fill)
  list_within p f js fill h =
      pardons_within (over f) (fewer (omega arith) (chain_within {μ = opened_to c} {w = filled c f} (node_reads nothing_within (λ s y e g. opens_weighs c s f js (next_slot s f.rest)))
      (λ o k. maps_reads (h o.inside k) (λ s g e l. l))))

  mutual
    pub initialiser_within : (f : Filling) (x : Initialiser) → Within ls (filled c) (declares_in_initialiser x) (filled c f + worth_of_initialiser (price c ls) x) (plan_initialiser f x)
    initialiser_within f (tree.Value e) = value_item_within e f
    initialiser_within f (tree.Listed p js comma) = list_within p f js (λ g. plan_initialisers g js) (λ g k. lighter (omega (arith, k)) (initialisers_within g js))

    pub initialisers_within : (f : Filling) (xs : Initialisers) → Within ls (filled c) (declares_in_initialisers xs) (filled c f + worth_of_initialisers (price c ls) xs) (plan_initialisers f xs)
    initialisers_within f tree.no_initialisers = pure_within f (omega arith)
    initialisers_within f (tree.initialiser_then x xs) = chain_within (initialiser_within f x) (λ g k. lighter (omega (arith, k)) (initialisers_within g xs))

  pub unused_initialiser_within : (x : Initialiser) → Within ls none (declares_in_initialiser x) 0 (plan_unused_initialiser x)
  unused_initialiser_within x = unmeasured (initialiser_within (over (empty_filling [])) x)

  filled_type_grown : (s : Tables) (t n : ℕ) (u : Shape) → Grown 0 s (filled_type s t n u).0
  filled_type_grown s t n (shape.Array u None) = same 0 s (with_shape (shape.Array u (Some n)) s) refl refl refl
  filled_type_grown s t n u = stays 0

  whole_within : (o t : ℕ) (x : Initialiser) (b : Bool) → Within ls (filled c) (declares_in_initialiser x) (worth_of_initialiser (price c ls) x) (whole_by o t x b)
  whole_within o t (tree.Value e) true = node_reads (value_of_within c low ls e) (λ s x e l. omega arith)
  whole_within o t (tree.Value e) false = lighter (omega arith) (initialiser_within (empty_filling (Once o t ∷ [])) (tree.Value e))
  whole_within o t (tree.Listed p js comma) b = lighter (omega arith) (initialiser_within (empty_filling (Once o t ∷ [])) (tree.Listed p js comma))

  pub content_within : (p : Place) (o t : ℕ) (x : Initialiser) → Within ls (held c) (declares_in_initialiser x) (worth_of_initialiser (price c ls) x) (plan_content p o t x)
  content_within p o t x =
      asks_within (maps_stays (fewer (omega arith) (chain_within (looks_within {μ = none} {w = 0} (λ s. is_value_for s t x) (λ s e. omega arith)) (λ b l. whole_within o t x b)))
      (λ s f e l. record { grown = filled_type_grown s t f.count (shape_of s t); small = l }))
