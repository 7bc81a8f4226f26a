-- The plans of initialisers (C90 6.5.7). Items are given to the scalars of an aggregate in their order; inner braces may be
-- left out. What is still to be filled is a stack, its innermost part first.
use Rattle.std.specs.Prelude.{ℕ, zero, suc, ◌+◌, ◌*◌, List, [], ◌∷◌, ◌++◌, length, filter, Option, Some, None, Bool, true, false, ◌&&◌, ◌||◌, not, nat_eq, nat_lt, if◌then◌else◌, slice_get}
use Rattle.dae_base.specs.declared.Place.{Place}
use Rattle.dae_base.specs.declared.LoadKind.{LoadKind}
use Rattle.dae_base.specs.Words.{extended, width_of}
use Rattle.dae_tree.specs.Trees as tree
use Rattle.dae_tree.specs.Trees.{Expression, Initialiser, Initialisers}
use Rattle.dae_tree.specs.Depth.{place_of}
use Rattle.dae_program.specs.Trees as program
use Rattle.dae_types_kinds.specs.declared.types.Shape.{Shape}
use Rattle.dae_types_kinds.specs.declared.types.Shape.TheVariants as shape
use Rattle.dae_types_kinds.specs.declared.tables.Component.{Component}
use Rattle.dae_types_kinds.specs.Tables.{Tables}
use Rattle.dae_types_kinds.specs.Types.{int_id, shape_of, made, word_for, is_scalar, is_character, is_structure, layout_at}
use Rattle.dae_types_kinds.specs.Values.{Typed, number, load_kind, known_as, constant_tree}
use Rattle.dae_types_rules.specs.Sites.{Site, AtItem, AtScalarList, AtAggregate, AtString, AtTooMany, AtFilled}
use Rattle.dae_types_rules.specs.Plan.{CheckPlan, pure, node, chain, pardons}
use Rattle.dae_types_plans.specs.Steps.{at, does, nothing, looks}
use Rattle.dae_types_plans.specs.Expressions.{plan_value}

-- ---- what is still to be filled

-- one object of a type at an offset; the elements of an array from one on, up to its count if it has one; or the members of
-- a structure from one on
pub data Unfilled : Type 0 where
  Once : (offset type_id : ℕ) → Unfilled
  Elements : (offset element begun : ℕ) → (count : Option ℕ) → Unfilled
  Members : (offset structure begun : ℕ) → Unfilled

-- an object to be filled, and what is left behind it
pub record FillSlot : Type 0 where
  pub offset : ℕ
  pub type_id : ℕ
  pub rest : List Unfilled

abbrev pub slot : ℕ → ℕ → List Unfilled → FillSlot
slot o t rest = record { offset = o; type_id = t; rest = rest }

abbrev pub is_of : ℕ → Component → Bool
is_of structure f = nat_eq f.structure structure

abbrev pub components_of : Tables → ℕ → List Component
components_of s k = filter (is_of k) s.components

abbrev pub is_before : ℕ → Option ℕ → Bool
is_before n None = true
is_before n (Some count) = nat_lt n count

-- offsets and numbers stop at the greatest word, which is behind all that an object may have
abbrev pub behind_bytes : ℕ → ℕ → ℕ
behind_bytes o bytes = word_for (o + bytes)

-- the next element or member, or else what stands behind
abbrev pub element_slot : Tables → ℕ → ℕ → ℕ → Option ℕ → List Unfilled → Option FillSlot → Option FillSlot
element_slot s o t n count rest behind =
    if is_before n count
    then Some (slot (behind_bytes o (n * (layout_at s t).size)) t (Elements o t (word_for (suc n)) count ∷ rest))
    else behind

abbrev pub member_slot : ℕ → ℕ → ℕ → Option Component → List Unfilled → Option FillSlot → Option FillSlot
member_slot o k n None rest behind = behind
member_slot o k n (Some f) rest behind = Some (slot (behind_bytes o f.offset) f.type_id (Members o k (word_for (suc n)) ∷ rest))

abbrev pub next_slot : Tables → List Unfilled → Option FillSlot
next_slot s [] = None
next_slot s (Once o t ∷ rest) = Some (slot o t rest)
next_slot s (Elements o t n count ∷ rest) = element_slot s o t n count rest (next_slot s rest)
next_slot s (Members o k n ∷ rest) = member_slot o k n (slice_get (components_of s k) n) rest (next_slot s rest)

-- the parts of an aggregate at an offset
abbrev pub parts_of : ℕ → ℕ → Shape → Unfilled
parts_of o t (shape.Array u count) = Elements o u 0 count
parts_of o t (shape.Struct k) = Members o k 0
parts_of o t _ = Once o t

-- an array of characters (C90 6.5.7)
abbrev pub is_text_array : Tables → Shape → Bool
is_text_array s (shape.Array t count) = is_character (shape_of s t)
is_text_array s _ = false

-- down to the object that an item is for: a scalar, an array of characters for a literal, or a structure for a structure
abbrev pub or_slot : FillSlot → Option FillSlot → FillSlot
or_slot z None = z
or_slot z (Some y) = y

abbrev pub descend : ℕ → Tables → (literal structure : Bool) → FillSlot → FillSlot
descend zero s literal structure z = z
descend (suc k) s literal structure z =
    let t = shape_of s z.type_id in
    if is_scalar t || ((literal && is_text_array s t) || (structure && is_structure t)) then z
    else descend k s literal structure (or_slot z (next_slot s (parts_of z.offset z.type_id t ∷ z.rest)))

-- what is filled so far: the rest, the items, how many elements an array got that has its size from them, and whether no
-- more is said of what is too many
pub record Filling : Type 0 where
  pub rest : List Unfilled
  pub items : List program.Setting
  pub count : ℕ
  pub over : Bool

abbrev pub over : Filling → Filling
over f = record f { rest = []; over = true }

-- ---- an expression

abbrev pub literal_in : Expression → Option ℕ
literal_in (tree.Literal p n) = Some n
literal_in _ = None

abbrev pub has_literal : Option ℕ → Bool
has_literal None = false
has_literal (Some n) = true

-- where an item lands, and what is filled behind it
pub record Landing : Type 0 where
  pub filling : Filling
  pub place : Option FillSlot

abbrev pub landed_in : Filling → Option FillSlot → Landing
landed_in f None = record { filling = over f; place = None }
landed_in f (Some z) = record { filling = record f { rest = z.rest }; place = Some z }

abbrev pub lowered : Tables → Bool → Typed → Option FillSlot → Option FillSlot
lowered s literal x None = None
lowered s literal x (Some z) = Some (descend (length s.shapes) s literal (is_structure (shape_of s x.type_id)) z)

abbrev pub lands : Tables → Option ℕ → Typed → Filling → Landing
lands s n x f = landed_in f (lowered s (has_literal n) x (next_slot s f.rest))

-- what is too many is said once
abbrev pub landing_sites : Place → Filling → Option FillSlot → List Site
landing_sites p f None = if f.over then [] else AtTooMany p ∷ []
landing_sites p f (Some z) = []

abbrev pub landing_at : Place → Option ℕ → Filling → Typed → CheckPlan Landing
landing_at p n f x = node (λ s y. landing_sites p f (next_slot s f.rest)) (λ s y. (s, lands s n x f)) nothing

-- the bytes of a literal, without the zero byte at its end
abbrev pub literal_bytes : Tables → Option ℕ → List ℕ
literal_bytes s None = []
literal_bytes s (Some n) = elim (slice_get s.literals n) [ None ↦ [] | Some bytes ↦ bytes ]

abbrev pub item_sites_at : Place → Tables → Option ℕ → Typed → ℕ → Shape → List Site
item_sites_at p s n x t (shape.Array u count) = AtString p (length (literal_bytes s n)) count ∷ []
item_sites_at p s n x t (shape.Struct k) = AtAggregate p s x t ∷ []
item_sites_at p s n x t u = AtItem p s x t ∷ []

abbrev pub item_sites : Place → Tables → Option ℕ → Typed → Option FillSlot → List Site
item_sites p s n x None = []
item_sites p s n x (Some z) = item_sites_at p s n x z.type_id (shape_of s z.type_id)

abbrev pub setting : ℕ → Shape → program.Expression → program.Setting
setting o t e = record { offset = o; width = width_of (load_kind t); value = e }

-- a constant sets a scalar; what is none is refused, and sets nothing
abbrev pub constant_settings : ℕ → Shape → Option program.Expression → List program.Setting
constant_settings o t None = []
constant_settings o t (Some e) = setting o t e ∷ []

abbrev pub byte_setting : ℕ → LoadKind → ℕ → program.Setting
byte_setting o k b = record { offset = o; width = width_of k; value = program.Number (extended k b) }

abbrev pub byte_settings : ℕ → LoadKind → List ℕ → List program.Setting
byte_settings o k [] = []
byte_settings o k (b ∷ bs) = byte_setting o k b ∷ byte_settings (behind_bytes o 1) k bs

abbrev pub item_by : Tables → Option ℕ → Typed → FillSlot → Shape → Filling → Filling
item_by s n x z (shape.Array u count) f = record f { items = f.items ++ byte_settings z.offset (load_kind (shape_of s u)) (literal_bytes s n); count = word_for (suc (length (literal_bytes s n))) }
item_by s n x z (shape.Struct k) f = f
item_by s n x z t f =
    let k = known_as (shape_of s x.type_id) t x.known in
    record f { items = f.items ++ constant_settings z.offset t (constant_tree k) }

abbrev pub item_in : Tables → Option ℕ → Typed → Option FillSlot → Filling → Filling
item_in s n x None f = f
item_in s n x (Some z) f = item_by s n x z (shape_of s z.type_id) f

abbrev pub item_at : Place → Option ℕ → Typed → Landing → CheckPlan Filling
item_at p n x l = pardons l.filling (node (λ s y. item_sites p s n x l.place) (λ s y. (s, item_in s n x l.place l.filling)) nothing)

-- the value comes first, and says where it lands; a faulty one counts as 0
abbrev pub value_item : Place → Option ℕ → Filling → CheckPlan Typed → CheckPlan Filling
value_item p n f m = chain (number 0 int_id) (pardons (number 0 int_id) m) (λ x. pardons (over f) (chain (record { filling = over f; place = None }) (landing_at p n f x) (item_at p n x)))

-- ---- a list in braces

abbrev pub is_one : Initialisers → Bool
is_one (tree.initialiser_then x tree.no_initialisers) = true
is_one _ = false

abbrev pub is_literal : Initialiser → Bool
is_literal (tree.Value e) = has_literal (literal_in e)
is_literal (tree.Listed p js comma) = false

abbrev pub is_one_literal : Initialisers → Bool
is_one_literal (tree.initialiser_then x tree.no_initialisers) = is_literal x
is_one_literal _ = false

-- a list fills one object: what is in it, and what stands behind it
pub record Opening : Type 0 where
  pub inside : Filling
  pub behind : List Unfilled

abbrev pub open_with : Filling → List Unfilled → Bool → List Unfilled → Opening
open_with f rest is_over behind = record { inside = record f { rest = rest; over = is_over }; behind = behind }

abbrev pub opens_at : Tables → Filling → Initialisers → FillSlot → Shape → Opening
opens_at s f js z t =
    if is_scalar t || (is_text_array s t && is_one_literal js) then open_with f (Once z.offset z.type_id ∷ []) true z.rest
    else open_with f (parts_of z.offset z.type_id t ∷ []) false z.rest

abbrev pub opens : Tables → Filling → Initialisers → Option FillSlot → Opening
opens s f js None = open_with f [] true []
opens s f js (Some z) = opens_at s f js z (shape_of s z.type_id)

abbrev pub list_sites : Place → Tables → Filling → Initialisers → Option FillSlot → List Site
list_sites p s f js None = landing_sites p f None
list_sites p s f js (Some z) = if is_scalar (shape_of s z.type_id) && not (is_one js) then AtScalarList p ∷ [] else []

-- how many elements were begun in what the list filled
abbrev pub begun_in : List Unfilled → ℕ → ℕ
begun_in [] n = n
begun_in (Elements o t k count ∷ []) n = k
begun_in (r ∷ rest) n = begun_in rest n

-- behind the list; the flag says whether no more is said there of what is too many
abbrev pub list_ends : Bool → List Unfilled → Filling → Filling
list_ends is_over behind g = record { rest = behind; items = g.items; count = begun_in g.rest g.count; over = is_over }

abbrev pub opening_at : Place → Filling → Initialisers → CheckPlan Opening
opening_at p f js = node (λ s y. list_sites p s f js (next_slot s f.rest)) (λ s y. (s, opens s f js (next_slot s f.rest))) nothing

abbrev pub list_at : Place → Filling → Initialisers → (Filling → CheckPlan Filling) → CheckPlan Filling
list_at p f js fill =
    pardons (over f)
    (chain (open_with f [] true []) (opening_at p f js) (λ o. does (λ s g. (s, list_ends f.over o.behind g)) (fill o.inside)))

abbrev mutual
  pub plan_initialiser : Filling → Initialiser → CheckPlan Filling
  plan_initialiser f (tree.Value e) = value_item (place_of e) (literal_in e) f (plan_value e)
  plan_initialiser f (tree.Listed p js comma) = list_at p f js (λ g. plan_initialisers g js)

  pub plan_initialisers : Filling → Initialisers → CheckPlan Filling
  plan_initialisers f tree.no_initialisers = pure f
  plan_initialisers f (tree.initialiser_then x xs) = chain f (plan_initialiser f x) (λ f. plan_initialisers f xs)

-- ---- an object that must be filled with constants

abbrev pub empty_filling : List Unfilled → Filling
empty_filling rest = record { rest = rest; items = []; count = 0; over = false }

-- an initialiser that nothing needs is only looked at
abbrev pub plan_unused_initialiser : Initialiser → CheckPlan Filling
plan_unused_initialiser x = plan_initialiser (over (empty_filling [])) x

-- an expression for an aggregate
abbrev pub aggregate_at : Place → ℕ → CheckPlan Typed → CheckPlan Filling
aggregate_at p t m = at (λ s x. AtAggregate p s x t) (λ s x. (s, empty_filling [])) m

abbrev pub is_value_for : Tables → ℕ → Initialiser → Bool
is_value_for s t (tree.Value e) = not (is_scalar (shape_of s t)) && not (is_text_array s (shape_of s t) && has_literal (literal_in e))
is_value_for s t (tree.Listed p js comma) = false

abbrev pub whole_by : (offset type_id : ℕ) → Initialiser → Bool → CheckPlan Filling
whole_by o t (tree.Value e) true = aggregate_at (place_of e) t (plan_value e)
whole_by o t x _ = plan_initialiser (empty_filling (Once o t ∷ [])) x

-- the type of an array of unknown size, with the size that it got
abbrev pub filled_type : Tables → ℕ → ℕ → Shape → Tables × ℕ
filled_type s t n (shape.Array u None) = made (shape.Array u (Some n)) s
filled_type s t n _ = (s, t)

-- what an object of a type holds, and its type
pub record Content : Type 0 where
  pub items : List program.Setting
  pub type_id : ℕ

abbrev pub content_of : Filling → Tables × ℕ → Tables × Content
content_of f x = (x.0, record { items = f.items; type_id = x.1 })

abbrev pub filled_at : Place → CheckPlan Content → CheckPlan Content
filled_at p m = at (λ s x. AtFilled p s x.type_id) (λ s x. (s, x)) m

-- what an object of this type, declared at this place, holds when it is filled
abbrev pub content_at : Place → ℕ → CheckPlan Filling → CheckPlan Content
content_at p t m = filled_at p (does (λ s f. content_of f (filled_type s t f.count (shape_of s t))) m)

-- the whole initialiser of an object of this type that is declared at this place: its items have offsets from where the object
-- stands, which is at this offset
abbrev pub plan_content : Place → (offset type_id : ℕ) → Initialiser → CheckPlan Content
plan_content p o t x = content_at p t (chain false (looks (λ s. is_value_for s t x)) (whole_by o t x))
