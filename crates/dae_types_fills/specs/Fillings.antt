-- What is filled so far, in memory, as plain data.
use Rattle.std.specs.Prelude.{ℕ, List, [], ◌∷◌, ◌++◌, Option, Some, None, suc, length}
use Rattle.dae_base.specs.declared.LoadKind.{LoadKind}
use Rattle.dae_program.specs.Trees.{Expression, Setting}
use Rattle.dae_program.specs.Views.{view, view_settings}
use Rattle.dae_program.specs.declared.expressions.Expression.{Expression as ExpressionInMemory}
use Rattle.dae_program.specs.declared.statements.Setting.{Setting as SettingInMemory}
use Rattle.dae_types_kinds.specs.Tables.{Tables}
use Rattle.dae_types_kinds.specs.Types.{shape_of, word_for}
use Rattle.dae_types_kinds.specs.Values.{Typed, load_kind, known_as, constant_tree}
use Rattle.dae_types_kinds.specs.declared.types.Shape.{Shape}
use Rattle.dae_base.specs.declared.Place.{Place}
use Rattle.dae_types_rules.specs.Sites.{AtAggregate, AtItem, AtString}
use Rattle.dae_types_rules.specs.Plan.{CheckPlan}
use Rattle.dae_types_plans.specs.Steps.{at, nothing}
use Rattle.dae_types_file_plans.specs.Initialisers.{Unfilled, FillSlot, slot, Filling, Landing, Opening, Content, literal_bytes, byte_settings, constant_settings}
use Rattle.dae_types_fills.specs.declared.filling.Filling.{Filling as FillingInMemory}
use Rattle.dae_types_fills.specs.declared.filling.Destination.{Destination}
use Rattle.dae_types_fills.specs.declared.filling.Landing.{Landing as LandingInMemory}
use Rattle.dae_types_fills.specs.declared.lists.Opening.{Opening as OpeningInMemory}
use Rattle.dae_types_fills.specs.declared.lists.Content.{Content as ContentInMemory}
use Rattle.dae_types_fills.specs.Slots.{view_stack}

-- the tree of a constant, if there is one
abbrev pub view_constant : Option ExpressionInMemory → Option Expression
view_constant None = None
view_constant (Some e) = Some (view e)

abbrev pub view_setting : SettingInMemory → Setting
view_setting item = record { offset = item.offset; width = item.width; value = view item.value }

abbrev pub view_filling : FillingInMemory → Filling
view_filling f = record { rest = view_stack f.rest.items; items = view_settings f.items.items; count = f.count; over = f.over }

-- where an item lands, with what is left behind
abbrev pub view_destination : List Unfilled → Option Destination → Option FillSlot
view_destination rest None = None
view_destination rest (Some z) = Some (slot z.offset z.type_id rest)

abbrev pub view_landing : LandingInMemory → Landing
view_landing l = record { filling = view_filling l.filling; place = view_destination (view_stack l.filling.rest.items) l.destination }

abbrev pub view_opening : OpeningInMemory → Opening
view_opening o = record { inside = view_filling o.inside; behind = view_stack o.behind.items }

abbrev pub view_content : ContentInMemory → Content
view_content x = record { items = view_settings x.items.items; type_id = x.type_id }

-- an item with these settings more
abbrev pub with_settings : Filling → List Setting → ℕ → Filling
with_settings f xs count = record { rest = f.rest; items = f.items ++ xs; count = count; over = f.over }

-- ---- an item by what it is for

-- the bytes of a literal for an array of characters, from an offset on
abbrev pub text_item : Place → Option ℕ → (offset element : ℕ) → Option ℕ → Filling → CheckPlan Filling
text_item p n o u count f =
    at
    (λ s x. AtString p (length (literal_bytes s n)) count)
    (λ s x. (s, with_settings f (byte_settings o (load_kind (shape_of s u)) (literal_bytes s n)) (word_for (suc (length (literal_bytes s n))))))
    nothing

-- a value for a structure is never taken
abbrev pub structure_item : Place → Typed → ℕ → Filling → CheckPlan Filling
structure_item p x t f = at (λ s y. AtAggregate p s x t) (λ s y. (s, f)) nothing

-- a constant for a scalar
abbrev pub scalar_item : Place → Typed → (offset type_id : ℕ) → Filling → CheckPlan Filling
scalar_item p x o t f =
    at
    (λ s y. AtItem p s x t)
    (λ s y. (s, with_settings f (constant_settings o (shape_of s t) (constant_tree (known_as (shape_of s x.type_id) (shape_of s t) x.known))) f.count))
    nothing
