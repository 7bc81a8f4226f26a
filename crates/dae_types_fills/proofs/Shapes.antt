-- An item for what is neither an array nor a structure is one for a scalar.
use Rattle.std.proofs.Common.{◌≡◌, ℕ, List, [], ◌∷◌, Option, Some, None, Result, Ok, refl, sym, subst}
use Rattle.dae_base.specs.declared.Place.{Place}
use Rattle.dae_types_kinds.specs.declared.rules.CheckError.{CheckError}
use Rattle.dae_types_kinds.specs.declared.types.Shape.{Shape}
use Rattle.dae_types_kinds.specs.declared.types.Shape.TheVariants as shape
use Rattle.dae_types_kinds.specs.Tables.{Tables}
use Rattle.dae_types_kinds.specs.Types.{shape_of}
use Rattle.dae_types_kinds.specs.Values.{Typed, known_as, constant_tree}
use Rattle.dae_types_rules.specs.Sites.{AtItem}
use Rattle.dae_types_rules.specs.Plan.{Gives, ask_all}
use Rattle.dae_types_file_plans.specs.Initialisers.{Unfilled, Filling, slot, item_at, item_by, item_sites_at, constant_settings}
use Rattle.dae_types_tables.specs.declared.checker.Checker.{Checker}
use Rattle.dae_types_tables.specs.Seen.{tables, FollowsBy}
use Rattle.dae_types_fills.specs.declared.filling.Filling.{Filling as FillingInMemory}
use Rattle.dae_types_fills.specs.declared.filling.Destination.{Destination}
use Rattle.dae_types_fills.specs.Fillings.{view_filling, view_destination, scalar_item, with_settings}

-- an item for an object of this shape
abbrev Fills : Checker → Result FillingInMemory CheckError → Place → Option ℕ → Typed → Destination → List Unfilled → Filling → Shape → Type 0
Fills c r p n x z rest f t = Gives {Y = Tables × Filling} (λ y. (tables c, view_filling y)) r (ask_all (item_sites_at p (tables c) n x z.type_id t) (Ok (tables c, item_by (tables c) n x (slot z.offset z.type_id rest) t f)))

-- The same for a scalar of this shape.
abbrev SetsScalar : Checker → Result FillingInMemory CheckError → Place → Typed → Destination → Filling → Shape → Type 0
SetsScalar c r p x z f t =
    let k = constant_tree (known_as (shape_of (tables c) x.type_id) t x.known) in
    Gives {Y = Tables × Filling} (λ y. (tables c, view_filling y)) r (ask_all (AtItem p (tables c) x z.type_id ∷ []) (Ok (tables c, with_settings f (constant_settings z.offset t k) f.count)))

by_shape : (c : Checker) (r : Result FillingInMemory CheckError) (p : Place) (n : Option ℕ) (x : Typed) (z : Destination) (rest : List Unfilled) (f : Filling) (t : Shape) → ((u : ℕ) (k : Option ℕ) → t ≡ shape.Array u k → ⊥) → ((k : ℕ) → t ≡ shape.Struct k → ⊥) → SetsScalar c r p x z f t → Fills c r p n x z rest f t
by_shape c r p n x z rest f (shape.Array u k) array structure h = absurd (array u k refl)
by_shape c r p n x z rest f (shape.Struct k) array structure h = absurd (structure k refl)
by_shape c r p n x z rest f shape.Void array structure h = h
by_shape c r p n x z rest f shape.Char array structure h = h
by_shape c r p n x z rest f shape.SignedChar array structure h = h
by_shape c r p n x z rest f shape.UnsignedChar array structure h = h
by_shape c r p n x z rest f shape.Short array structure h = h
by_shape c r p n x z rest f shape.UnsignedShort array structure h = h
by_shape c r p n x z rest f shape.Int array structure h = h
by_shape c r p n x z rest f shape.Unsigned array structure h = h
by_shape c r p n x z rest f (shape.Pointer u) array structure h = h
by_shape c r p n x z rest f (shape.Function u k) array structure h = h
by_shape c r p n x z rest f shape.NoParameters array structure h = h
by_shape c r p n x z rest f (shape.Parameter u k) array structure h = h

pub scalar_is_filled : (c : Checker) (r : Result FillingInMemory CheckError) (p : Place) (n : Option ℕ) (x : Typed) (z : Destination) (d : Option Destination) (rest : List Unfilled) (f : Filling) (t : Shape) → ((u : ℕ) (k : Option ℕ) → t ≡ shape.Array u k → ⊥) → ((k : ℕ) → t ≡ shape.Struct k → ⊥) → t ≡ shape_of (tables c) z.type_id → d ≡ Some z → FollowsBy view_filling c r (scalar_item p x z.offset z.type_id f) c → FollowsBy view_filling c r (item_at p n x (record { filling = f; place = view_destination rest d })) c
scalar_is_filled c r p n x z d rest f t array structure is lands h =
    subst (λ e. FollowsBy view_filling c r (item_at p n x (record { filling = f; place = view_destination rest e })) c) (sym lands) (subst (Fills c r p n x z rest f) is (by_shape c r p n x z rest f t array structure (subst (SetsScalar c r p x z f) (sym is) h)))
