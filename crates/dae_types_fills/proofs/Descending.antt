-- One step down to the object that an item is for.
use Rattle.std.proofs.Common.{arith, ◌≡◌, ◌<◌, ◌-◌, ◌&&◌, ◌||◌, ℕ, zero, suc, Bool, false, Result, Ok, Err, ◌∷◌, ap, sym, subst, ◌∙◌}
use Rattle.std.specs.Prelude.{if◌then◌else◌}
use Rattle.dae_types_kinds.specs.declared.rules.Breach.{Breach}
use Rattle.dae_types_kinds.specs.declared.types.Shape.{Shape}
use Rattle.dae_types_kinds.specs.Tables.{Tables}
use Rattle.dae_types_kinds.specs.Types.{is_scalar, is_structure, shape_of}
use Rattle.dae_types_file_plans.specs.Initialisers.{FillSlot, descend, is_text_array, next_slot, or_slot, parts_of}

abbrev IsFor : Tables → (literal structure : Bool) → Shape → Bool
IsFor s literal structure t = is_scalar t || ((literal && is_text_array s t) || (structure && is_structure t))

abbrev next_of : Tables → FillSlot → Shape → FillSlot
next_of s z t = or_slot z (next_slot s (parts_of z.offset z.type_id t ∷ z.rest))

lower : (k : ℕ) (s : Tables) (literal structure : Bool) (z next answer : FillSlot) → IsFor s literal structure (shape_of s z.type_id) ≡ false → next_of s z (shape_of s z.type_id) ≡ next → descend (suc k) s literal structure z ≡ answer → descend k s literal structure next ≡ answer
lower k s literal structure z next answer other is before =
    sym (ap (λ (w : FillSlot). descend k s literal structure w) is)
    ∙ sym (ap (λ (b : Bool). if b then z else descend k s literal structure (next_of s z (shape_of s z.type_id))) other)
    ∙ before

abbrev slot_in : FillSlot → Result FillSlot Breach → FillSlot
slot_in z (Ok w) = w
slot_in z (Err e) = z

-- an object is the answer of a call that doesn't fail
abbrev IsGiven : FillSlot → FillSlot → Type 0
IsGiven z next = (let answer : Result FillSlot Breach = Ok z in answer ≡ Ok next)

-- an object of a shape of which an item is for a part, and what is next
pub one_lower : (k : ℕ) (s : Tables) (literal structure : Bool) (t : Shape) (z next answer : FillSlot) → 0 < k → t ≡ shape_of s z.type_id → IsFor s literal structure t ≡ false → IsGiven (next_of s z t) next → descend k s literal structure z ≡ answer → descend (k - 1) s literal structure next ≡ answer
one_lower zero s literal structure t z next answer h same other is before = absurd (omega (arith, h))
one_lower (suc k) s literal structure t z next answer h same other is before =
    let e : suc k - 1 ≡ k = omega arith in
    rw e (lower k s literal structure z next answer
    (subst (λ (u : Shape). IsFor s literal structure u ≡ false) same other)
    (subst (λ (u : Shape). next_of s z u ≡ next) same (ap (slot_in z) is))
    before)
