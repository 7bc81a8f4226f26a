-- The access of an instruction, field by field, and the side to which it belongs.
use Rattle.std.proofs.Common.{◌≡◌, ◌≢◌, ℕ, ◌<◌, ◌≤◌, Bool, true, false, if◌then◌else◌, ◌==◌, nat_lt, IfSome, List, [], ◌∷◌, map, Option, Some, None, refl, sym, ap, ◌∙◌, inl, inr, arith, nat_le, subst, ◌^◌}
use Rattle.std.proofs.lemmas.Bool.{ltb-true, ltb-false}
use Rattle.std.proofs.lemmas.Bool.Decides.{leb_tells}
use Rattle.std.specs.List.{filter}
use Rattle.std.proofs.lemmas.Grind.{common_steps}
use Rattle.std.proofs.lemmas.Option.{gets}
use Rattle.dae_base.specs.declared.Side.{Side}
use Rattle.dae_base.specs.declared.Side.TheVariants.{A, E}
use Rattle.dae_encode.specs.declared.QueueUse.{QueueUse}
use Rattle.dae_base.specs.declared.Queue.TheVariants.{Ld, Al, Sd, Ab, Eb, Cq}
use Rattle.dae_base.specs.declared.Width.{Width}
use Rattle.dae_base.specs.declared.LoadKind.{LoadKind}
use Rattle.dae_encode.specs.declared.QueueUse.TheVariants.{Nothing, Take, Push, Load, StoreAddress}
use Rattle.dae_encode.specs.declared.InstructionForm.{InstructionForm}
use Rattle.dae_encode.specs.declared.InstructionForm.TheVariants.{Computes, Loads, Stores, Calls}
use Rattle.dae_encode.specs.Uses.{RegisterField, Target, LoadTarget, Source, Stored, register, access, accesses, sole, queue_use, field_use, use_of_both, belongs}
use Rattle.dae_encode.specs.Instructions.{flag}

-- the access of one field, register by register, as the code finds it
abbrev pub as_source : Bool → Side → ℕ → Option QueueUse
as_source copies A r =
    if nat_lt r 28 then Some Nothing
    else (if r == 29 then Some (Take Eb)
    else (if r == 31 then Some (Take Al) else None))
as_source copies E r =
    if nat_lt r 28 then Some Nothing
    else (if r == 28 then (if copies then Some (Take Cq) else None)
    else (if r == 29 then Some (Take Ab)
    else (if r == 30 then Some (Take Ld) else None)))

abbrev pub as_target : Bool → Side → ℕ → Option QueueUse
as_target copies A r =
    if nat_lt r 28 then Some Nothing
    else (if r == 28 then (if copies then Some (Push Cq) else None)
    else (if r == 29 then Some (Push Ab) else None))
as_target copies E r =
    if nat_lt r 28 then Some Nothing
    else (if r == 29 then Some (Push Eb)
    else (if r == 30 then Some (Push Sd) else None))

-- the target of a load, and what a store stores
abbrev pub as_loaded : Bool → Side → LoadKind → ℕ → Option QueueUse
as_loaded copies A kind r =
    if r == 30 then Some (Load Ld kind)
    else (if r == 31 then Some (Load Al kind) else as_target copies A r)
as_loaded copies E kind r = as_target copies E r

abbrev pub as_stored : Bool → Side → Width → ℕ → Option QueueUse
as_stored copies A width r = if r == 30 then Some (StoreAddress width) else as_source copies A r
as_stored copies E width r = as_source copies E r

-- what a field has by its own rule
abbrev use_of : Bool → Side → RegisterField → Option QueueUse
use_of copies side (Target r) = as_target copies side r
use_of copies side (LoadTarget kind r) = as_loaded copies side kind r
use_of copies side (Source r) = as_source copies side r
use_of copies side (Stored width r) = as_stored copies side width r

plain : (copies : Bool) (side : Side) (f : RegisterField) → register f < 28 → use_of copies side f ≡ Some Nothing
plain copies A (Target r) h = grind arith
plain copies A (LoadTarget kind r) h = grind arith
plain copies A (Source r) h = grind arith
plain copies A (Stored width r) h = grind arith
plain copies E (Target r) h = grind arith
plain copies E (LoadTarget kind r) h = grind arith
plain copies E (Source r) h = grind arith
plain copies E (Stored width r) h = grind arith

at_queue : (copies : Bool) (side : Side) (f : RegisterField) → 28 ≤ register f → (use_of copies side f ≡ access copies side f) × (access copies side f ≢ Some Nothing)
at_queue copies A (Target r) h = grind (arith, common_steps, gets)
at_queue copies A (LoadTarget kind r) h = grind (arith, common_steps, gets)
at_queue copies A (Source r) h = grind (arith, common_steps, gets)
at_queue copies A (Stored width r) h = grind (arith, common_steps, gets)
at_queue copies E (Target r) h = grind (arith, common_steps, gets)
at_queue copies E (LoadTarget kind r) h = grind (arith, common_steps, gets)
at_queue copies E (Source r) h = grind (arith, common_steps, gets)
at_queue copies E (Stored width r) h = grind (arith, common_steps, gets)

use_is : (copies : Bool) (side : Side) (f : RegisterField) → use_of copies side f ≡ field_use copies side f
use_is copies side f = by (nat_lt (register f) 28) refl where
  by : (b : Bool) → nat_lt (register f) 28 ≡ b → use_of copies side f ≡ (if b then Some Nothing else access copies side f)
  by true e = plain copies side f (ltb-true (register f) 28 e)
  by false e = (at_queue copies side f (ltb-false (register f) 28 e)).0

-- what a source, a target, a load's target and a stored register are
pub source_is : (copies : Bool) (side : Side) (r : ℕ) → field_use copies side (Source r) ≡ as_source copies side r
source_is copies side r = sym (use_is copies side (Source r))

pub target_is : (copies : Bool) (side : Side) (r : ℕ) → field_use copies side (Target r) ≡ as_target copies side r
target_is copies side r = sym (use_is copies side (Target r))

abbrev pub loaded_by : Bool → Side → LoadKind → ℕ → Option QueueUse
loaded_by copies A kind r = if r == 30 then Some (Load Ld kind) else (if r == 31 then Some (Load Al kind) else field_use copies A (Target r))
loaded_by copies E kind r = field_use copies E (Target r)

pub loaded_is : (copies : Bool) (side : Side) (kind : LoadKind) (r : ℕ) → field_use copies side (LoadTarget kind r) ≡ loaded_by copies side kind r
loaded_is copies A kind r = rw (target_is copies A r) (sym (use_is copies A (LoadTarget kind r)))
loaded_is copies E kind r = refl

abbrev pub stored_by : Bool → Side → Width → ℕ → Option QueueUse
stored_by copies A width r = if r == 30 then Some (StoreAddress width) else field_use copies A (Source r)
stored_by copies E width r = field_use copies E (Source r)

pub stored_is : (copies : Bool) (side : Side) (width : Width) (r : ℕ) → field_use copies side (Stored width r) ≡ stored_by copies side width r
stored_is copies A width r = rw (source_is copies A r) (sym (use_is copies A (Stored width r)))
stored_is copies E width r = refl

same_two : {x x' y y' : Option QueueUse} → x ≡ x' → y ≡ y' → use_of_both x y ≡ use_of_both x' y'
same_two h k = rw (h, k) refl

two : (x y : Option QueueUse) → x ≢ Some Nothing → y ≢ Some Nothing → use_of_both x y ≡ None
two (Some Nothing) y a b = absurd (a refl)
two x (Some Nothing) a b = absurd (b refl)
two x y a b = refl

with_nothing : (x : Option QueueUse) → use_of_both x (Some Nothing) ≡ x
with_nothing (Some Nothing) = refl
with_nothing x = refl

none_after : (x : Option QueueUse) → x ≢ Some Nothing → use_of_both x None ≡ None
none_after (Some Nothing) a = absurd (a refl)
none_after x a = refl

-- what a list of fields asks for
abbrev asked : Bool → Side → List RegisterField → List (Option QueueUse)
asked copies side fs = map (access copies side) (filter (λ f. nat_le 28 (register f)) fs)

abbrev Clean : List (Option QueueUse) → Type 0
Clean [] = Unit {0}
Clean (o ∷ os) = (o ≢ Some Nothing) × Clean os

clean : (copies : Bool) (side : Side) (fs : List RegisterField) → Clean (asked copies side fs)
clean copies side [] = tt
clean copies side (f ∷ fs) = elim (leb_tells 28 (register f)) [
  | inl (e, h) ↦ rw e ((at_queue copies side f h).1, clean copies side fs)
  | inr (e, h) ↦ rw e (clean copies side fs)
]

one_more : (x : Option QueueUse) (os : List (Option QueueUse)) → x ≢ Some Nothing → Clean os → use_of_both x (sole os) ≡ sole (x ∷ os)
one_more x [] a c = with_nothing x
one_more x (o ∷ []) a c = two x o a (c.0)
one_more x (o ∷ (p ∷ os)) a c = none_after x a

add : (copies : Bool) (side : Side) (f : RegisterField) (fs : List RegisterField) → use_of_both (use_of copies side f) (sole (asked copies side fs)) ≡ sole (asked copies side (f ∷ fs))
add copies side f fs = elim (leb_tells 28 (register f)) [
  | inl (e, h) ↦ let q = at_queue copies side f h in rw (e, q.0) (one_more (access copies side f) (asked copies side fs) (q.1) (clean copies side fs))
  | inr (e, h) ↦ rw (e, plain copies side f h) refl
]

-- two fields, and three
pair : (copies : Bool) (side : Side) (f g : RegisterField) → use_of_both (use_of copies side f) (use_of copies side g) ≡ sole (asked copies side (f ∷ (g ∷ [])))
pair copies side f g = ap (use_of_both (use_of copies side f)) (sym (with_nothing (use_of copies side g)) ∙ add copies side g []) ∙ add copies side f (g ∷ [])

three : (copies : Bool) (side : Side) (f g h : RegisterField) → use_of_both (use_of copies side f) (use_of_both (use_of copies side g) (use_of copies side h)) ≡ sole (asked copies side (f ∷ (g ∷ (h ∷ []))))
three copies side f g h = ap (use_of_both (use_of copies side f)) (pair copies side g h) ∙ add copies side f (g ∷ (h ∷ []))

-- what the fields of each form make together
pub use_computes : (copies : Bool) (side : Side) (rd first second : ℕ) → queue_use copies side (Computes rd first second) ≡ use_of_both (field_use copies side (Target rd)) (use_of_both (field_use copies side (Source first)) (field_use copies side (Source second)))
unfolding queue_use
use_computes copies side rd first second =
    sym (three copies side (Target rd) (Source first) (Source second))
    ∙ same_two (use_is copies side (Target rd)) (same_two (use_is copies side (Source first)) (use_is copies side (Source second)))

pub use_loads : (copies : Bool) (side : Side) (kind : LoadKind) (rd base offset : ℕ) → queue_use copies side (Loads kind rd base offset) ≡ use_of_both (field_use copies side (LoadTarget kind rd)) (field_use copies side (Source base))
unfolding queue_use
use_loads copies side kind rd base offset = sym (pair copies side (LoadTarget kind rd) (Source base)) ∙ same_two (use_is copies side (LoadTarget kind rd)) (use_is copies side (Source base))

pub use_stores : (copies : Bool) (side : Side) (width : Width) (base source offset : ℕ) → queue_use copies side (Stores width base source offset) ≡ use_of_both (field_use copies side (Source base)) (field_use copies side (Stored width source))
unfolding queue_use
use_stores copies side width base source offset = sym (pair copies side (Source base) (Stored width source)) ∙ same_two (use_is copies side (Source base)) (use_is copies side (Stored width source))

pub use_calls : (copies : Bool) (side : Side) → queue_use copies side Calls ≡ Some Nothing
unfolding queue_use
use_calls copies side = refl

-- ---- the side

abbrev IsOwn : Side → Option QueueUse → Type 0
IsOwn side o = IfSome o (λ (u : QueueUse). belongs side u ≡ true)

if_own : (side : Side) (b : Bool) (x y : Option QueueUse) → IsOwn side x → IsOwn side y → IsOwn side (if b then x else y)
if_own side true x y h k = h
if_own side false x y h k = k

own_source : (copies : Bool) (side : Side) (r : ℕ) → IsOwn side (as_source copies side r)
own_source copies A r = if_own A (nat_lt r 28) _ _ refl (if_own A (r == 29) _ _ refl (if_own A (r == 31) _ _ refl tt))
own_source copies E r =
    if_own E (nat_lt r 28) _ _ refl (if_own E (r == 28) _ _ (if_own E copies _ _ refl tt) (if_own E (r == 29) _ _ refl (if_own E (r == 30) _ _ refl tt)))

own_target : (copies : Bool) (side : Side) (r : ℕ) → IsOwn side (as_target copies side r)
own_target copies A r =
    if_own A (nat_lt r 28) _ _ refl (if_own A (r == 28) _ _ (if_own A copies _ _ refl tt) (if_own A (r == 29) _ _ refl tt))
own_target copies E r = if_own E (nat_lt r 28) _ _ refl (if_own E (r == 29) _ _ refl (if_own E (r == 30) _ _ refl tt))

own_field : (copies : Bool) (side : Side) (f : RegisterField) → IsOwn side (use_of copies side f)
own_field copies side (Target r) = own_target copies side r
own_field copies A (LoadTarget kind r) = if_own A (r == 30) _ _ refl (if_own A (r == 31) _ _ refl (own_target copies A r))
own_field copies E (LoadTarget kind r) = own_target copies E r
own_field copies side (Source r) = own_source copies side r
own_field copies A (Stored width r) = if_own A (r == 30) _ _ refl (own_source copies A r)
own_field copies E (Stored width r) = own_source copies E r

own_joined : (side : Side) (x y : Option QueueUse) → IsOwn side x → IsOwn side y → IsOwn side (use_of_both x y)
own_joined side (Some Nothing) y h k = k
own_joined side x (Some Nothing) h k = h
own_joined side x y h k = tt

-- the access of an instruction belongs to the side
pub own_use : (copies : Bool) (side : Side) (f : InstructionForm) → IfSome (queue_use copies side f) (λ (u : QueueUse). belongs side u ≡ true)
unfolding queue_use
own_use copies side (Computes rd first second) =
    subst (λ (o : Option QueueUse). IsOwn side o) (three copies side (Target rd) (Source first) (Source second))
    (own_joined side _ _ (own_field copies side (Target rd)) (own_joined side _ _ (own_field copies side (Source first)) (own_field copies side (Source second))))
own_use copies side (Loads kind rd base offset) =
    subst (λ (o : Option QueueUse). IsOwn side o) (pair copies side (LoadTarget kind rd) (Source base)) (own_joined side _ _ (own_field copies side (LoadTarget kind rd)) (own_field copies side (Source base)))
own_use copies side (Stores width base source offset) =
    subst (λ (o : Option QueueUse). IsOwn side o) (pair copies side (Source base) (Stored width source)) (own_joined side _ _ (own_field copies side (Source base)) (own_field copies side (Stored width source)))
own_use copies side Calls = refl

pub flag_small : (b : Bool) → flag b < 2 ^ 32
flag_small true = omega arith
flag_small false = omega arith
