-- Whole functions in which variables hold values for loops, added one after the other.
use Rattle.std.proofs.Common.{◌≡◌, ℕ, ◌≤◌, true, List, [], ◌∷◌, ◌++◌, length, refl, ap, sym, ◌∙◌, subst, arith}
use Rattle.std.specs.Prelude.{slice_get}
use Rattle.dae_ir.specs.Form.{form_of}
use Rattle.dae_ir.specs.Classes.{row_of, rows_behind}
use Rattle.dae_ir.proofs.Laws.{row_behind}
use Rattle.dae_ir.specs.declared.form.Function.{Function}
use Rattle.dae_ir.specs.declared.form.Statement.{Statement}
use Rattle.dae_ir.specs.declared.stream.Class.{Class}
use Rattle.dae_hoist.specs.Kept.{IsKept, is_kept}
use Rattle.dae_hoist.specs.Planned.{IsHoistedList, hoisting_of}
use Rattle.dae_hoist.specs.Forms.{IsHoistedFunction, IsHoistedOrSame, addresses_in, AreHoistedFunctions, with_statements}
use Rattle.dae_hoist.specs.declared.plan.HoistPlan.{HoistPlan}

-- ---- a function

pub body_hoisted : (f : Function) (plan : HoistPlan) (ss body : List Statement) (row new_row : List Class) (start now : List ℕ)
    → plan.parameters ≡ f.parameters → plan.variables ≡ f.variables → (let r = plan.row in r.items) ≡ row → ((v : ℕ) → v ≤ plan.parameters → is_kept (hoisting_of plan) v ≡ true) → start ≡ []
    → IsHoistedList (hoisting_of plan) f.body start now ss → body ≡ ss → new_row ≡ (let r = plan.new_row in r.items) → IsHoistedFunction (addresses_in row) (addresses_in new_row) f (with_statements f body)
body_hoisted f plan ss body row new_row start now parameters variables same first begins h is made = record {
  hoisting = hoisting_of plan;
  of_parameters = parameters;
  of_variables = variables;
  of_sets = ap (λ (r : List Class). addresses_in r) same;
  of_new_sets = ap (λ (r : List Class). addresses_in r) (sym made);
  name = refl;
  parameters = refl;
  variables = refl;
  frame = refl;
  first = λ v l. first v (omega (arith, l, parameters));
  kept = subst (λ (us : List ℕ). IsKept (hoisting_of plan) us (form_of f.body)) begins h.kept;
  body = ap (λ (xs : List Statement). form_of xs) is ∙ h.code;
}

-- ---- all functions

hoisted_behind : (tables rows : List (List Class)) (fs gs : List Function) (f g : Function) (row new_row : List Class) → AreHoistedFunctions tables rows fs gs
    → row ≡ row_of (slice_get tables (length gs)) → IsHoistedOrSame (addresses_in row) (addresses_in new_row) f g → AreHoistedFunctions tables (rows ++ new_row ∷ []) (fs ++ f ∷ []) (gs ++ g ∷ [])
hoisted_behind tables [] [] [] f g row new_row all is h = (subst (λ (r : List Class). IsHoistedOrSame (addresses_in r) (addresses_in new_row) f g) is h, tt)
hoisted_behind tables [] [] (y ∷ ys) f g row new_row all is h = absurd all
hoisted_behind tables [] (x ∷ xs) ys f g row new_row all is h = absurd all
hoisted_behind tables (r ∷ rows) [] ys f g row new_row all is h = absurd all
hoisted_behind tables (r ∷ rows) (x ∷ xs) [] f g row new_row all is h = absurd all
hoisted_behind tables (r ∷ rows) (x ∷ xs) (y ∷ ys) f g row new_row all is h =
    (all.0, hoisted_behind (rows_behind tables) rows xs ys f g row new_row all.1 (is ∙ row_behind tables (length ys)) h)

pub hoisted_push : (tables rows rows' : List (List Class)) (fs gs gs' : List Function) (f g : Function) (row new_row : List Class) → AreHoistedFunctions tables rows fs gs
    → row ≡ row_of (slice_get tables (length gs)) → IsHoistedOrSame (addresses_in row) (addresses_in new_row) f g → rows' ≡ rows ++ new_row ∷ [] → gs' ≡ gs ++ g ∷ []
    → AreHoistedFunctions tables rows' (fs ++ f ∷ []) gs'
hoisted_push tables rows rows' fs gs gs' f g row new_row all is h longer more =
    subst (λ (rs : List (List Class)). AreHoistedFunctions tables rs (fs ++ f ∷ []) gs') (sym longer)
    (subst (λ (hs : List Function). AreHoistedFunctions tables (rows ++ new_row ∷ []) (fs ++ f ∷ []) hs) (sym more) (hoisted_behind tables rows fs gs f g row new_row all is h))
