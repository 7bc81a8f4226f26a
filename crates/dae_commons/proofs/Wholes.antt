-- Functions are added one after the other, each by its row of the tables.
use Rattle.std.proofs.Common.{◌≡◌, List, [], ◌∷◌, ◌++◌, length, sym, ◌∙◌, subst}
use Rattle.std.specs.Prelude.{slice_get}
use Rattle.dae_ir.specs.Classes.{classes_in, row_of, rows_behind}
use Rattle.dae_ir.proofs.Laws.{row_behind}
use Rattle.dae_ir.specs.declared.form.Function.{Function}
use Rattle.dae_ir.specs.declared.stream.Class.{Class}
use Rattle.dae_commons.specs.Forms.{IsCommonedFunction, AreCommonedFunctions}

pushed : (tables : List (List Class)) (fs gs : List Function) (f g : Function) (row : List Class) → AreCommonedFunctions tables fs gs
    → row ≡ row_of (slice_get tables (length gs)) → IsCommonedFunction (classes_in row) f g → AreCommonedFunctions tables (fs ++ f ∷ []) (gs ++ g ∷ [])
pushed tables [] [] f g row all is h = (subst (λ (r : List Class). IsCommonedFunction (classes_in r) f g) is h, tt)
pushed tables [] (y ∷ ys) f g row all is h = absurd all
pushed tables (x ∷ xs) [] f g row all is h = absurd all
pushed tables (x ∷ xs) (y ∷ ys) f g row all is h = (all.0, pushed (rows_behind tables) xs ys f g row all.1 (is ∙ row_behind tables (length ys)) h)

pub commoned_push : (tables : List (List Class)) (fs gs gs' : List Function) (f g : Function) (row : List Class) → AreCommonedFunctions tables fs gs
    → row ≡ row_of (slice_get tables (length gs)) → IsCommonedFunction (classes_in row) f g → gs' ≡ gs ++ g ∷ [] → AreCommonedFunctions tables (fs ++ f ∷ []) gs'
commoned_push tables fs gs gs' f g row all is h longer = subst (λ (hs : List Function). AreCommonedFunctions tables (fs ++ f ∷ []) hs) (sym longer) (pushed tables fs gs f g row all is h)
