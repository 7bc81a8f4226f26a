-- Functions whose conditions are threaded, one after the other.
use Rattle.std.proofs.Common.{List, [], ◌∷◌, ◌++◌}
use Rattle.dae_ir.specs.declared.form.Function.{Function}
use Rattle.dae_threads.specs.Forms.{IsThreadedFunction, AreThreadedFunctions}

pub threaded_push : (fs gs : List Function) (f g : Function) → AreThreadedFunctions fs gs → IsThreadedFunction f g → AreThreadedFunctions (fs ++ f ∷ []) (gs ++ g ∷ [])
threaded_push [] [] f g a r = (r, tt)
threaded_push [] (y ∷ ys) f g a r = absurd a
threaded_push (x ∷ xs) [] f g a r = absurd a
threaded_push (x ∷ xs) (y ∷ ys) f g a r = (a.0, threaded_push xs ys f g a.1 r)
