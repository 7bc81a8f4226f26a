-- An item behind others, and bytes as items.
use Rattle.std.proofs.Common.{◌≡◌, ℕ, List, [], ◌∷◌, ◌++◌, refl, ap}
use Rattle.dae_program.specs.Trees as program
use Rattle.dae_program.specs.Views.{view, view_settings}
use Rattle.dae_program.specs.declared.statements.Setting.{Setting}

pub settings_push : (xs : List Setting) (x : Setting) → view_settings (xs ++ x ∷ []) ≡ view_settings xs ++ record { offset = x.offset; width = x.width; value = view x.value } ∷ []
settings_push [] x = refl
settings_push (y ∷ xs) x = ap (λ zs. record { offset = y.offset; width = y.width; value = view y.value } ∷ zs) (settings_push xs x)
