-- Code without checks of places.
use Rattle.std.specs.Prelude.{Bool, true, false, not}
use Rattle.dae_ir.specs.Form.{Form, all_items, form_of}
use Rattle.dae_ir.specs.declared.form.Check.TheVariants.{Place}
use Rattle.dae_ir.specs.declared.form.Function.{Function}
use Rattle.dae_ir.specs.declared.form.Item.{Item}
use Rattle.dae_ir.specs.declared.form.Item.TheVariants.{Expect}

abbrev pub checks_place : Item → Bool
checks_place (Expect (Place width x)) = true
checks_place item = false

abbrev pub checks_no_place : Form → Bool
checks_no_place code = all_items (λ item. not (checks_place item)) code

abbrev pub function_checks_no_place : Function → Bool
function_checks_no_place f = checks_no_place (form_of f.body)
