-- Code that sets no variable to itself.
use Rattle.std.specs.Prelude.{Bool, false, not}
use Rattle.dae_ir.specs.Form.{Form, all_items, form_of}
use Rattle.dae_ir.specs.declared.form.Function.{Function}
use Rattle.dae_ir.specs.declared.form.Item.{Item}
use Rattle.dae_ir.specs.declared.form.Item.TheVariants.{Assign}
use Rattle.dae_commons.specs.Sums.{is_itself}

abbrev pub is_self_set : Item → Bool
is_self_set (Assign v x) = is_itself v x
is_self_set item = false

abbrev pub has_no_self_set : Form → Bool
has_no_self_set code = all_items (λ item. not (is_self_set item)) code

abbrev pub function_has_no_self_set : Function → Bool
function_has_no_self_set f = has_no_self_set (form_of f.body)
