use Rattle.dae_compile_laws.proofs.Going.{forms_go_on_in_time}
use Rattle.dae_compile_laws.proofs.forms_go_on_in_time.Goals as goal

pub returns : goal.returns
returns c = forms_go_on_in_time c.lawful_keep_rules.ensures c.turns_in_order.ensures c.form_keeps.ensures c.forms_scoped.ensures c.order_is_a_run.ensures
