use Rattle.std.proofs.Common.{List, ap, sym, ◌∙◌}
use Rattle.dae_ir.specs.Form.{form_of}
use Rattle.dae_ir.specs.declared.form.Statement.{Statement}
use Rattle.dae_elide.specs.Checking.{checks_no_place}
use Rattle.dae_elide.proofs.Unchecked.{kept_function}
use Rattle.dae_elide.proofs.whole.elide_where_checked.Goals as goal

pub returns-then-checks_no_place : goal.returns-then-checks_no_place
returns-then-checks_no_place c =
    kept_function c.args.memory c.args.function
    (sym (c.checks_no_place.ensures ∙ ap (λ (xs : List Statement). checks_no_place (form_of xs)) c.as_slice.ensures) ∙ c.if-checks_no_place.true)
