use Rattle.std.proofs.Common.{Bool, List, refl, ap, sym, ◌∙◌}
use Rattle.dae_ir.specs.Form.{form_of}
use Rattle.dae_ir.specs.Scope.{never_returns}
use Rattle.dae_ir.specs.declared.form.Statement.{Statement}
use Rattle.dae_split_pair.proofs.Nested.{returns_in_if, returns_in_loop}
use Rattle.dae_split_pair.proofs.ends.+returns.Goals as goal

abbrev none_return : List Statement → Bool
none_return xs = never_returns (form_of xs)

pub statement_never_returns-returns-then-never_returns : goal.statement_never_returns-returns-then-never_returns
statement_never_returns-returns-then-never_returns t c k =
    let i = c.in-If in
    let first = c.never_returns.ensures ∙ ap none_return c.deref.ensures.value in
    let second = c.never_returns-then-never_returns.ensures ∙ ap none_return c.deref-then-never_returns.ensures.value in
    returns_in_if i.field-0 i.field-1 i.yes i.no c.args.statement.now k i.is ∙ rw (sym first, c.if-never_returns.true, sym second) refl

pub statement_never_returns-returns-else-never_returns : goal.statement_never_returns-returns-else-never_returns
statement_never_returns-returns-else-never_returns t c k =
    let i = c.in-If in
    let first = c.never_returns.ensures ∙ ap none_return c.deref.ensures.value in
    returns_in_if i.field-0 i.field-1 i.yes i.no c.args.statement.now k i.is ∙ rw (sym first, c.if-never_returns.false) refl

pub statement_never_returns-returns-then-never_returns-2 : goal.statement_never_returns-returns-then-never_returns-2
statement_never_returns-returns-then-never_returns-2 t c k =
    let i = c.in-Loop in
    let first = c.never_returns-in-Loop.ensures ∙ ap none_return c.deref-in-Loop.ensures.value in
    let second = c.never_returns-then-never_returns-2.ensures ∙ ap none_return c.deref-then-never_returns-2.ensures.value in
    returns_in_loop i.field-0 i.body i.step c.args.statement.now k i.is ∙ rw (sym first, c.if-never_returns-2.true, sym second) refl

pub statement_never_returns-returns-else-never_returns-2 : goal.statement_never_returns-returns-else-never_returns-2
statement_never_returns-returns-else-never_returns-2 t c k =
    let i = c.in-Loop in
    let first = c.never_returns-in-Loop.ensures ∙ ap none_return c.deref-in-Loop.ensures.value in
    returns_in_loop i.field-0 i.body i.step c.args.statement.now k i.is ∙ rw (sym first, c.if-never_returns-2.false) refl
