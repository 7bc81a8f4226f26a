use Rattle.std.proofs.Common.{◌≡◌, Bool, List, refl, ap, sym, ◌∙◌}
use Rattle.dae_ir.specs.Form.{form_of}
use Rattle.dae_ir.specs.Streams.{has_loop}
use Rattle.dae_ir.specs.declared.form.Statement.{Statement}
use Rattle.dae_split.proofs.Nested.{loop_in_if}
use Rattle.dae_split.proofs.regions.+has_loop.Goals as goal

abbrev any_loop : List Statement → Bool
any_loop xs = has_loop (form_of xs)

pub has_loop-returns-then-some_has_loop : goal.has_loop-returns-then-some_has_loop
has_loop-returns-then-some_has_loop t c k =
    let i = c.in-If in
    let first : c.some_has_loop.result ≡ has_loop (form_of i.p.items) = c.some_has_loop.ensures ∙ ap any_loop c.deref.ensures.value in
    loop_in_if i.field-0 i.field-1 i.p i.q c.args.statement.now k i.is ∙ rw (sym first, c.if-some_has_loop.true) refl

pub has_loop-returns-else-some_has_loop : goal.has_loop-returns-else-some_has_loop
has_loop-returns-else-some_has_loop t c k =
    let i = c.in-If in
    let first : c.some_has_loop.result ≡ has_loop (form_of i.p.items) = c.some_has_loop.ensures ∙ ap any_loop c.deref.ensures.value in
    let second : c.some_has_loop-else-some_has_loop.result ≡ has_loop (form_of i.q.items) = c.some_has_loop-else-some_has_loop.ensures ∙ ap any_loop c.deref-else-some_has_loop.ensures.value in
    loop_in_if i.field-0 i.field-1 i.p i.q c.args.statement.now k i.is ∙ rw (sym first, c.if-some_has_loop.false, second) refl
