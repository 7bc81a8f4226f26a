use Rattle.std.proofs.Common.{◌<◌, ℕ, List, length, sym, subst, arith}
use Rattle.std.proofs.lemmas.Bool.Decides.{nat_tests}
use Rattle.dae_ir.specs.Code.{Done, Do}
use Rattle.dae_ir.specs.Form.{Form, before, form_of}
use Rattle.dae_ir.specs.declared.form.Item.{Item}
use Rattle.dae_ir.specs.declared.form.Statement.{Statement}
use Rattle.dae_threads.specs.declared.leading.LedList.{LedList}
use Rattle.dae_threads.specs.Walked.{AreLed}
use Rattle.dae_threads.proofs.Tried.{given_is}
use Rattle.dae_threads.proofs.Walked.{led_if, led_list}
use Rattle.dae_threads.proofs.leading.+lead.Goals as goal

pub lead_statement-returns-in_ok-led-in-Simple : goal.lead_statement-returns-in_ok-led-in-Simple
lead_statement-returns-in_ok-led-in-Simple t c =
    let w = c.in-Simple in
    let v : ℕ = c.args.variable in
    let x : Form = form_of c.args.yes.now in
    let y : Form = form_of c.args.no.now in
    let led : LedList = c.in_ok-led-in-Simple.led in
    subst (λ (s : Statement). AreLed v x y (before s Done) led) (sym w.is)
    (subst (λ (item : Item). AreLed v x y (Do w.place item Done) led) (sym (given_is v w.item c.in_ok-number-in-Simple.number c.in_ok-number-in-Simple.ensures)) c.in_ok-led-in-Simple.ensures)

pub lead_statement-returns-in_ok-push-in-If : goal.lead_statement-returns-in_ok-push-in-If
lead_statement-returns-in_ok-push-in-If t c =
    let w = c.in-If in
    let v : ℕ = c.args.variable in
    let x : Form = form_of c.args.yes.now in
    let y : Form = form_of c.args.no.now in
    let p : LedList = c.in_ok-one-in-If.one in
    let q : LedList = c.in_ok-other-in-If.other in
    let firsts : ℕ = c.in_ok-firsts-in-If.firsts in
    let seconds : ℕ = c.in_ok-seconds-in-If.seconds in
    let out = c.push.new.self in
    let first : AreLed v x y (form_of w.p.items) p = subst (λ (xs : List Statement). AreLed v x y (form_of xs) p) c.deref.ensures.value c.in_ok-one-in-If.ensures in
    let second : AreLed v x y (form_of w.q.items) q = subst (λ (xs : List Statement). AreLed v x y (form_of xs) q) c.deref-in-If.ensures.value c.in_ok-other-in-If.ensures in
    subst (λ (s : Statement). AreLed v x y (before s Done) (record { statements = out; firsts = firsts; seconds = seconds })) (sym w.is)
    (led_if v x y w.place w.test w.p w.q p.statements q.statements p.firsts p.seconds q.firsts q.seconds firsts seconds c.new-out.result.items out.items
    c.new-out.ensures.items c.in_ok-push-in-If.ensures.items first second c.in_ok-firsts-in-If.ensures c.in_ok-seconds-in-If.ensures)

pub lead_list-returns : goal.lead_list-returns
lead_list-returns t c =
    let empty = c.is_empty.ensures in
    let is = c.if-is_empty.false in
    let some : 0 < length c.args.statements.now = grind (arith, nat_tests) in
    let led : LedList = c.in_ok-led.led in
    led_list c.args.variable (form_of c.args.yes.now) (form_of c.args.no.now) c.args.statements.now c.index-statements-last.result led.firsts led.seconds c.in_ok-all.all.items (let xs = led.statements in xs.items) c.append.new.self.items
    some c.index-statements-last.is c.in_ok-all.ensures c.in_ok-led.ensures c.in_ok-append.ensures.items
