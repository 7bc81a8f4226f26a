use Rattle.std.proofs.Common.{◌≡◌, true}
use Rattle.dae_ir.specs.Classes.{has}
use Rattle.dae_slice.specs.Graphs.{Family, marked}
use Rattle.dae_slice.proofs.Leads.{on_ok_more, demanded, already}
use Rattle.dae_slice.proofs.items.seed_checked.Goals as goal

pub returns-else-has : goal.returns-else-has
returns-else-has c =
    let f = c.args.function in
    let x = c.in-Zero.operand in
    rw c.in-Zero.is
    (on_ok_more c.seed_operand.result c.seed_operand.ensures
    (demanded (λ (s : Family). has (s f) x ≡ true) (has (marked c.args.a.now f) x) c.args.graph.now c.seed_operand.new.graph (rw c.has.ensures at c.if-has.false)))

pub returns-then-has : goal.returns-then-has
returns-then-has c =
    let f = c.args.function in
    let x = c.in-Zero.operand in
    rw c.in-Zero.is
    (already (λ (s : Family). has (s f) x ≡ true) (has (marked c.args.a.now f) x) c.args.graph.now (rw c.has.ensures at c.if-has.true))
