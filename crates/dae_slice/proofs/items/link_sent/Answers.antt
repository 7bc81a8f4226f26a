use Rattle.std.proofs.Common.{◌≡◌, true}
use Rattle.dae_ir.specs.Classes.{has_value}
use Rattle.dae_slice.specs.Graphs.{Family, marked}
use Rattle.dae_slice.proofs.Leads.{on_ok_more, demanded}
use Rattle.dae_slice.proofs.items.link_sent.Goals as goal

pub returns-else-needs : goal.returns-else-needs
returns-else-needs c =
    let f = c.args.function in
    let v = c.args.variable in
    on_ok_more c.link_value.result c.link_value.ensures
    (demanded (λ (s : Family). s f v ≡ true → has_value (s f) c.args.value ≡ true) (marked c.args.a.now f v) c.args.graph.now c.link_value.new.graph (rw c.needs.ensures at c.if-needs.false))
