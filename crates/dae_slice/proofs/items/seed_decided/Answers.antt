use Rattle.std.proofs.Common.{◌≡◌, true}
use Rattle.dae_ir.specs.Classes.{has_test}
use Rattle.dae_slice.specs.Graphs.{Family, marked}
use Rattle.dae_slice.proofs.Leads.{on_ok_more, demanded}
use Rattle.dae_slice.proofs.items.seed_decided.Goals as goal

pub returns-else-has_test : goal.returns-else-has_test
returns-else-has_test c =
    let f = c.args.function in
    let t = c.args.test in
    on_ok_more c.seed_test.result c.seed_test.ensures
    (demanded (λ (s : Family). has_test (s f) t ≡ true) (has_test (marked c.args.a.now f) t) c.args.graph.now c.seed_test.new.graph (rw c.has_test.ensures at c.if-has_test.false))
