use Rattle.std.proofs.Common.{ℕ, sym, subst}
use Rattle.std.specs.Prelude.{IfOk}
use Rattle.dae_ir.specs.Form.{form_of}
use Rattle.dae_threads.specs.Threaded.{IsSpread, AtMostOnce}
use Rattle.dae_threads.proofs.deciding.spread_cost.Goals as goal

pub returns-then-count-le1 : goal.returns-then-count-le1
returns-then-count-le1 c = AtMostOnce c.args.count (form_of c.args.statements.now) c.if-count-le1.true

pub returns-then-count-eq2 : goal.returns-then-count-eq2
returns-then-count-eq2 c =
    subst (λ (n : ℕ). IfOk c.double_cost.result (λ more. IsSpread n (form_of c.args.statements.now) more)) (sym c.if-count-eq2.true) c.double_cost.ensures
