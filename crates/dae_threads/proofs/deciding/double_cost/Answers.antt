use Rattle.std.proofs.Common.{sym, subst}
use Rattle.std.proofs.lemmas.Result.{IfOk-weaker}
use Rattle.dae_ir.specs.Form.{Form}
use Rattle.dae_threads.specs.Threaded.{IsSpread}
use Rattle.dae_threads.proofs.Tried.{alone_is}
use Rattle.dae_threads.proofs.deciding.double_cost.Goals as goal

pub returns-then-statements-eq1 : goal.returns-then-statements-eq1
returns-then-statements-eq1 c =
    IfOk-weaker c.simple_cost.result _ _
    (λ more h. subst (λ (code : Form). IsSpread 2 code more) (sym (alone_is c.args.statements.now c.index-statements-0.result c.if-statements-eq1.true c.index-statements-0.is)) h) c.simple_cost.ensures
