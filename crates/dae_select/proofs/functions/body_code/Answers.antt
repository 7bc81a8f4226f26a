use Rattle.dae_ir.specs.Streams.{actions_of}
use Rattle.dae_select_facts.specs.Knowns.{facts_by}
use Rattle.dae_select_calls.specs.Makings.{plan_by, variables_by, by_jal}
use Rattle.dae_select.proofs.Stacked.{bare}
use Rattle.dae_select.proofs.functions.body_code.Goals as goal

pub returns : goal.returns
returns c =
    let a = c.args in let m = a.making.now in
    (bare (by_jal m) (plan_by m) (variables_by m) m.function (facts_by c.unknown.result) a.code.now c.list_code.new.code c.new-next.result c.new-leaves.result c.new-skips.result c.in_ok-list_code.field-0 (actions_of a.body.now)
    c.unknown.ensures c.requires.empty c.new-next.ensures c.new-leaves.ensures c.new-skips.ensures c.in_ok-list_code.ensures).0
