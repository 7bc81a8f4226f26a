use Rattle.dae_asm_data.proofs.Bytes.{go_on, over}
use Rattle.dae_asm_data.proofs.data.content_of.Goals as goal

pub loop-row-preserved : goal.loop-row-preserved
loop-row-preserved c =
    go_on c.args.memory c.args.rows.now c.loop-row.row-index _ c.loop-row.content.items c.put_row.new.content.items c.in_ok-put_row.field-0 c.loop-row-test.true c.loop-row.invariant c.in_ok-put_row.ensures c.if-not-branch.false

pub returns-clause-ok : goal.returns-clause-ok
returns-clause-ok c = over c.args.memory c.args.rows.now c.loop-row.row-index c.loop-row.content.items c.loop-row-test.false c.loop-row.invariant
