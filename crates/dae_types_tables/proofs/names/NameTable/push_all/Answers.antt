use Rattle.std.proofs.Common.{sym, append-nil}
use Rattle.dae_types_tables.proofs.Naming.{one_more_row}
use Rattle.dae_types_tables.proofs.names.NameTable.push_all.Goals as goal

pub loop-row-init : goal.loop-row-init
loop-row-init c = sym (append-nil c.args.self.now)

pub loop-row-preserved : goal.loop-row-preserved
loop-row-preserved c =
    one_more_row c.args.self.now c.push.new.self c.loop-row.self c.args.rows.now c.loop-row.row-index _ c.loop-row-test.true c.loop-row.invariant c.in_ok-push.ensures
