use Rattle.std.proofs.Common.{ap, ◌∙◌, arith}
use Rattle.dae_asm_data.proofs.Naming.{moved, go_past, go_on, over}
use Rattle.dae_asm_data.proofs.names.names_of.Goals as goal
use Rattle.dae_asm_data.proofs.names.names_of.Goals.{in-Nothing, in-Value+in_ok-push-in-Value}

pub loop-row-preserved : goal.loop-row-preserved
loop-row-preserved c =
    elim c.match-found.branch [
      | in-Nothing w ↦
          moved _ _ _ _ (ap (λ v. v.items) w.names-is)
          (go_past c.args.rows.now c.loop-row.row-index _ c.loop-row.names.items c.len.result c.loop-row-test.true (first_of (cc, omega arith)) c.loop-row.invariant c.in_ok-found.found c.in_ok-found.ensures w.in-Nothing.is)
      | in-Value+in_ok-push-in-Value w ↦
          moved _ _ _ _ (ap (λ v. v.items) w.names-is ∙ w.in_ok-push-in-Value.ensures.items)
          (go_on c.args.rows.now c.loop-row.row-index _ c.loop-row.names.items c.len.result w.in-Value.name c.loop-row-test.true (first_of (cc, omega arith)) c.loop-row.invariant c.in_ok-found.found c.in_ok-found.ensures w.in-Value.is)
    ]

pub returns-clause-ok : goal.returns-clause-ok
returns-clause-ok c = over c.args.rows.now c.loop-row.row-index c.loop-row.names.items c.loop-row-test.false c.loop-row.invariant
