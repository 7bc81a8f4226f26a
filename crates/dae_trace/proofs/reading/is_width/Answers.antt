-- Three tests of a width between its blanks.
use Rattle.std.proofs.Common.{sym, ◌∙◌}
use Rattle.std.specs.Prelude.{codes}
use Rattle.dae_trace.proofs.Spelled.{other_bytes, same_bytes, width_one, width_read, width_two}
use Rattle.dae_trace.proofs.reading.is_width.Goals as goal
use Rattle.dae_trace.proofs.reading.is_width.Goals.{then-eq, else-eq}

pub returns-then-eq-2 : goal.returns-then-eq-2
returns-then-eq-2 c =
    let bytes = c.args.bytes.now in
    rw c.if-eq-2.true (elim c.if-eq.branch [
      | then-eq w ↦ width_one bytes (same_bytes bytes c.as_slice.result.now (codes " 1 ") c.eq.result c.eq.ensures c.as_slice.ensures w.if-eq.true)
      | else-eq w ↦ width_two bytes
          (same_bytes bytes w.as_slice-else-eq.result.now (codes " 2 ") w.eq-else-eq.result w.eq-else-eq.ensures w.as_slice-else-eq.ensures
          (sym w.value-is ∙ c.if-eq-2.true))
    ])

pub returns-else-eq-2 : goal.returns-else-eq-2
returns-else-eq-2 c =
    let bytes = c.args.bytes.now in
    elim c.if-eq.branch [
      | then-eq w ↦ absurd (cc (w.value-is, c.if-eq-2.false))
      | else-eq w ↦ width_read bytes c.eq-else-eq-2.result
          (same_bytes bytes c.as_slice-else-eq-2.result.now (codes " 4 ") c.eq-else-eq-2.result c.eq-else-eq-2.ensures c.as_slice-else-eq-2.ensures)
          (other_bytes bytes c.as_slice-else-eq-2.result.now (codes " 4 ") c.eq-else-eq-2.result c.eq-else-eq-2.ensures c.as_slice-else-eq-2.ensures)
          (other_bytes bytes c.as_slice.result.now (codes " 1 ") c.eq.result c.eq.ensures c.as_slice.ensures w.if-eq.false)
          (other_bytes bytes w.as_slice-else-eq.result.now (codes " 2 ") w.eq-else-eq.result w.eq-else-eq.ensures w.as_slice-else-eq.ensures
          (sym w.value-is ∙ c.if-eq-2.false))
    ]
