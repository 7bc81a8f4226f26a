use Rattle.std.proofs.Common.{ap, length, arith}
use Rattle.std.proofs.lemmas.List.{take_rest}
use Rattle.dae_lex_scan.proofs.Units.{values_begin, values_skip, pred_is}
use Rattle.dae_lex_scan.proofs.literals.values_length.Goals as goal
use Rattle.dae_lex_scan.proofs.literals.values_length.Goals.{then-left-eq0, else-left-eq0}

pub loop-i-preserved : goal.loop-i-preserved
loop-i-preserved c =
    let l = c.loop-i in
    let inside = c.args.inside.now in
    elim c.if-left-eq0.branch [
      | then-left-eq0 w ↦
          let unit = rw (take_rest inside l.i) at w.unit_at-left.ensures.value in
          let first = values_begin inside l.i (omega arith) l.left w.if-left-eq0.true in
          record {
            so_far = rw (w.count-is, w.left-is, unit, ← pred_is) (omega (arith, ap length first, l.invariant.so_far));
            within = rw (w.count-is) (omega (arith, l.invariant.within));
          }
      | else-left-eq0 w ↦
          let on = values_skip inside l.i (omega arith) l.left (omega (arith, w.if-left-eq0.false)) in
          record {
            so_far = rw (w.count-is, w.left-is, ← on) l.invariant.so_far;
            within = rw (w.count-is) (omega (arith, l.invariant.within));
          }
    ]
