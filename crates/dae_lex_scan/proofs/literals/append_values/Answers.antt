use Rattle.std.proofs.Common.{◌++◌, ap, sym, ◌∙◌, arith, append_assoc}
use Rattle.std.proofs.lemmas.List.{take_rest}
use Rattle.dae_lex_scan.proofs.Units.{values_begin, values_skip, pred_is}
use Rattle.dae_lex_scan.proofs.literals.append_values.Goals as goal
use Rattle.dae_lex_scan.proofs.literals.append_values.Goals.{then-left-eq0+in_ok-push, else-left-eq0}

pub loop-i-preserved : goal.loop-i-preserved
loop-i-preserved c =
    let l = c.loop-i in
    let inside = c.args.inside.now in
    elim c.if-left-eq0.branch [
      | then-left-eq0+in_ok-push w ↦
          let unit = rw (take_rest inside l.i) at w.unit_at-value.ensures.value in
          let first = values_begin inside l.i (omega arith) l.left w.if-left-eq0.true in
          rw (w.values-is, w.in_ok-push.ensures.items, w.left-is, w.unwrap_or.ensures, unit, ← pred_is, append_assoc)
          (ap (λ vs. l.values.items ++ vs) (sym first) ∙ l.invariant)
      | else-left-eq0 w ↦
          let on = values_skip inside l.i (omega arith) l.left (omega (arith, w.if-left-eq0.false)) in
          rw (w.values-is, w.left-is) (ap (λ vs. l.values.items ++ vs) (sym on) ∙ l.invariant)
    ]
