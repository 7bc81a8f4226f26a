use Rattle.std.proofs.Common.{ap, arith}
use Rattle.dae_certificate.specs.Cuts.{bytes_of}
use Rattle.dae_certificate.proofs.Spellings.{one_word, by_ends, no_least, no_greatest, two_words, no_step, no_range, one_range}
use Rattle.dae_certificate.proofs.lines.range_of.Goals as goal
use Rattle.dae_certificate.proofs.lines.range_of.Goals.{then-lo-hi-via-then-lo-hi, then-lo-hi-via-else-lo-hi+then-step-eq0, then-lo-hi-via-else-lo-hi+else-step-eq0+then-hi-lo-ne0}

pub returns-in_err-rest : goal.returns-in_err-rest
returns-in_err-rest c =
    rw c.from_residual.ensures (one_word c.args.words.now c.cut.result.0.now (bytes_of c.cut.result.1) c.cut.ensures (ap bytes_of c.in_err-rest.was))

pub returns-in_err-lo : goal.returns-in_err-lo
returns-in_err-lo c =
    let first = c.cut.result.0.now in
    let second = c.cut-2.result.0.now in
    let third = bytes_of c.cut-2.result.1 in
    rw c.from_residual-in_err-lo.ensures (by_ends _ first second c.in_ok-rest.field-0.now _ third _ c.cut.ensures (ap bytes_of c.in_ok-rest.was) c.cut-2.ensures
    (no_least first second third c.in_err-lo.ensures))

pub returns-in_err-hi : goal.returns-in_err-hi
returns-in_err-hi c =
    let first = c.cut.result.0.now in
    let second = c.cut-2.result.0.now in
    let third = bytes_of c.cut-2.result.1 in
    rw c.from_residual-in_err-hi.ensures (by_ends _ first second c.in_ok-rest.field-0.now _ third _ c.cut.ensures (ap bytes_of c.in_ok-rest.was) c.cut-2.ensures
    (no_greatest first second third c.in_err-hi.ensures))

pub returns-in_err-step : goal.returns-in_err-step
returns-in_err-step c =
    let first = c.cut.result.0.now in
    let second = c.cut-2.result.0.now in
    let third = bytes_of c.cut-2.result.1 in
    rw c.from_residual-in_err-step.ensures (by_ends _ first second c.in_ok-rest.field-0.now _ third _ c.cut.ensures (ap bytes_of c.in_ok-rest.was) c.cut-2.ensures
    (two_words first second third (ap bytes_of c.in_err-step.was)))

pub returns-in_err-step-2 : goal.returns-in_err-step-2
returns-in_err-step-2 c =
    let first = c.cut.result.0.now in
    let second = c.cut-2.result.0.now in
    let third = bytes_of c.cut-2.result.1 in
    rw c.from_residual-in_err-step-2.ensures (by_ends _ first second c.in_ok-rest.field-0.now _ third _ c.cut.ensures (ap bytes_of c.in_ok-rest.was) c.cut-2.ensures
    (no_step first second third c.in_ok-step.field-0.now (ap bytes_of c.in_ok-step.was) c.in_err-step-2.ensures))

pub returns-then-lo-hi : goal.returns-then-lo-hi
returns-then-lo-hi c =
    let first = c.cut.result.0.now in
    let second = c.cut-2.result.0.now in
    let third = bytes_of c.cut-2.result.1 in
    by_ends _ first second c.in_ok-rest.field-0.now _ third _ c.cut.ensures (ap bytes_of c.in_ok-rest.was) c.cut-2.ensures
    (no_range first second third c.in_ok-step.field-0.now c.in_ok-lo.lo c.in_ok-hi.hi c.in_ok-step-2.step (ap bytes_of c.in_ok-step.was)
    c.in_ok-lo.ensures c.in_ok-hi.ensures c.in_ok-step-2.ensures
    (λ l m e. elim c.then-lo-hi.branch [
      | then-lo-hi-via-then-lo-hi w ↦ omega (arith, w.if-lo-hi.true)
      | then-lo-hi-via-else-lo-hi+then-step-eq0 w ↦ omega (arith, w.if-step-eq0.true)
      | then-lo-hi-via-else-lo-hi+else-step-eq0+then-hi-lo-ne0 w ↦ w.if-hi-lo-ne0.true e
    ]))

pub returns : goal.returns
returns c =
    let first = c.cut.result.0.now in
    let second = c.cut-2.result.0.now in
    let third = bytes_of c.cut-2.result.1 in
    let l = c.if-lo-hi.false in
    let m = c.if-step-eq0.false in
    by_ends _ first second c.in_ok-rest.field-0.now _ third _ c.cut.ensures (ap bytes_of c.in_ok-rest.was) c.cut-2.ensures
    (one_range first second third c.in_ok-step.field-0.now c.in_ok-lo.lo c.in_ok-hi.hi c.in_ok-step-2.step (ap bytes_of c.in_ok-step.was)
    c.in_ok-lo.ensures c.in_ok-hi.ensures c.in_ok-step-2.ensures (omega arith) (omega arith) (omega (arith, c.if-hi-lo-ne0.false)))
