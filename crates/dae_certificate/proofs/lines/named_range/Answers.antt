use Rattle.std.proofs.Common.{ap, arith}
use Rattle.dae_certificate.specs.Cuts.{bytes_of}
use Rattle.dae_certificate.proofs.Spellings.{no_register_first, no_register_behind, no_ends, other_register, one_register}
use Rattle.dae_certificate.proofs.lines.named_range.Goals as goal
use Rattle.dae_certificate.proofs.lines.named_range.Goals.{then-register-lt1-via-then-register-lt1, then-register-lt1-via-else-register-lt1+then-register-gt27}

pub returns-in_err-register : goal.returns-in_err-register
returns-in_err-register c =
    rw c.from_residual.ensures (no_register_first c.args.side c.args.words.now c.cut.result.0.now (bytes_of c.cut.result.1) c.cut.ensures c.in_err-register.ensures)

pub returns-in_err-rest : goal.returns-in_err-rest
returns-in_err-rest c =
    rw c.from_residual-in_err-rest.ensures (no_register_behind c.args.side c.args.words.now c.cut.result.0.now (bytes_of c.cut.result.1) c.cut.ensures (ap bytes_of c.in_err-rest.was))

pub returns-in_err-range : goal.returns-in_err-range
returns-in_err-range c =
    rw c.from_residual-in_err-range.ensures (no_ends c.args.side c.args.words.now c.cut.result.0.now c.in_ok-rest.field-0.now (bytes_of c.cut.result.1) c.cut.ensures (ap bytes_of c.in_ok-rest.was) c.in_err-range.ensures)

pub returns-then-register-lt1 : goal.returns-then-register-lt1
returns-then-register-lt1 c =
    other_register c.args.side c.args.words.now c.cut.result.0.now c.in_ok-rest.field-0.now (bytes_of c.cut.result.1) c.cut.ensures (ap bytes_of c.in_ok-rest.was)
    c.in_ok-register.register c.in_ok-register.ensures
    (λ l m. elim c.then-register-lt1.branch [
      | then-register-lt1-via-then-register-lt1 w ↦ omega (arith, w.if-register-lt1.true)
      | then-register-lt1-via-else-register-lt1+then-register-gt27 w ↦ omega (arith, w.if-register-gt27.true)
    ])

pub returns : goal.returns
returns c =
    let l = c.if-register-lt1.false in
    let m = c.if-register-gt27.false in
    one_register c.args.side c.args.words.now c.cut.result.0.now c.in_ok-rest.field-0.now (bytes_of c.cut.result.1) c.cut.ensures (ap bytes_of c.in_ok-rest.was)
    c.in_ok-register.register c.in_ok-range.range c.in_ok-register.ensures c.in_ok-range.ensures (omega arith) (omega arith)
