use Rattle.std.proofs.Common.{ap}
use Rattle.dae_certificate.specs.Cuts.{bytes_of}
use Rattle.dae_certificate.proofs.Spellings.{no_first, no_behind, no_second, two_counters}
use Rattle.dae_certificate.proofs.lines.counters.Goals as goal

pub returns-in_err-a : goal.returns-in_err-a
returns-in_err-a c =
    rw c.from_residual.ensures (no_first c.args.words.now c.cut.result.0.now (bytes_of c.cut.result.1) c.cut.ensures c.in_err-a.ensures)

pub returns-in_err-rest : goal.returns-in_err-rest
returns-in_err-rest c =
    rw c.from_residual-in_err-rest.ensures (no_behind c.args.words.now c.cut.result.0.now (bytes_of c.cut.result.1) c.cut.ensures (ap bytes_of c.in_err-rest.was))

pub returns-in_err-e : goal.returns-in_err-e
returns-in_err-e c =
    rw c.from_residual-in_err-e.ensures (no_second c.args.words.now c.cut.result.0.now (bytes_of c.cut.result.1) c.cut.ensures
    c.in_ok-rest.field-0.now (ap bytes_of c.in_ok-rest.was) c.in_err-e.ensures)

pub returns : goal.returns
returns c =
    two_counters c.args.words.now c.cut.result.0.now (bytes_of c.cut.result.1) c.cut.ensures c.in_ok-rest.field-0.now c.in_ok-a.a c.in_ok-e.e
    (ap bytes_of c.in_ok-rest.was) c.in_ok-a.ensures c.in_ok-e.ensures
