use Rattle.std.proofs.Common.{ap, rules}
use Rattle.dae_base.specs.declared.Side.TheVariants.{A, E}
use Rattle.dae_certificate.specs.Cuts.{bytes_of}
use Rattle.dae_certificate.proofs.Spellings.{no_kind, no_node, one_node, one_named}
use Rattle.dae_certificate.proofs.lines.line_of.Goals as goal

pub returns-in_err-a : goal.returns-in_err-a
returns-in_err-a c =
    rw c.from_residual-in_err-a.ensures (no_node c.args.bytes.now c.cut.result.0.now (bytes_of c.cut.result.1) c.cut.ensures
    c.in_ok-rest.field-0.now (ap bytes_of c.in_ok-rest.was) (search rules) c.in_err-a.ensures)

pub returns-in_ok-a : goal.returns-in_ok-a
returns-in_ok-a c =
    one_node c.args.bytes.now c.cut.result.0.now (bytes_of c.cut.result.1) c.cut.ensures
    c.in_ok-rest.field-0.now (ap bytes_of c.in_ok-rest.was) c.in_ok-a.a c.in_ok-a.e (search rules) c.in_ok-a.ensures

pub returns-in_ok-named_range : goal.returns-in_ok-named_range
returns-in_ok-named_range c =
    one_named c.args.bytes.now c.cut.result.0.now (bytes_of c.cut.result.1) c.cut.ensures
    c.in_ok-rest-2.field-0.now (ap bytes_of c.in_ok-rest-2.was) A c.in_ok-named_range.field-0 (search rules) c.in_ok-named_range.ensures

pub returns-in_ok-named_range-2 : goal.returns-in_ok-named_range-2
returns-in_ok-named_range-2 c =
    one_named c.args.bytes.now c.cut.result.0.now (bytes_of c.cut.result.1) c.cut.ensures
    c.in_ok-rest-3.field-0.now (ap bytes_of c.in_ok-rest-3.was) E c.in_ok-named_range-2.field-0 (search rules) c.in_ok-named_range-2.ensures

pub returns-else-eq-3 : goal.returns-else-eq-3
returns-else-eq-3 c =
    no_kind c.args.bytes.now c.cut.result.0.now (bytes_of c.cut.result.1) c.cut.ensures (search rules) (search rules) (search rules)
