-- A fill, by what stands behind its side.
use Rattle.std.specs.Prelude.{Some, codes}
use Rattle.std.proofs.lemmas.Bool.Decides.{Decides-eqb}
use Rattle.std.proofs.lemmas.Slice.Eq.{strip_prefix_is}
use Rattle.dae_base.specs.declared.Side.TheVariants.{A, E}
use Rattle.dae_trace.proofs.Spelled.{fill_read}
use Rattle.dae_trace.proofs.reading.read_line.Goals as goal

pub returns-in-Some-strip_prefix-2 : goal.returns-in-Some-strip_prefix-2
returns-in-Some-strip_prefix-2 c =
    let bytes = c.args.bytes.now in
    let filling = c.in-Some-strip_prefix-2.filling in
    let is = strip_prefix_is Decides-eqb bytes (codes "F A ") (Some filling) c.in-Some-strip_prefix-2.ensures.cases in
    fill_read bytes filling.now A c.read_fill.result is c.read_fill.ensures

pub returns-in-Some-strip_prefix-3 : goal.returns-in-Some-strip_prefix-3
returns-in-Some-strip_prefix-3 c =
    let bytes = c.args.bytes.now in
    let filling = c.in-Some-strip_prefix-3.filling in
    let is = strip_prefix_is Decides-eqb bytes (codes "F E ") (Some filling) c.in-Some-strip_prefix-3.ensures.cases in
    fill_read bytes filling.now E c.read_fill-in-Some-strip_prefix-3.result is c.read_fill-in-Some-strip_prefix-3.ensures
