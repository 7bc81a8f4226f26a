use Rattle.dae_slice.proofs.Marks.{links_first, function_targets, links_next, links_settled, range_keeps, least_found}
use Rattle.dae_slice.proofs.tables.marks.Goals as goal

pub link_statements-requires : goal.link_statements-requires
link_statements-requires c =
    rw c.as_slice.ensures (function_targets c.args.sought c.args.functions.now c.loop-number.number c.index-functions-number.result c.loop-number.graph c.loop-number-test.true c.index-functions-number.is c.loop-number.invariant c.requires.targets)

pub loop-number-init : goal.loop-number-init
loop-number-init c = links_first c.args.sought c.args.functions.now c.in_ok-graph.graph c.in_ok-graph.ensures

pub loop-number-preserved : goal.loop-number-preserved
loop-number-preserved c =
    links_next c.args.sought c.args.functions.now c.loop-number.number c.index-functions-number.result c.loop-number.graph c.link_statements.new.graph c.loop-number-test.true c.index-functions-number.is c.loop-number.invariant (rw c.as_slice.ensures at c.in_ok-link_statements.ensures)

pub spread-requires : goal.spread-requires
spread-requires c = record {
  range = range_keeps c.args.sought c.args.functions.now c.loop-number.number c.loop-number.graph c.loop-number.invariant c.requires.range;
  settled = links_settled c.args.sought c.args.functions.now c.loop-number.number c.loop-number.graph c.loop-number.invariant;
}

pub returns : goal.returns
returns c =
    least_found c.args.sought c.args.functions.now c.loop-number.number c.loop-number.graph _ c.loop-number-test.false c.loop-number.invariant c.in_ok-spread.ensures
