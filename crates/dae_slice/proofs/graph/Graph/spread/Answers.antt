use Rattle.std.proofs.Common.{◌≡◌, refl, arith}
use Rattle.dae_slice.specs.declared.graph.Graph.{Graph}
use Rattle.dae_slice.proofs.Lists.{none_left}
use Rattle.dae_slice.proofs.Spread.{node_there, spread_next, spread_done}
use Rattle.dae_slice.proofs.graph.Graph.spread.Goals as goal

pub settle-requires : goal.settle-requires
settle-requires c =
    let taken : Graph = record { rows = c.loop-node.self.rows; work = c.pop.new.self } in
    node_there c.args.self.now c.loop-node.self taken c.in-Some.node c.loop-node.invariant refl c.in-Some.ensures.items c.requires.range

pub loop-node-preserved : goal.loop-node-preserved
loop-node-preserved c =
    let taken : Graph = record { rows = c.loop-node.self.rows; work = c.pop.new.self } in
    spread_next c.args.self.now c.loop-node.self taken c.in-Some.node c.loop-node.invariant refl c.in-Some.ensures.items c.settle.new.self c.in_ok-settle.ensures

pub returns : goal.returns
returns c =
    let work = c.loop-node.self.work in
    let empty : work.len ≡ 0 = c.in_default.ensures.cases.0 in
    spread_done c.args.self.now c.loop-node.self c.loop-node.invariant (none_left work.items (let ok = work.ok.0 in omega arith))
