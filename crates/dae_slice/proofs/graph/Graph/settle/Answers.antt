use Rattle.std.proofs.Common.{true, refl}
use Rattle.dae_slice.specs.declared.graph.Vertex.{Vertex}
use Rattle.dae_slice.proofs.Graphs.{row_there, vertex_there, read, written, others_stay, settled, links_moved}
use Rattle.dae_slice.proofs.graph.Graph.settle.Goals as goal

pub returns : goal.returns
returns c =
    let f = c.args.node.function in
    let v = c.args.node.variable in
    let rows = c.args.self.now.rows.items in
    let row = c.index_mut-row.result.now in
    let x : Vertex = c.index_mut-vertex.result.now in
    let y : Vertex = record { needed = true; sources = c.hand_to.new.self } in
    let lt = row_there rows f v c.requires in
    let inside = vertex_there rows f v row c.index_mut-row.ensures.value c.requires in
    settled f v c.args.self.now _ x y
    (others_stay rows f v row y lt c.index_mut-row.ensures.value)
    (read rows f v row x lt c.index_mut-row.ensures.value inside c.index_mut-vertex.ensures.value)
    (written rows f v row y lt inside)
    c.args.node refl refl refl c.in_ok-hand_to.ensures.taken c.in_ok-hand_to.ensures.given
    (links_moved rows f v row x y c.args.self.now.work.items c.hand_to.new.work.items lt c.index_mut-row.ensures.value inside c.index_mut-vertex.ensures.value c.in_ok-hand_to.ensures.taken c.in_ok-hand_to.ensures.given)
