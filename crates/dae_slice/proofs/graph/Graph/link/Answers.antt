use Rattle.dae_slice.specs.declared.graph.Vertex.{Vertex}
use Rattle.dae_slice.proofs.Graphs.{row_there, vertex_there, read, written, others_stay, linked}
use Rattle.std.proofs.Common.{refl}
use Rattle.dae_slice.proofs.graph.Graph.link.Goals as goal

pub returns : goal.returns
returns c =
    let f = c.args.to.function in
    let v = c.args.to.variable in
    let rows = c.args.self.now.rows.items in
    let row = c.index_mut-row.result.now in
    let x = c.index_mut-vertex.result.now in
    let y : Vertex = record { needed = x.needed; sources = c.add.new.self } in
    let lt = row_there rows f v c.requires in
    let inside = vertex_there rows f v row c.index_mut-row.ensures.value c.requires in
    linked f v c.args.self.now _ x y
    (others_stay rows f v row y lt c.index_mut-row.ensures.value)
    (read rows f v row x lt c.index_mut-row.ensures.value inside c.index_mut-vertex.ensures.value)
    (written rows f v row y lt inside)
    c.args.from refl c.in_ok-add.ensures refl
