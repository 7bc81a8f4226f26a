use Rattle.std.proofs.Common.{◌<◌, length, arith}
use Rattle.dae_certificate.proofs.Making.{node_more, register_more, nothing_more}
use Rattle.dae_certificate.proofs.nodes.nodes_of.Goals as goal
use Rattle.dae_certificate.proofs.nodes.nodes_of.Goals.{in-Node+in_ok-open_node-in-Node+in_ok-push-in-Node, in-Register+in-Some+in_ok-push-in-Register, in-Register+in_default}

pub loop-line-preserved : goal.loop-line-preserved
loop-line-preserved c =
    let within : c.loop-line.line-index < length c.args.lines.now = omega arith in
    elim c.match-line.branch [
      | in-Node+in_ok-open_node-in-Node+in_ok-push-in-Node w ↦
          node_more c.args.lines.now c.loop-line.line-index _ c.loop-line.nodes.items c.match-line.nodes.items within c.loop-line.invariant
          w.in-Node.a w.in-Node.e w.in_ok-open_node-in-Node.field-0 w.in-Node.is w.in_ok-open_node-in-Node.ensures
          (rw w.nodes-is w.in_ok-push-in-Node.ensures.items)
      | in-Register+in-Some+in_ok-push-in-Register w ↦
          register_more c.args.lines.now c.loop-line.line-index _ c.loop-line.nodes.items c.match-line.nodes.items within c.loop-line.invariant
          w.in-Register.named w.pop.new.self.items w.in-Some.last w.with_named.result w.in-Register.is w.in-Some.ensures.items w.with_named.ensures
          (rw w.nodes-is w.in_ok-push-in-Register.ensures.items)
      | in-Register+in_default w ↦
          nothing_more c.args.lines.now c.loop-line.line-index _ c.loop-line.nodes.items c.match-line.nodes.items within c.loop-line.invariant
          w.in-Register.named _ w.in-Register.is w.in_default.ensures.cases.0 (rw w.nodes-is w.in_default.ensures.rest) (rw w.nodes-is w.in_default.ensures.items)
    ]
