use Rattle.dae_ir.specs.Classes.{classes_of}
use Rattle.dae_ir.specs.Streams.{e_part}
use Rattle.dae_split.proofs.Onto.{parts_preserved, parts_done}
use Rattle.dae_split.proofs.groups.put_e_parts.Goals as goal

pub loop-part-preserved : goal.loop-part-preserved
loop-part-preserved c =
    parts_preserved (e_part (classes_of c.args.tables.now c.args.function) c.args.number) c.args.group.now c.loop-part.part-index _
    c.args.steps.now.items c.loop-part.steps.items _ c.loop-part-test.true c.in_ok-put_e_part.ensures c.loop-part.invariant

pub returns : goal.returns
returns c =
    parts_done (e_part (classes_of c.args.tables.now c.args.function) c.args.number) c.args.group.now c.loop-part.part-index
    c.args.steps.now.items c.loop-part.steps.items c.loop-part-test.false c.loop-part.invariant
