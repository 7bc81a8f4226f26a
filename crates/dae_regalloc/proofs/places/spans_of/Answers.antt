use Rattle.std.proofs.Common.{arith}
use Rattle.std.proofs.lemmas.Bool.Decides.{nat_tests}
use Rattle.dae_ir.specs.Streams.{actions_of}
use Rattle.dae_regalloc.proofs.Placing.{whole_placed}
use Rattle.dae_regalloc.proofs.places.spans_of.Goals as goal

pub see_steps-requires-clause-room : goal.see_steps-requires-clause-room
see_steps-requires-clause-room c = let none = c.new-spans.ensures in let first = none.count in let few = c.requires in grind (arith, nat_tests)

pub see_steps-requires-clause-told : goal.see_steps-requires-clause-told
see_steps-requires-clause-told c = c.in_ok-turns.ensures

pub see-requires : goal.see-requires
see-requires c =
    let none = c.new-spans.ensures in let first = none.count in let few = c.requires in
    let all = c.in_ok-set.ensures in let count = all.count in grind (arith, nat_tests)

pub returns : goal.returns
returns c =
    let a = c.args in
    whole_placed c.new-spans.result c.see_steps.new.spans c.see.new.self a.parameters (actions_of a.body.now) c.new.result c.new-leaves.result c.new-skips.result c.in_ok-set.set c.in_ok-entry.entry
    c.new.ensures c.new-leaves.ensures c.new-skips.ensures c.in_ok-set.ensures c.in_ok-entry.ensures c.in_ok-see.ensures.seen c.new-spans.ensures
