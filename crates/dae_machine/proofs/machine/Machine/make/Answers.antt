use Rattle.std.proofs.Common.{rules, sym, subst}
use Rattle.dae_core.specs.Held.{HeldQueues}
use Rattle.dae_machine.specs.Held.{AreCounted}
use Rattle.dae_machine.proofs.Opening.{none_counted}
use Rattle.dae_machine.proofs.machine.Machine.make.Goals as goal

pub invariant_of-result : goal.invariant_of-result
invariant_of-result c = record {
  on_a = search rules;
  on_e = search rules;
  same = search rules;
  counted = subst (λ (q : HeldQueues). AreCounted q.queues 0) (sym (c.in_ok-with_depths.ensures)) none_counted;
  small = c.in_ok-common_memory.ensures.small;
  ends = search rules;
}
