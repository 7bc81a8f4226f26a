use Rattle.dae_guard.proofs.QueueLaws.{may_drain_so}
use Rattle.dae_guard.proofs.queues.RangeQueues.can_drain.Goals as goal

pub returns : goal.returns
returns c =
    may_drain_so c.args.self.now _ _ _ _ c.may_drain.result c.as_slice.ensures.value c.as_slice-2.ensures.value c.as_slice-3.ensures.value c.as_slice-4.ensures.value c.may_drain.ensures
