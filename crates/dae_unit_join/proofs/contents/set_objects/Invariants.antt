use Rattle.std.proofs.Common.{◌≡◌, drop}
use Rattle.dae_unit_join.specs.Contents.{objects_set}
use Rattle.dae_unit_join.proofs.contents.set_objects.Given as goal

abbrev pub invariant-loop-datum : goal.invariant-loop-datum
invariant-loop-datum l =
    objects_set l.addresses l.literals l.content (drop l.datum-index l.contents) ≡ objects_set l.addresses l.literals l.initial.content l.contents
