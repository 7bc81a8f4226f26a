use Rattle.std.specs.Prelude.{◌≡◌, drop}
use Rattle.dae_ir.specs.Streams.{all_fail_by}
use Rattle.dae_split.proofs.groups.all_fail_by.Given as goal

abbrev pub invariant-loop-part : goal.invariant-loop-part
invariant-loop-part l = all_fail_by l.failure (drop l.part-index l.group) ≡ all_fail_by l.failure l.group
