-- So many names are left, and the front is as it was.
use Rattle.std.proofs.Common.{◌≡◌, length, take}
use Rattle.dae_names.proofs.index.NameIndex.truncate.Given as goal

abbrev pub invariant-loop-left : goal.invariant-loop-left
invariant-loop-left l = record {
  long : length l.self ≡ l.left;
  same : take l.count l.self ≡ take l.count l.fn.self;
}

abbrev pub decreases-loop-left : goal.decreases-loop-left
decreases-loop-left l = l.left
