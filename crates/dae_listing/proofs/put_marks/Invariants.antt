use Rattle.std.proofs.Common.{◌≡◌, ◌++◌, take}
use Rattle.std.specs.List.{flat_map}
use Rattle.dae_listing.specs.Canon.{ended, mark_row}
use Rattle.dae_listing.proofs.put_marks.Given as goal

abbrev pub invariant-loop-mark : goal.invariant-loop-mark
invariant-loop-mark l = l.out.items ≡ l.initial.out.items ++ flat_map (λ m. ended (mark_row m)) (take l.mark-index l.marks)
