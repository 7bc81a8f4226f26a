use Rattle.std.proofs.Common.{◌≡◌, ◌++◌, length}
use Rattle.std.specs.List.{flat_map}
use Rattle.dae_listing.specs.Canon.{ended, content_rows}
use Rattle.dae_listing.proofs.put_content.Given as goal

abbrev pub invariant-loop-rest : goal.invariant-loop-rest
invariant-loop-rest l = l.out.items ++ flat_map ended (content_rows l.rest) ≡ l.initial.out.items ++ flat_map ended (content_rows l.content)

abbrev pub decreases-loop-rest : goal.decreases-loop-rest
decreases-loop-rest l = length l.rest
