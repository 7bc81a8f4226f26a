use Rattle.std.proofs.Common.{◌≡◌, ◌++◌, take, codes}
use Rattle.std.specs.List.{flat_map}
use Rattle.dae_listing.specs.Canon.{ended, row}
use Rattle.dae_listing.proofs.put_names.Given as goal

abbrev pub invariant-loop-name : goal.invariant-loop-name
invariant-loop-name l = l.out.items ≡ l.initial.out.items ++ flat_map (λ n. ended (row (codes ".name") n)) (take l.name-index l.names)
