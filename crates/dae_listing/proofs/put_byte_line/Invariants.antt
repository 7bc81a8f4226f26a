use Rattle.std.proofs.Common.{◌≡◌, ◌∷◌, ◌++◌, take, decimal}
use Rattle.std.specs.List.{flat_map}
use Rattle.dae_listing.proofs.put_byte_line.Given as goal

abbrev pub invariant-loop-byte : goal.invariant-loop-byte
invariant-loop-byte l = l.out.items ≡ l.initial.out.items ++ flat_map (λ n. 32 ∷ decimal n) (take l.byte-index l.bytes)
