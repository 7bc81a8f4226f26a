use Rattle.std.proofs.Common.{◌≡◌, false}
use Rattle.std.specs.List.{AllWithin}
use Rattle.dae_guard.specs.Kept.{is_open}
use Rattle.dae_guard.proofs.slots.first_open.Given as goal

abbrev pub invariant-loop-place : goal.invariant-loop-place
invariant-loop-place l = AllWithin (λ s. is_open s ≡ false) l.slots 0 l.place
