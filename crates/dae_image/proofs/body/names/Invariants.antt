use Rattle.std.proofs.Common.{◌≡◌, ◌-◌}
use Rattle.dae_image.specs.Reading.{names_at}
use Rattle.dae_image.proofs.Loops.{with_front}
use Rattle.dae_image.proofs.body.names.Given as goal

abbrev pub invariant-loop : goal.invariant-loop
invariant-loop l = with_front l.names.items (names_at l.whole (l.count - l.counter) l.rest) ≡ names_at l.whole l.count l.bytes
