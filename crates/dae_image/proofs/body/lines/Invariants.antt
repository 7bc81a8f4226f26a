use Rattle.std.proofs.Common.{◌≡◌, ◌-◌, None}
use Rattle.dae_image.specs.Reading.{lines_at}
use Rattle.dae_image.proofs.Loops.{with_front}
use Rattle.dae_image.proofs.body.lines.Given as goal

abbrev pub invariant-loop : goal.invariant-loop
invariant-loop l = with_front l.lines.items (lines_at l.whole l.header l.last (l.header.lines - l.counter) l.rest) ≡ lines_at l.whole l.header None l.header.lines l.bytes
