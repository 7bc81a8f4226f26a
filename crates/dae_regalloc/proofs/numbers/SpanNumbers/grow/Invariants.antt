use Rattle.std.specs.Prelude.{◌≡◌, ◌+◌, length}
use Rattle.dae_regalloc.specs.Seen.{number_in}
use Rattle.dae_regalloc.proofs.numbers.SpanNumbers.grow.Given as goal

abbrev pub invariant-loop : goal.invariant-loop
invariant-loop l = record {
  same : number_in l.self-inside.inside.items ≡ number_in l.initial.self-inside.inside.items;
  long : length l.self-inside.inside.items ≡ length l.initial.self-inside.inside.items + l.counter;
}
