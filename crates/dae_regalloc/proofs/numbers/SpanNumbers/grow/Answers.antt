use Rattle.std.proofs.Common.{ap, ◌∙◌, arith}
use Rattle.dae_regalloc.specs.Seen.{number_in}
use Rattle.dae_regalloc.proofs.Numbering.{number_pushed}
use Rattle.dae_regalloc.proofs.numbers.SpanNumbers.grow.Goals as goal

pub loop-preserved : goal.loop-preserved
loop-preserved c = record {
  same = ap number_in c.in_ok-push.ensures.items ∙ number_pushed c.loop.self-inside.inside.items ∙ c.loop.invariant.same;
  long = (let e = c.in_ok-push.ensures.len in let l = c.loop.invariant.long in omega arith);
}
