use Rattle.std.proofs.Common.{◌≡◌, ◌+◌, min, sym, ap, ◌∙◌, arith}
use Rattle.dae_asm_lines.specs.Tokens.{tokens_of}
use Rattle.dae_asm_lines.specs.Reading.{all_numbers}
use Rattle.dae_asm_lines.proofs.Counted.{counted, from_none, shorter, more, none_left, another}
use Rattle.dae_asm_lines.proofs.numbers.count_numbers.Goals as goal

pub loop-after-init : goal.loop-after-init
loop-after-init c = record { few = omega arith; same = from_none (all_numbers (tokens_of c.args.line.now)) }

pub loop-after-smaller : goal.loop-after-smaller
loop-after-smaller c = shorter (tokens_of c.loop-after.rest.now) (tokens_of c.in-Some.after.now) _ c.in-Some.ensures

pub loop-after-preserved : goal.loop-after-preserved
loop-after-preserved c =
    let next = tokens_of c.in-Some.after.now in
    let step = more c.loop-after.count (tokens_of c.loop-after.rest.now) next _ c.in-Some.ensures in
    let least : c.min-count.result ≡ min (c.loop-after.count + 1) 17 = omega arith in
    record {
      few = omega arith;
      same = ap (λ n. counted n (all_numbers next)) least ∙ (sym step ∙ c.loop-after.invariant.same);
    }

pub returns-in-Some-end : goal.returns-in-Some-end
returns-in-Some-end c = sym c.loop-after.invariant.same ∙ none_left c.loop-after.count (tokens_of c.loop-after.rest.now) _ c.loop-after.invariant.few c.in-Some-end.ensures

pub returns-in-None : goal.returns-in-None
returns-in-None c = sym c.loop-after.invariant.same ∙ another c.loop-after.count (tokens_of c.loop-after.rest.now) c.in_default.ensures c.in-None.ensures
