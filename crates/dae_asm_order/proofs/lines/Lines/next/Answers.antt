use Rattle.std.proofs.Common.{ℕ, suc, List, subst, arith}
use Rattle.dae_asm_order.specs.Sheets.{lines_of, Skips, none_skipped}
use Rattle.dae_asm_order.proofs.Walked.{one_further, at_end}
use Rattle.dae_asm_order.proofs.lines.Lines.next.Goals as goal

pub loop-text-init : goal.loop-text-init
loop-text-init c = record { count = 0; skipped = none_skipped; number = omega arith; fits = omega arith; shorter = omega arith }

pub loop-text-preserved : goal.loop-text-preserved
loop-text-preserved c =
    let was = c.loop-text.invariant in
    let less = c.split_line.ensures.shorter in
    let here = subst (λ (ls : List (List ℕ)). Skips (lines_of c.args.self.text.now) was.count ls) c.split_line.ensures.parts was.skipped in
    record {
      count = suc was.count;
      skipped = one_further (lines_of c.args.self.text.now) was.count c.split_line.result.0.now (lines_of c.split_line.result.1.now) here c.in-Empty.ensures;
      number = omega arith;
      fits = omega arith;
      shorter = omega arith;
    }

pub returns : goal.returns
returns c = at_end c.args.self c.loop-text.text.now c.loop-text.line c.loop-text.invariant c.loop-text-test.ensures
