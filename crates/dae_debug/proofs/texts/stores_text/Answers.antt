-- The line of one store more.
use Rattle.std.proofs.Common.{List, ℕ, ◌++◌, length, length-append, ap, sym, ◌∙◌, arith}
use Rattle.dae_debug.proofs.Listed.{store_more}
use Rattle.dae_debug.proofs.texts.stores_text.Goals as goal

pub loop-at-preserved : goal.loop-at-preserved
loop-at-preserved c =
    let line = c.as_bytes.ensures.same ∙ c.store_line.ensures.line in
    let e = ap length c.push.ensures in
    let l = length-append c.loop-at.reply c.as_bytes.result.now in
    let b = ap length c.as_bytes.ensures.same in
    let s = c.store_line.ensures.short in
    let i = c.loop-at.invariant.size in
    record {
      text = store_more c.args.machine.now.state.queues.stores.sa c.loop-at.at c.in-Some.store c.loop-at.reply c.push.new.self
          (sym c.entry.ensures ∙ c.in-Some.is) c.loop-at.invariant.text (c.push.ensures ∙ ap (λ (t : List ℕ). c.loop-at.reply ++ t) line);
      size = omega (arith, e, l, b, s, i);
    }
