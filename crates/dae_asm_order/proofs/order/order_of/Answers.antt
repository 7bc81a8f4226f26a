use Rattle.std.proofs.Common.{◌∙◌, sym, ap, length, arith}
use Rattle.dae_asm_lines.specs.Lines.{seen}
use Rattle.dae_asm_order.proofs.Walked.{at_start, further, bad_item, bad_text, all_in_order, one_missing}
use Rattle.dae_asm_order.proofs.order.order_of.Goals as goal

pub loop-item-init : goal.loop-item-init
loop-item-init c = record {
  walked = at_start c.args.text.now c.of-lines.result c.of-lines.ensures.text c.of-lines.ensures.before;
  fits = let e = ap length c.of-lines.ensures.text in let z = c.of-lines.ensures.before in omega arith;
}

pub returns-in-Bad-clause-err : goal.returns-in-Bad-clause-err
returns-in-Bad-clause-err c = bad_text c.args.text.now c.loop-item.lines c.loop-item.place c.in-Bad.line c.loop-item.invariant.walked c.in-Bad.ensures

pub returns-in-End-clause-ok : goal.returns-in-End-clause-ok
returns-in-End-clause-ok c = all_in_order c.args.text.now c.loop-item.lines c.loop-item.place c.in-End.field-0 c.loop-item.invariant.walked c.in-End.ensures (sym c.if-is_last.ensures)

pub overflow_add-result : goal.overflow_add-result
overflow_add-result c = let fits = c.in-End.ensures.fits in omega arith

pub returns-in-End-2-clause-err : goal.returns-in-End-2-clause-err
returns-in-End-2-clause-err c = one_missing c.args.text.now c.loop-item.lines c.loop-item.place c.in-End.field-0 c.loop-item.invariant.walked c.in-End.ensures (sym c.if-is_last.ensures)

pub returns-in_default-clause-err : goal.returns-in_default-clause-err
returns-in_default-clause-err c = bad_item c.args.text.now c.loop-item.lines c.in-Item.after c.loop-item.place (seen c.in-Item.item) c.in-Item.line c.loop-item.invariant.walked c.in-Item.ensures (sym c.place_behind.ensures ∙ c.in_default.is)

pub loop-item-preserved : goal.loop-item-preserved
loop-item-preserved c = record {
  walked = further c.args.text.now c.loop-item.lines c.in-Item.after c.loop-item.place c.in-Some.behind (seen c.in-Item.item) c.in-Item.line c.loop-item.invariant.walked c.in-Item.ensures (sym c.place_behind.ensures ∙ c.in-Some.is);
  fits = let fits = c.in-Item.ensures.fits in omega arith;
}
