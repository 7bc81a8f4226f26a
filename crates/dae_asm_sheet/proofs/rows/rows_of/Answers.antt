use Rattle.std.proofs.Common.{◌≡◌, ◌+◌, ◌≤◌, ℕ, List, [], ◌∷◌, ◌++◌, map, length, refl, sym, ap, ◌∙◌, subst, arith}
use Rattle.dae_asm_lines.specs.Lines.{seen}
use Rattle.dae_asm_order.specs.Sheets.{Row, AreItems, lines_of}
use Rattle.dae_asm_sheet.specs.declared.rows.Row as code
use Rattle.dae_asm_sheet.specs.Rows.{rows_seen, row_seen}
use Rattle.dae_asm_sheet.proofs.Collected.{Rest, from_start, further, not_bad, all_found}
use Rattle.dae_asm_sheet.proofs.rows.rows_of.Goals as goal

seen_more : (xs : List code.Row) (x : code.Row) → rows_seen (xs ++ (x ∷ [])) ≡ rows_seen xs ++ (row_seen x ∷ [])
seen_more [] x = refl
seen_more (y ∷ xs) x = ap (λ (rs : List Row). row_seen y ∷ rs) (seen_more xs x)

pub loop-item-init : goal.loop-item-init
loop-item-init c = record {
  walked = λ all items. rw c.new-rows.ensures.items (from_start c.args.text.now all c.of-lines.result c.of-lines.ensures.text c.of-lines.ensures.before items);
  fits = let e = ap length c.of-lines.ensures.text in let z = c.of-lines.ensures.before in omega arith;
}

pub loop-item-preserved : goal.loop-item-preserved
loop-item-preserved c = record {
  walked = λ all items.
      let r = further all (rows_seen c.loop-item.rows.items) c.loop-item.lines c.in-Item.after (seen c.in-Item.item) c.in-Item.line (c.loop-item.invariant.walked all items) c.in-Item.ensures in
      let more = ap rows_seen c.in_ok-push-in-Item.ensures.items ∙ seen_more c.loop-item.rows.items (record { line = c.in-Item.line; item = c.in-Item.item }) in
      subst (λ (found : List Row). Rest all found c.in-Item.after) (sym more) r;
  fits = let fits = c.in-Item.ensures.fits in omega arith;
}

pub returns-in-Bad : goal.returns-in-Bad
returns-in-Bad c = λ all items. absurd (not_bad all (rows_seen c.loop-item.rows.items) c.loop-item.lines c.in-Bad.field-0 (c.loop-item.invariant.walked all items) c.in-Bad.ensures)

pub returns-in-End : goal.returns-in-End
returns-in-End c = λ all items. all_found all (rows_seen c.loop-item.rows.items) c.loop-item.lines c.in-End.field-0 (c.loop-item.invariant.walked all items) c.in-End.ensures
