use Rattle.std.proofs.Common.{sym, ◌∙◌, None}
use Rattle.std.proofs.lemmas.Result.{on_ok_weaker}
use Rattle.dae_select_live.specs.Turns.{turns_told}
use Rattle.dae_select_live.proofs.Telling.{none_later, put_later, put_told, absent_later}
use Rattle.dae_select_live.proofs.turns.tell_turn.Goals as goal

pub returns-then-has_row : goal.returns-then-has_row
returns-then-has_row c =
    let old = turns_told c.args.turns.now in let new = turns_told c.set_row.new.turns in let key = c.key_of-key.result in
    record {
      later = on_ok_weaker c.set_row.result (λ h. put_later old new key None h (λ k same. none_later (old k))) c.set_row.ensures;
      told = on_ok_weaker c.set_row.result (λ h body step told. put_told old new key None h _ c.key_of-key.ensures body step tt) c.set_row.ensures;
    }

pub returns-else-has_row : goal.returns-else-has_row
returns-else-has_row c =
    let old = turns_told c.args.turns.now in let new = turns_told c.set_row-else-has_row.new.turns in let key = c.key_of-key.result in let row = c.args.row in
    let absent = sym c.has_row.ensures ∙ c.if-has_row.false in
    record {
      later = on_ok_weaker c.set_row-else-has_row.result (λ h. put_later old new key row h (absent_later old new key row h absent)) c.set_row-else-has_row.ensures;
      told = on_ok_weaker c.set_row-else-has_row.result (λ h body step told. put_told old new key row h _ c.key_of-key.ensures body step told) c.set_row-else-has_row.ensures;
    }
