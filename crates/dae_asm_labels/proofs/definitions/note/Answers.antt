use Rattle.std.proofs.Common.{Some, ◌∙◌, sym}
use Rattle.std.proofs.lemmas.Map.Text.{hash_map_updates_str}
use Rattle.dae_asm_labels.specs.Labels.{looks}
use Rattle.dae_asm_labels.proofs.Filled.{kept, added}
use Rattle.dae_asm_labels.proofs.definitions.note.Goals as goal

pub returns-then-contains_key : goal.returns-then-contains_key
returns-then-contains_key c = λ name other. kept (looks c.args.table.now) other c.args.definition c.args.label.now name (sym c.contains_key.ensures ∙ c.if-contains_key.true)

pub returns : goal.returns
returns c = λ name other. added (looks c.args.table.now) (looks c.insert.new.self) other c.args.definition c.args.label.now name (sym c.contains_key.ensures ∙ c.if-contains_key.false) (hash_map_updates_str c.args.label.now c.args.table.now c.insert.new.self (Some c.args.definition) c.in_ok-insert.ensures.updates name)
