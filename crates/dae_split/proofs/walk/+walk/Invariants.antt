use Rattle.std.specs.Prelude.{◌≤◌, [], drop}
use Rattle.dae_ir.specs.Form.{form_of}
use Rattle.dae_ir.specs.Classes.{classes_of}
use Rattle.dae_ir.specs.Rounds.{rounds}
use Rattle.dae_split.specs.Making.{is_a, lies_outside, CallsFit, projected, Makes}
use Rattle.dae_split.proofs.walk.+walk.Given as goal

abbrev pub invariant-list-loop-statement : goal.invariant-list-loop-statement
invariant-list-loop-statement l = record {
  made : Makes (projected (lies_outside l.zone) (is_a l.task.side) (classes_of l.tables) (classes_of l.tables l.task.function) l.task.cap)
      [] 0 l.x.steps.items l.x.number
      (rounds (classes_of l.tables l.task.function) l.task.cap (lies_outside l.zone) (form_of (drop l.statement-index l.body)) l.x.group.items)
      (rounds (classes_of l.tables l.task.function) l.task.cap (lies_outside l.zone) (form_of l.body) []);
  few : l.x.number ≤ l.statement-index;
  fit : CallsFit l.functions (form_of (drop l.statement-index l.body));
}
