use Rattle.std.proofs.Common.{List, ap, ◌∙◌}
use Rattle.dae_types_typed.specs.declared.files.TypedFunction.{TypedFunction}
use Rattle.dae_unit.specs.Meanings.{functions_in}
use Rattle.dae_unit_join.proofs.Behind.{further_file, further_number}
use Rattle.dae_unit_join.proofs.meanings.functions_of.Goals as goal

-- one more file
pub loop-file-preserved : goal.loop-file-preserved
loop-file-preserved c = record {
  items = further_file c.loop-file.yielded c.in-Some.file c.loop-file.number c.loop-file.functions.items c.push_functions.new.functions.items c.loop-file.invariant.number c.loop-file.invariant.items
      (c.in_ok-push_functions.ensures ∙ ap (λ (bodies : List TypedFunction). functions_in c.loop-file.functions.items c.loop-file.number bodies) c.functions_of_file.ensures);
  number = further_number c.loop-file.yielded c.in-Some.file c.loop-file.number c.saturating_add-number.result c.loop-file.invariant.number c.saturating_add-number.ensures;
}
