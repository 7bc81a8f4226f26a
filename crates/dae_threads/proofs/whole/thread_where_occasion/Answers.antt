use Rattle.std.proofs.Common.{refl}
use Rattle.dae_ir.specs.Form.{form_of}
use Rattle.dae_threads.specs.Threaded.{Unchanged}
use Rattle.dae_threads.proofs.whole.thread_where_occasion.Goals as goal

pub returns-else-may_change : goal.returns-else-may_change
returns-else-may_change c = record {
  name = refl;
  parameters = refl;
  variables = refl;
  frame = refl;
  body = Unchanged (form_of c.args.function.body);
}
