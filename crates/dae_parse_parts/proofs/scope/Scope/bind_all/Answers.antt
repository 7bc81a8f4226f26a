use Rattle.std.proofs.Common.{◌∙◌}
use Rattle.dae_parse_parts.proofs.NamesShown.{bound_next}
use Rattle.dae_parse_parts.proofs.scope.Scope.bind_all.Goals as goal

pub loop-binding-preserved : goal.loop-binding-preserved
loop-binding-preserved g c =
    c.in_ok-bind.ensures ∙ bound_next c.args.bindings.now c.loop-binding.binding-index c.binding-item.result c.args.self.now c.loop-binding.self c.loop-binding-test.true c.binding-item.is c.loop-binding.invariant
