use Rattle.dae_parse_parts.proofs.NamesShown.{empty_scope}
use Rattle.dae_parse_parts.proofs.scope.Scope.new.Goals as goal

pub invariant_of-result : goal.invariant_of-result
invariant_of-result g c =
    empty_scope c.new-bindings.result.items c.new-index.result c.new-starts.result.items c.new-bindings.ensures.items c.new-index.ensures c.new-starts.ensures.items
