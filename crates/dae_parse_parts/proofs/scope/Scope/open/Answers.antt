use Rattle.std.proofs.Common.{◌∙◌}
use Rattle.dae_parse_parts.proofs.NamesShown.{scope_opened}
use Rattle.dae_parse_parts.proofs.scope.Scope.open.Goals as goal

pub invariant_of-self-2 : goal.invariant_of-self-2
invariant_of-self-2 g c =
    scope_opened c.self.inside.bindings.items c.self.inside.index c.self.inside.starts.items c.self.invariant c.push.new.self.items c.len.result c.in_ok-push.ensures.items (c.len.ensures ∙ c.self.inside.bindings.ok.0)
