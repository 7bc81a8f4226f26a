use Rattle.dae_parse_parts.proofs.NamesShown.{bound_shown, scope_bound, scope_unbound}
use Rattle.dae_parse_parts.proofs.scope.Scope.bind.Goals as goal

pub invariant_of-self-in-Ok : goal.invariant_of-self-in-Ok
invariant_of-self-in-Ok g c =
    scope_bound c.self.inside.bindings.items c.self.inside.index c.self.inside.starts.items c.self.invariant c.push.new.self.items (record { name = c.args.name; bound = c.args.to }) c.push-2.new.self c.in_ok-push.ensures.items c.in-Ok.ensures.pushed

pub invariant_of-self-in-Err : goal.invariant_of-self-in-Err
invariant_of-self-in-Err g c =
    scope_unbound c.self.inside.bindings.items c.self.inside.index c.self.inside.starts.items c.self.invariant c.push.new.self.items c.pop.new.self.items (record { name = c.args.name; bound = c.args.to }) c.push.new.self.len c.push-2.new.self c.push.new.self.ok.0 c.in_ok-push.ensures.items c.pop.ensures.rest c.in-Err.ensures.kept

pub returns-in-Ok : goal.returns-in-Ok
returns-in-Ok g c =
    rw (c.in_ok-push.ensures.items, ← c.self.view_is) (bound_shown c.self.inside.bindings.items (record { name = c.args.name; bound = c.args.to }) c.self.inside.starts.items c.self.invariant.within)
