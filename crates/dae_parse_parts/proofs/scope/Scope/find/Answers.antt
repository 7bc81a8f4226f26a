use Rattle.std.proofs.Common.{◌<◌, length, arith}
use Rattle.dae_parse_parts.proofs.NamesShown.{bound_found, bound_inside, bound_nowhere}
use Rattle.dae_parse_parts.proofs.scope.Scope.find.Goals as goal

pub index-binding-requires : goal.index-binding-requires
index-binding-requires g c =
    let inside : c.in-Some.at < length c.self.inside.bindings.items = bound_inside c.self.inside.bindings.items c.self.inside.index c.self.inside.starts.items c.self.invariant c.args.name c.in-Some.at c.in-Some.ensures in
    omega (arith, inside, c.self.inside.bindings.ok.0)

pub returns-in-Some : goal.returns-in-Some
returns-in-Some g c =
    rw (← c.self.view_is) (bound_found c.self.inside.bindings.items c.self.inside.index c.self.inside.starts.items c.self.invariant c.args.name c.in-Some.at c.index-binding.result.now c.in-Some.ensures c.index-binding.ensures)

pub returns-in-None : goal.returns-in-None
returns-in-None g c =
    rw (← c.self.view_is) (bound_nowhere c.self.inside.bindings.items c.self.inside.index c.self.inside.starts.items c.self.invariant c.args.name c.in-None.ensures)
