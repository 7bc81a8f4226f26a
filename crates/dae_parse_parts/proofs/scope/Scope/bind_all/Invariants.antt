use Rattle.std.proofs.Common.{◌≡◌, take}
use Rattle.dae_parse_parts.specs.ShownNames.{bound_all}
use Rattle.dae_parse_parts.proofs.scope.Scope.bind_all.Given as goal

abbrev pub invariant-loop-binding : goal.invariant-loop-binding
invariant-loop-binding g l = l.self ≡ record { names = bound_all (take l.binding-index l.bindings) l.fn.self.names; outside = l.fn.self.outside }
