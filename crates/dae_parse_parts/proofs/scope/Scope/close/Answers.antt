use Rattle.std.proofs.Common.{◌≡◌, ◌∷◌, [], ◌++◌, length, subst}
use Rattle.dae_parse_parts.specs.ShownNames.{AreWithin}
use Rattle.dae_parse_parts.proofs.NamesShown.{closed_shown, scope_closed}
use Rattle.dae_parse_parts.proofs.scope.Scope.close.Goals as goal

pub invariant_of-self : goal.invariant_of-self
invariant_of-self g c =
    scope_closed c.self.inside.bindings.items c.self.inside.index c.pop.new.self.items c.self.inside.starts.items c.in-Some.start c.in-Some.ensures.items c.self.invariant c.truncate.new.self.items c.truncate-in-Some.new.self c.truncate.ensures.items c.truncate-in-Some.ensures

pub returns-in-Some : goal.returns-in-Some
returns-in-Some g c =
    let bs = c.self.inside.bindings.items in
    let e : c.self.inside.starts.items ≡ c.pop.new.self.items ++ c.in-Some.start ∷ [] = c.in-Some.ensures.items in
    let h : AreWithin (length bs) (c.pop.new.self.items ++ c.in-Some.start ∷ []) = subst (AreWithin (length bs)) e c.self.invariant.within in
    rw (c.truncate.ensures.items, ← c.self.view_is, e) (closed_shown bs c.pop.new.self.items c.in-Some.start h)
