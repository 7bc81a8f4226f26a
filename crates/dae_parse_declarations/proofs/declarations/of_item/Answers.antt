use Rattle.std.proofs.Common.{◌≡◌, List, sym, ap, subst, ◌∙◌}
use Rattle.dae_tree.specs.Marks.{TokenMark}
use Rattle.dae_tree.specs.Names.{Names, has_typedef, with_declarator}
use Rattle.dae_parse_grammar.specs.Machine.{item_given}
use Rattle.dae_parse_states.specs.Kept.{Frame}
use Rattle.dae_parse_states.specs.Frames.{is_allowed, ShowsStack}
use Rattle.dae_parse_declarations.proofs.declarations.of_item.Goals as goal

pub returns : goal.returns
returns c = λ d ws is a b k s m.
    let old = c.args.machine.now in
    let bound = c.in_ok-bind.ensures in
    let stack = subst (λ (fs : List Frame). ShowsStack fs s) (sym bound.stack) m.0 in
    let names = bound.names d a.name ∙ ap (λ is. with_declarator is d old.scope.names) b.typedef in
    let same : item_given (is_allowed c.args.function_body) d ws is s c.bind.new.self.scope.names c.bind.new.self.rest ≡ item_given (is_allowed c.args.function_body) d ws is s (with_declarator (has_typedef ws) d old.scope.names) old.rest =
    ap (λ (n : Names). item_given (is_allowed c.args.function_body) d ws is s n c.bind.new.self.rest) names ∙ ap (λ (ts : List TokenMark). item_given (is_allowed c.args.function_body) d ws is s (with_declarator (has_typedef ws) d old.scope.names) ts) bound.rest in
    rw (← same) (c.read_behind_declarator.ensures d ws is a b k s (stack, bound.outside ∙ m.1))
