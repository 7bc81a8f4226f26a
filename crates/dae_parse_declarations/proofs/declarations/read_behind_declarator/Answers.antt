use Rattle.std.proofs.Common.{◌≡◌, false, List, Some, sym, subst, rules}
use Rattle.std.specs.Prelude.{IfOk}
use Rattle.dae_tree.specs.Marks.{TokenMark}
use Rattle.dae_tree.specs.declared.signs.Sign.TheVariants as signs
use Rattle.dae_parse_grammar.specs.Machine.{item_given}
use Rattle.dae_parse_states.specs.declared.frames.FunctionBody.{FunctionBody}
use Rattle.dae_parse_states.specs.Fronts.{sign_at}
use Rattle.dae_parse_states.specs.Frames.{is_allowed}
use Rattle.dae_parse_states.specs.States.{Follows}
use Rattle.dae_parse_declarations.proofs.declarations.read_behind_declarator.Goals as goal

pub returns-in-Excluded : goal.returns-in-Excluded
returns-in-Excluded c = λ d ws is a b k s m.
    let w = c.in_default.ensures in
    let none : ¬ (sign_at c.take_sign.new.self ≡ Some signs.Assign) = subst (λ (ts : List TokenMark). ¬ (sign_at ts ≡ Some signs.Assign)) (sym w.0) w.1 in
    let h = c.read_behind_inner.ensures d ws is none a b k s m in
    subst (λ (o : FunctionBody). IfOk c.read_behind_inner.result (λ r. Follows r c.read_behind_inner.new.machine (item_given (is_allowed o) d ws is s c.args.machine.now.scope.names c.args.machine.now.rest))) (sym c.in-Excluded.is)
    (subst (λ (ts : List TokenMark). IfOk c.read_behind_inner.result (λ r. Follows r c.read_behind_inner.new.machine (item_given false d ws is s c.args.machine.now.scope.names ts))) w.0 h)

pub returns-then-has_items : goal.returns-then-has_items
returns-then-has_items c = λ d ws is a b k s m. let e = c.if-has_items.ensures is k in let h = c.read_behind_later.ensures (is_allowed c.args.function_body) d ws is in search rules

pub returns-else-has_items : goal.returns-else-has_items
returns-else-has_items c = λ d ws is a b k s m.
    let e = c.if-has_items.ensures is k in
    let h = c.read_behind_first.ensures d ws is in
    subst (λ (o : FunctionBody). IfOk c.read_behind_first.result (λ r. Follows r c.read_behind_first.new.machine (item_given (is_allowed o) d ws is s c.args.machine.now.scope.names c.args.machine.now.rest))) (sym c.in-Allowed.is) (search rules)
