use Rattle.std.proofs.Common.{rules, ◌≡◌, List, ◌∷◌, Option, refl, ap, subst, ◌∙◌, Bool}
use Rattle.dae_parse_states.specs.Kept.{Frame}
use Rattle.dae_parse_states.specs.Kept as frame
use Rattle.dae_parse_states.specs.declared.frames.ExpressionFrame.{ExpressionFrame}
use Rattle.dae_tree.specs.Trees.{Expression}
use Rattle.dae_parse_grammar.specs.Frames as plain
use Rattle.dae_parse_parts.specs.Scopes.{Scopes}
use Rattle.dae_parse_nodes.specs.Parts.{ShowsOptional}
use Rattle.dae_parse_states.specs.Frames.{ShowsStack, ShowsHead}
use Rattle.dae_parse_states.specs.States.{frames_of, outside_stack}
use Rattle.dae_parse.proofs.Popped.{popped_in_test, popped_in_start, popped_in_loop_test, popped_in_return}
use Rattle.dae_parse.proofs.Others.{other_expression}
use Rattle.dae_parse.proofs.given.give_expression.Goals as goal

pub returns-in_default : goal.returns-in_default
returns-in_default c = λ e h s k. other_expression e (frames_of c.args.machine.now) s _ _ k.0 c.in_default.ensures.stack

pub returns-in-InTest : goal.returns-in-InTest
returns-in-InTest c = λ e h s k.
    let below = frames_of c.pop_expression.new.self in
    let q = subst (λ (fs : List Frame). ShowsStack fs s) (c.in-Some.ensures.stack ∙ ap (λ (f : ExpressionFrame). frame.Expression f ∷ below) c.in-InTest.is) k.0 in
    let i = popped_in_test c.in-InTest.head c.in-InTest.paren below (λ (u : List plain.Frame). (a : plain.StatementHead) × (t : List plain.Frame) × (u ≡ plain.awaits_expression (plain.in_test a c.in-InTest.paren) ∷ t) × ShowsHead c.in-InTest.head a × ShowsStack below t) s q (λ a t x0 y. (a, t, refl, x0, y)) in
    let o = ap (λ (z : Scopes Bool). z.outside) c.in-Some.ensures.scope ∙ k.1 ∙ ap outside_stack i.2 in
    rw i.2 (let f = c.in_test.ensures e i.0 h i.3 i.1 (i.4, o) in search rules)

pub returns-in-InStart : goal.returns-in-InStart
returns-in-InStart c = λ e h s k.
    let below = frames_of c.pop_expression.new.self in
    let q = subst (λ (fs : List Frame). ShowsStack fs s) (c.in-Some.ensures.stack ∙ ap (λ (f : ExpressionFrame). frame.Expression f ∷ below) c.in-InStart.is) k.0 in
    let i = popped_in_start c.in-InStart.word c.in-InStart.paren below (λ (u : List plain.Frame). (t : List plain.Frame) × (u ≡ plain.awaits_expression (plain.in_start c.in-InStart.word c.in-InStart.paren) ∷ t) × ShowsStack below t) s q (λ t y. (t, refl, y)) in
    let o = ap (λ (z : Scopes Bool). z.outside) c.in-Some.ensures.scope ∙ k.1 ∙ ap outside_stack i.1 in
    rw i.1 (let f = c.in_start.ensures e h i.0 (i.2, o) in search rules)

pub returns-in-InLoopTest : goal.returns-in-InLoopTest
returns-in-InLoopTest c = λ e h s k.
    let below = frames_of c.pop_expression.new.self in
    let q = subst (λ (fs : List Frame). ShowsStack fs s) (c.in-Some.ensures.stack ∙ ap (λ (f : ExpressionFrame). frame.Expression f ∷ below) c.in-InLoopTest.is) k.0 in
    let i = popped_in_loop_test c.in-InLoopTest.word c.in-InLoopTest.paren c.in-InLoopTest.start c.in-InLoopTest.first below (λ (u : List plain.Frame). (a : Option Expression) × (t : List plain.Frame) × (u ≡ plain.awaits_expression (plain.in_loop_test c.in-InLoopTest.word c.in-InLoopTest.paren a c.in-InLoopTest.first) ∷ t) × ShowsOptional c.in-InLoopTest.start a × ShowsStack below t) s q (λ a t x0 y. (a, t, refl, x0, y)) in
    let o = ap (λ (z : Scopes Bool). z.outside) c.in-Some.ensures.scope ∙ k.1 ∙ ap outside_stack i.2 in
    rw i.2 (let f = c.in_loop_test.ensures e i.0 h i.3 i.1 (i.4, o) in search rules)

pub returns-in-InReturn : goal.returns-in-InReturn
returns-in-InReturn c = λ e h s k.
    let below = frames_of c.pop_expression.new.self in
    let q = subst (λ (fs : List Frame). ShowsStack fs s) (c.in-Some.ensures.stack ∙ ap (λ (f : ExpressionFrame). frame.Expression f ∷ below) c.in-InReturn.is) k.0 in
    let i = popped_in_return c.in-InReturn.place below (λ (u : List plain.Frame). (t : List plain.Frame) × (u ≡ plain.awaits_expression (plain.in_return c.in-InReturn.place) ∷ t) × ShowsStack below t) s q (λ t y. (t, refl, y)) in
    let o = ap (λ (z : Scopes Bool). z.outside) c.in-Some.ensures.scope ∙ k.1 ∙ ap outside_stack i.1 in
    rw i.1 (let f = c.in_return.ensures e h i.0 (i.2, o) in search rules)
