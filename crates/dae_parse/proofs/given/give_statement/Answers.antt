use Rattle.std.proofs.Common.{rules, ◌≡◌, List, ◌∷◌, Option, length, refl, sym, ap, subst, ◌∙◌, Bool}
use Rattle.dae_parse_states.specs.Kept.{Frame}
use Rattle.dae_parse_states.specs.Kept as frame
use Rattle.dae_parse_states.specs.declared.frames.StatementFrame.{StatementFrame}
use Rattle.dae_tree.specs.Trees.{Expression, Specifiers, Declarator}
use Rattle.dae_tree.specs.Names.{Names}
use Rattle.dae_tree.specs.Marks.{TokenMark}
use Rattle.dae_parse_grammar.specs.Taken.{tokens_of}
use Rattle.dae_parse_grammar.specs.Frames as plain
use Rattle.dae_parse_parts.specs.Scopes.{Scopes}
use Rattle.dae_parse_nodes.specs.Parts.{ShowsOptional, ShowsLoop, ShowsSpecified, ShowsDeclared}
use Rattle.dae_parse_states.specs.Frames.{ShowsStack}
use Rattle.dae_parse_states.specs.States.{frames_of, outside_stack}
use Rattle.dae_parse.proofs.Popped.{popped_for_body, popped_in_definition}
use Rattle.dae_parse.proofs.Others.{other_statement}
use Rattle.dae_parse.proofs.given.give_statement.Goals as goal

pub returns-in_default : goal.returns-in_default
returns-in_default c = λ b s h i k l m. other_statement b (frames_of c.args.machine.now) s _ _ k.0 c.in_default.ensures.stack

pub returns-in-ForBody : goal.returns-in-ForBody
returns-in-ForBody c = λ b s h j k l m.
    let below = frames_of c.pop_statement.new.self in
    let q = subst (λ (fs : List Frame). ShowsStack fs s) (c.in-Some.ensures.stack ∙ ap (λ (f : StatementFrame). frame.Statement f ∷ below) c.in-ForBody.is) k.0 in
    let i = popped_for_body c.in-ForBody.parts c.in-ForBody.step below (λ (u : List plain.Frame). (a : plain.Loop) × (e : Option Expression) × (t : List plain.Frame) × (u ≡ plain.awaits_statement (plain.for_body a e) ∷ t) × ShowsLoop c.in-ForBody.parts.value a × ShowsOptional c.in-ForBody.step e × ShowsStack below t) s q (λ a e t x0 x1 y. (a, e, t, refl, x0, x1, y)) in
    let o = ap (λ (z : Scopes Bool). z.outside) c.in-Some.ensures.scope ∙ k.1 ∙ ap outside_stack i.3 in
    rw i.3 (let f = c.for_body.ensures b i.0 i.1 h i.4 i.5 i.2 (i.6, o) in search rules)

pub returns-in-InDefinition : goal.returns-in-InDefinition
returns-in-InDefinition c = λ b s h j k.
    let below = frames_of c.pop_statement.new.self in
    let q = subst (λ (fs : List Frame). ShowsStack fs s) (c.in-Some.ensures.stack ∙ ap (λ (f : StatementFrame). frame.Statement f ∷ below) c.in-InDefinition.is) k.0 in
    let i = popped_in_definition c.in-InDefinition.specified c.in-InDefinition.declared below (λ (u : List plain.Frame). (ws : Specifiers) × (e : Declarator) × (n : Names) × (t : List plain.Frame) × (u ≡ plain.awaits_statement (plain.in_definition ws e n) ∷ t) × ShowsSpecified c.in-InDefinition.specified ws × ShowsDeclared c.in-InDefinition.declared e × ShowsStack below t) s q (λ ws e n t x0 x1 y. (ws, e, n, t, refl, x0, x1, y)) in
    let o = ap (λ (z : Scopes Bool). z.outside) c.in-Some.ensures.scope ∙ k.1 ∙ ap outside_stack i.4 in
    rw i.4 (λ l m. let f = c.in_definition.ensures b i.0 i.1 i.2 i.3 h j i.5 i.6 l (subst (λ (ts : List TokenMark). length (tokens_of (plain.state (plain.gave_statement b) (plain.awaits_statement (plain.in_definition i.0 i.1 i.2) ∷ i.3) c.args.machine.now.scope.names ts)) ≡ c.args.total) (sym c.in-Some.ensures.rest) m) (i.7, o) in search rules)
