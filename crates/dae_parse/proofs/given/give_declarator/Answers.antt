use Rattle.std.proofs.Common.{rules, ◌≡◌, List, ◌∷◌, refl, ap, subst, ◌∙◌, Bool}
use Rattle.dae_parse_states.specs.Kept.{Frame}
use Rattle.dae_parse_states.specs.Kept as frame
use Rattle.dae_parse_states.specs.declared.frames.DeclaratorFrame.{DeclaratorFrame}
use Rattle.dae_parse_grammar.specs.Frames as plain
use Rattle.dae_parse_parts.specs.Scopes.{Scopes}
use Rattle.dae_parse_states.specs.Frames.{ShowsStack, manner_of}
use Rattle.dae_parse_states.specs.States.{frames_of, outside_stack}
use Rattle.dae_parse.proofs.Popped.{popped_in_group}
use Rattle.dae_parse.proofs.Others.{other_declarator}
use Rattle.dae_parse.proofs.given.give_declarator.Goals as goal

pub returns-in_default : goal.returns-in_default
returns-in_default c = λ d s h k l. other_declarator d (frames_of c.args.machine.now) s _ _ k.0 c.in_default.ensures.stack

pub returns-in-InGroup : goal.returns-in-InGroup
returns-in-InGroup c = λ d s h k l.
    let below = frames_of c.pop_declarator.new.self in
    let q = subst (λ (fs : List Frame). ShowsStack fs s) (c.in-Some.ensures.stack ∙ ap (λ (f : DeclaratorFrame). frame.Declarator f ∷ below) c.in-InGroup.is) k.0 in
    let i = popped_in_group c.in-InGroup.place c.in-InGroup.manner below (λ (u : List plain.Frame). (t : List plain.Frame) × (u ≡ plain.awaits_declarator (plain.in_group c.in-InGroup.place (manner_of c.in-InGroup.manner)) ∷ t) × ShowsStack below t) s q (λ t y. (t, refl, y)) in
    let o = ap (λ (z : Scopes Bool). z.outside) c.in-Some.ensures.scope ∙ k.1 ∙ ap outside_stack i.1 in
    rw i.1 (let f = c.in_group.ensures d h i.0 (i.2, o) in search rules)
