use Rattle.std.proofs.Common.{◌≡◌, List, ◌∷◌, refl, subst}
use Rattle.dae_tree.specs.Trees.{Expression, Specifiers, Declarator, InitDeclarator}
use Rattle.dae_parse_grammar.specs.Frames as plain
use Rattle.dae_parse_nodes.specs.Parts.{ShowsOperand, ShowsSpecified, ShowsDeclared, ShowsItems}
use Rattle.dae_parse_states.specs.declared.frames.Doing.{Doing}
use Rattle.dae_parse_states.specs.Frames.{ShowsDoing, manner_of}
use Rattle.dae_parse.proofs.Doings.{does_operated, does_calling, does_suffixing, does_gave_declarator, does_after_item}
use Rattle.dae_parse.proofs.step.step.Goals as goal

pub returns-in-GaveDeclarator : goal.returns-in-GaveDeclarator
returns-in-GaveDeclarator c = λ d s shows.
    let i = does_gave_declarator c.in-GaveDeclarator.declared (λ (u : plain.Doing). (e : Declarator) × (u ≡ plain.gave_declarator e) × ShowsDeclared c.in-GaveDeclarator.declared e) d (subst (λ (g : Doing). ShowsDoing g d) c.in-GaveDeclarator.is shows) (λ e x0. (e, refl, x0)) in
    rw i.1 (λ stands holds bottom count. c.give_declarator.ensures i.0 s i.2 stands holds)

pub returns-in-AfterItem : goal.returns-in-AfterItem
returns-in-AfterItem c = λ d s shows.
    let i = does_after_item c.in-AfterItem.specified c.in-AfterItem.items (λ (u : plain.Doing). (ws : Specifiers) × (a : InitDeclarator) × (is : List InitDeclarator) × (u ≡ plain.itemed ws a is) × ShowsSpecified c.in-AfterItem.specified ws × ShowsItems c.in-AfterItem.items (a ∷ is)) d (subst (λ (g : Doing). ShowsDoing g d) c.in-AfterItem.is shows) (λ ws a is x0 x1. (ws, a, is, refl, x0, x1)) in
    rw i.3 (λ stands holds bottom count. c.read_behind_item.ensures i.0 i.1 i.2 i.4 i.5 s stands)

pub returns-in-Operated : goal.returns-in-Operated
returns-in-Operated c = λ d s shows.
    let i = does_operated c.in-Operated.operand c.in-Operated.level (λ (u : plain.Doing). (e : Expression) × (u ≡ plain.operated e c.in-Operated.level) × ShowsOperand c.in-Operated.operand e) d (subst (λ (g : Doing). ShowsDoing g d) c.in-Operated.is shows) (λ e x0. (e, refl, x0)) in
    rw i.1 (λ stands holds bottom count. c.read_operator.ensures i.0 i.2 s stands)

pub returns-in-Calling : goal.returns-in-Calling
returns-in-Calling c = λ d s shows.
    let i = does_calling c.in-Calling.callee c.in-Calling.place c.in-Calling.level (λ (u : plain.Doing). (e : Expression) × (u ≡ plain.calling e c.in-Calling.place c.in-Calling.level) × ShowsOperand c.in-Calling.callee e) d (subst (λ (g : Doing). ShowsDoing g d) c.in-Calling.is shows) (λ e x0. (e, refl, x0)) in
    rw i.1 (λ stands holds bottom count. c.read_call.ensures i.0 i.2 s stands)

pub returns-in-Suffixing : goal.returns-in-Suffixing
returns-in-Suffixing c = λ d s shows.
    let i = does_suffixing c.in-Suffixing.manner c.in-Suffixing.declared (λ (u : plain.Doing). (e : Declarator) × (u ≡ plain.suffixing (manner_of c.in-Suffixing.manner) e) × ShowsDeclared c.in-Suffixing.declared e) d (subst (λ (g : Doing). ShowsDoing g d) c.in-Suffixing.is shows) (λ e x0. (e, refl, x0)) in
    rw i.1 (λ stands holds bottom count. c.read_suffix.ensures i.0 i.2 s stands)
