use Rattle.std.proofs.Common.{◌≡◌, List, Option, refl, subst}
use Rattle.dae_tree.specs.Trees.{Expression, Specifier, Declarator, Statement}
use Rattle.dae_tree.specs.Lists as lists
use Rattle.dae_parse_grammar.specs.Frames as plain
use Rattle.dae_parse_nodes.specs.Parts.{ShowsOperand, ShowsOptional, ShowsEnumerators, ShowsDeclared, ShowsStatement, ShowsLoop}
use Rattle.dae_parse_states.specs.declared.frames.Doing.{Doing}
use Rattle.dae_parse_states.specs.Frames.{ShowsBefore, ShowsBody, ShowsDoing, is_structure_kind, manner_of}
use Rattle.dae_parse.proofs.Doings.{does_tagged, does_enumerated, does_sizing, does_in_parameters, does_finishing, does_testing, does_stepping}
use Rattle.dae_parse.proofs.step.step_seldom.Goals as goal

pub returns-in-Enumerated : goal.returns-in-Enumerated
returns-in-Enumerated c = λ d s shows.
    let i = does_enumerated c.in-Enumerated.body c.in-Enumerated.list c.in-Enumerated.name (λ (u : plain.Doing). (a : plain.TypeBody) × (es : List lists.EnumEntry) × (u ≡ plain.enumerated a es c.in-Enumerated.name) × ShowsBody c.in-Enumerated.body a × ShowsEnumerators c.in-Enumerated.list es) d (subst (λ (g : Doing). ShowsDoing g d) c.in-Enumerated.is shows) (λ a es x0 x1. (a, es, refl, x0, x1)) in
    rw i.2 (λ stands. c.read_enumerator_value.ensures i.0 i.1 i.3 i.4 s stands)

pub returns-in-Finishing : goal.returns-in-Finishing
returns-in-Finishing c = λ d s shows.
    let parts = c.in-Finishing.parts in
    let i = does_finishing parts (λ (u : plain.Doing). (b : Statement) × (e : Expression) × (u ≡ plain.finishing parts.place b parts.word parts.paren e) × ShowsStatement parts.body b × ShowsOperand parts.test e) d (subst (λ (g : Doing). ShowsDoing g d) c.in-Finishing.is shows) (λ b e x0 x1. (b, e, refl, x0, x1)) in
    rw i.2 (λ stands. c.read_do_end.ensures i.0 i.1 i.3 i.4 s stands)

pub returns-in-Tagged : goal.returns-in-Tagged
returns-in-Tagged c = λ d s shows.
    let i = does_tagged c.in-Tagged.kind c.in-Tagged.place c.in-Tagged.name c.in-Tagged.seen c.in-Tagged.before (λ (u : plain.Doing). (ws : List Specifier) × (u ≡ plain.tagged (is_structure_kind c.in-Tagged.kind) c.in-Tagged.place c.in-Tagged.name c.in-Tagged.seen ws) × ShowsBefore c.in-Tagged.before ws) d (subst (λ (g : Doing). ShowsDoing g d) c.in-Tagged.is shows) (λ ws x0. (ws, refl, x0)) in
    rw i.1 (λ stands. c.read_body.ensures i.0 i.2 s stands)

pub returns-in-Sizing : goal.returns-in-Sizing
returns-in-Sizing c = λ d s shows.
    let i = does_sizing c.in-Sizing.manner c.in-Sizing.declared c.in-Sizing.place (λ (u : plain.Doing). (e : Declarator) × (u ≡ plain.sizing (manner_of c.in-Sizing.manner) e c.in-Sizing.place) × ShowsDeclared c.in-Sizing.declared e) d (subst (λ (g : Doing). ShowsDoing g d) c.in-Sizing.is shows) (λ e x0. (e, refl, x0)) in
    rw i.1 (λ stands. c.read_size.ensures i.0 i.2 s stands)

pub returns-in-InParameters : goal.returns-in-InParameters
returns-in-InParameters c = λ d s shows.
    let i = does_in_parameters c.in-InParameters.manner c.in-InParameters.declared c.in-InParameters.place (λ (u : plain.Doing). (e : Declarator) × (u ≡ plain.parametering (manner_of c.in-InParameters.manner) e c.in-InParameters.place) × ShowsDeclared c.in-InParameters.declared e) d (subst (λ (g : Doing). ShowsDoing g d) c.in-InParameters.is shows) (λ e x0. (e, refl, x0)) in
    rw i.1 (λ stands. c.read_parameters.ensures i.0 i.2 s stands)

pub returns-in-Testing : goal.returns-in-Testing
returns-in-Testing c = λ d s shows.
    let i = does_testing c.in-Testing.word c.in-Testing.paren c.in-Testing.start c.in-Testing.first (λ (u : plain.Doing). (a : Option Expression) × (u ≡ plain.testing c.in-Testing.word c.in-Testing.paren a c.in-Testing.first) × ShowsOptional c.in-Testing.start a) d (subst (λ (g : Doing). ShowsDoing g d) c.in-Testing.is shows) (λ a x0. (a, refl, x0)) in
    rw i.1 (λ stands. c.read_loop_test.ensures i.0 i.2 s stands)

pub returns-in-Stepping : goal.returns-in-Stepping
returns-in-Stepping c = λ d s shows.
    let i = does_stepping c.in-Stepping.parts (λ (u : plain.Doing). (a : plain.Loop) × (u ≡ plain.stepping a) × ShowsLoop c.in-Stepping.parts.value a) d (subst (λ (g : Doing). ShowsDoing g d) c.in-Stepping.is shows) (λ a x0. (a, refl, x0)) in
    rw i.1 (λ stands. c.read_loop_step.ensures i.0 i.2 s stands)
