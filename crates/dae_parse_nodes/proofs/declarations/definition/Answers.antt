use Rattle.std.proofs.Common.{sym, ◌∙◌}
use Rattle.dae_parse_nodes.proofs.Blocks.{at_block, same_place, no_place}
use Rattle.dae_parse_nodes.proofs.Declaring.{place_some, place_none}
use Rattle.dae_parse_nodes.proofs.declarations.definition.Goals as goal

pub returns-in-Some : goal.returns-in-Some
returns-in-Some c = λ ws d p ds ss h k b.
    c.definition_at.ensures ws d p ds ss h k b (place_some ws c.in-Some.place p (sym c.in-Some.is ∙ h.place))

pub returns-in-Some-first : goal.returns-in-Some-first
returns-in-Some-first c = λ ws d p ds ss h k b.
    let e = sym c.in-Some-first.is ∙ c.first.ensures ∙ at_block c.args.body p ds ss b in
    c.definition_at-in-Some-first.ensures ws d p ds ss h k b (same_place c.in-Some-first.place p e ∙ place_none ws p (sym c.in-None.is ∙ h.place))

pub returns-in-None-first : goal.returns-in-None-first
returns-in-None-first c = λ ws d p ds ss h k b.
    absurd (no_place p (sym c.in-None-first.is ∙ c.first.ensures ∙ at_block c.args.body p ds ss b))
