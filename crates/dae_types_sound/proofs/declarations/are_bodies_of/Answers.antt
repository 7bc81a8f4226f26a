use Rattle.std.proofs.Common.{◌∙◌, ap, sym}
use Rattle.std.proofs.lemmas.List.{drop_all}
use Rattle.dae_types_typed.specs.Sound.{defined_routines, routines_in}
use Rattle.dae_types_sound.specs.Declarations.{same_numbers}
use Rattle.dae_types_sound.proofs.Steps.{none_left}
use Rattle.dae_types_sound.proofs.declarations.are_bodies_of.Goals as goal

pub returns : goal.returns
returns c =
    c.is_empty.ensures ∙ none_left c.loop-d.rest.now
    ∙ sym (ap (λ ds. same_numbers (routines_in c.loop-d.rest.now) (defined_routines ds)) (drop_all c.loop-d.d-index c.args.declarations.now c.loop-d-test.false)) ∙ c.loop-d.invariant
