use Rattle.std.proofs.Common.{subst}
use Rattle.std.proofs.lemmas.List.Elements.{recursion_from_All}
use Rattle.std.specs.List.{All}
use Rattle.dae_types_typed.specs.Sound.{IsSound}
use Rattle.dae_unit_join.proofs.Whole.{joined_lawful}
use Rattle.dae_unit_join.proofs.joining.join.Goals as goal

-- what the files join to is lawful
pub invariant_of-result : goal.invariant_of-result
invariant_of-result c = record {
  lawful = joined_lawful c.args.files.items c.args.memory c.in_ok-parts.parts (recursion_from_All IsSound c.args.files.items (subst (All IsSound) c.as_slice.ensures.value c.see_sound.ensures)) c.requires.memory c.in_ok-parts.ensures.ok;
}

pub returns-clause-parameters : goal.returns-clause-parameters
returns-clause-parameters c =
    c.joined_have_parameters.ensures c.args.files.items c.args.memory c.in_ok-parts.parts (recursion_from_All IsSound c.args.files.items (subst (All IsSound) c.as_slice.ensures.value c.see_sound.ensures)) c.requires.memory c.in_ok-parts.ensures.ok
