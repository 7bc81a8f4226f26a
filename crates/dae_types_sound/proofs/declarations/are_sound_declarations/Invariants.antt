use Rattle.std.proofs.Common.{◌≡◌, drop}
use Rattle.std.specs.List.{list_all}
use Rattle.dae_types_sound.specs.Declarations.{is_sound_declaration}
use Rattle.dae_types_sound.proofs.declarations.are_sound_declarations.Given as goal

abbrev pub invariant-loop-d : goal.invariant-loop-d
invariant-loop-d l =
    list_all (is_sound_declaration l.parts) (drop l.d-index l.parts.declarations) ≡ list_all (is_sound_declaration l.parts) l.parts.declarations
