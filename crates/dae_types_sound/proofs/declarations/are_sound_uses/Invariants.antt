use Rattle.std.proofs.Common.{◌≡◌, drop}
use Rattle.std.specs.List.{list_all}
use Rattle.dae_types_sound.specs.Declarations.{is_sound_use}
use Rattle.dae_types_sound.proofs.declarations.are_sound_uses.Given as goal

abbrev pub invariant-loop-used : goal.invariant-loop-used
invariant-loop-used l =
    list_all (is_sound_use l.parts) (drop l.used-index l.parts.uses) ≡ list_all (is_sound_use l.parts) l.parts.uses
