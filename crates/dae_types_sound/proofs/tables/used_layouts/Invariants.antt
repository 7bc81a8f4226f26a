use Rattle.std.proofs.Common.{◌≡◌, drop, []}
use Rattle.dae_types_sound.specs.Names.{used_layouts}
use Rattle.dae_types_sound.proofs.tables.used_layouts.Given as goal

abbrev pub invariant-loop-number : goal.invariant-loop-number
invariant-loop-number l =
    used_layouts l.parts l.layouts.items l.number (drop l.number l.parts.objects) ≡ used_layouts l.parts [] 0 l.parts.objects
