use Rattle.std.proofs.Common.{◌≡◌, drop, []}
use Rattle.dae_types_sound.specs.Names.{used_counts}
use Rattle.dae_types_sound.proofs.tables.used_counts.Given as goal

abbrev pub invariant-loop-number : goal.invariant-loop-number
invariant-loop-number l =
    used_counts l.parts l.counts.items l.number (drop l.number l.routines) ≡ used_counts l.parts [] 0 l.routines
