use Rattle.std.proofs.Common.{◌≡◌, drop, map}
use Rattle.dae_types_sound.specs.Distinct.{are_new, routine_names}
use Rattle.dae_types_sound.proofs.names.note_routines.Given as goal

abbrev pub invariant-loop-routine : goal.invariant-loop-routine
invariant-loop-routine l =
    are_new (map (λ k. k.now) l.seen.keys) (routine_names l.parts (drop l.routine-index l.parts.routines)) ≡ are_new (map (λ k. k.now) l.fn.seen.keys) (routine_names l.parts l.parts.routines)
