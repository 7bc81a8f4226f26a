use Rattle.std.proofs.Common.{◌≡◌, drop}
use Rattle.std.specs.List.{list_all}
use Rattle.dae_program.specs.Lawful.{is_sound_slot}
use Rattle.dae_types_sound.proofs.functions.are_sound_slots.Given as goal

abbrev pub invariant-loop-slot : goal.invariant-loop-slot
invariant-loop-slot l = list_all (is_sound_slot l.frame) (drop l.slot-index l.slots) ≡ list_all (is_sound_slot l.frame) l.slots
