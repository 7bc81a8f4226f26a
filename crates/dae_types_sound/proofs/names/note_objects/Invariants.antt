use Rattle.std.proofs.Common.{◌≡◌, drop, map}
use Rattle.dae_types_sound.specs.Distinct.{are_new, object_names, with_names}
use Rattle.dae_types_sound.proofs.names.note_objects.Given as goal

abbrev pub invariant-loop-object : goal.invariant-loop-object
invariant-loop-object l =
    record {
      fresh : are_new (map (λ k. k.now) l.seen.keys) (object_names l.parts (drop l.object-index l.parts.objects)) ≡ are_new (map (λ k. k.now) l.fn.seen.keys) (object_names l.parts l.parts.objects);
      noted : with_names (map (λ k. k.now) l.seen.keys) (object_names l.parts (drop l.object-index l.parts.objects)) ≡ with_names (map (λ k. k.now) l.fn.seen.keys) (object_names l.parts l.parts.objects);
    }
