use Rattle.std.specs.Prelude.{drop}
use Rattle.dae_ir.specs.Streams.{actions_of}
use Rattle.dae_select_walks.specs.Live.{ways}
use Rattle.dae_select_live.specs.Members.{member}
use Rattle.dae_regalloc.specs.Seen.{ArePlacesOf}
use Rattle.dae_regalloc.proofs.places.+places.Given as goal

abbrev pub invariant-see_steps-loop-index : goal.invariant-see_steps-loop-index
invariant-see_steps-loop-index l =
    ArePlacesOf (actions_of (drop l.index l.steps)) (ways (member l.fn.next) (member l.leaves) (member l.skips)) l.initial.spans l.spans l.set
