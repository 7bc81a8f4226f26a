use Rattle.std.specs.Prelude.{◌≡◌}
use Rattle.dae_select_live.specs.Members.{member}
use Rattle.dae_select_walks.specs.Live.{with_all, parameters_of}
use Rattle.dae_regalloc.proofs.places.live_at_entry.Given as goal

abbrev pub invariant-loop-parameter : goal.invariant-loop-parameter
invariant-loop-parameter l = member l.set ≡ with_all (member l.fn.before) (parameters_of l.parameter)
