use Rattle.std.proofs.Common.{◌≡◌, drop}
use Rattle.std.specs.List.{list_all}
use Rattle.dae_types_ready.specs.Reads.{is_reading_body}
use Rattle.dae_types_ready.proofs.ready.see_ready.Given as goal

abbrev pub invariant-loop-f : goal.invariant-loop-f
invariant-loop-f l = list_all is_reading_body (drop l.f-index l.functions) ≡ list_all is_reading_body l.functions
