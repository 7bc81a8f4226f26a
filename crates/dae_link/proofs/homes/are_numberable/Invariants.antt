use Rattle.std.proofs.Common.{◌≡◌, drop}
use Rattle.std.specs.List.{list_all}
use Rattle.dae_link.specs.Settled.{is_numberable}
use Rattle.dae_link.proofs.homes.are_numberable.Given as goal

abbrev pub invariant-loop-function : goal.invariant-loop-function
invariant-loop-function l = list_all is_numberable (drop l.function-index l.stream.functions) ≡ list_all is_numberable l.stream.functions
