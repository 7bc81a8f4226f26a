use Rattle.std.proofs.Common.{◌≡◌, drop}
use Rattle.std.specs.List.{list_all}
use Rattle.dae_types_sound.specs.Fit.{is_fit_function}
use Rattle.dae_types_sound.proofs.functions.are_fit_functions.Given as goal

abbrev pub invariant-loop-f : goal.invariant-loop-f
invariant-loop-f l =
    list_all (is_fit_function l.parts l.names) (drop l.f-index l.parts.functions) ≡ list_all (is_fit_function l.parts l.names) l.parts.functions
