use Rattle.std.proofs.Common.{◌≡◌}
use Rattle.dae_lower_programs.proofs.Lists.{Starts}
use Rattle.dae_lower_programs.proofs.functions.lower_each.Given as goal

abbrev pub invariant-loop-f : goal.invariant-loop-f
invariant-loop-f l = (l.number ≡ l.f-index) × Starts l.program l.functions l.f-index l.forms.items
