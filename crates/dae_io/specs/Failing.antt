-- Calls that are to fail, by their numbers.
use Rattle.std.specs.Prelude.{ℕ, ◌==◌, List, Option, option_map}
use Rattle.std.specs.List.{find}
use Rattle.dae_io.specs.declared.failing.FailingCall.{FailingCall}

-- how many bytes the call with this number takes at most, where it is listed as failing
abbrev pub failing_at : List FailingCall → ℕ → Option ℕ
failing_at failing call = option_map (λ f. f.taken) (find (λ f. f.call == call) failing)
