use Rattle.std.proofs.Common.{◌≡◌, map, string_bytes, drop}
use Rattle.dae_cli_settings.proofs.Tested.{test}
use Rattle.dae_cli_settings.proofs.testing.are_settings.Given as goal

-- the words that are left decide
abbrev pub invariant-loop-i : goal.invariant-loop-i
invariant-loop-i l = test (map (λ n. n.now) l.names) (map string_bytes (drop l.i l.words)) ≡ test (map (λ n. n.now) l.names) (map string_bytes l.words)
