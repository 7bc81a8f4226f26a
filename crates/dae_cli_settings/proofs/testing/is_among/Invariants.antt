use Rattle.std.proofs.Common.{◌≡◌, map, drop}
use Rattle.dae_cli_settings.specs.Settings.{is_among}
use Rattle.dae_cli_settings.proofs.testing.is_among.Given as goal

-- the names that are left decide
abbrev pub invariant-loop-known : goal.invariant-loop-known
invariant-loop-known l = is_among (map (λ n. n.now) (drop l.known-index l.names)) l.name ≡ is_among (map (λ n. n.now) l.names) l.name
