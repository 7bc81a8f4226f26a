use Rattle.std.proofs.Common.{◌≡◌, map, string_bytes, drop}
use Rattle.std.specs.List.{list_any}
use Rattle.dae_cli_settings.specs.Settings.{sets_name}
use Rattle.dae_cli_settings.proofs.testing.any_sets.Given as goal

-- the words that are left decide
abbrev pub invariant-loop-word : goal.invariant-loop-word
invariant-loop-word l = list_any (λ w. sets_name w l.name) (map string_bytes (drop l.word-index l.words)) ≡ list_any (λ w. sets_name w l.name) (map string_bytes l.words)
