use Rattle.std.proofs.Common.{◌≡◌, map, take}
use Rattle.std.specs.Prelude.{codes}
use Rattle.clap.specs.Simple.{app_of}
use Rattle.dae_cli_settings.specs.Commands.{app_with, option_rule}
use Rattle.dae_cli_settings.proofs.matching.command_with.Given as goal

-- the options so far
abbrev pub invariant-loop-name : goal.invariant-loop-name
invariant-loop-name l = app_of l.command ≡ app_with (codes "job") (map option_rule (map (λ n. n.now) (take l.name-index l.names)))
