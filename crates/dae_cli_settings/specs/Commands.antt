-- The command of clap that reads settings of options, each in one word, and then files.
use Rattle.std.specs.Prelude.{List, [], ◌∷◌, ◌++◌, map, Some, true}
use Rattle.clap.specs.Lexer.{usize_max}
use Rattle.clap.specs.Walk.{Rule, Text}
use Rattle.clap.specs.Simple.{App, new_rule, new_shape}
use Rattle.dae_cli_settings.specs.Settings.{files_id}

abbrev pub option_rule : Text → Rule
option_rule name = record (new_rule name) { long = Some name }

abbrev pub files_rule : Rule
files_rule = record (new_rule files_id) { range = Some (record { start_inclusive = 1; end_inclusive = usize_max }) }

-- a command with no flag of its own, and arguments by these rules
abbrev pub app_with : Text → List Rule → App
app_with name rules = record { top = record (new_shape name) { no_binary_name = true; disable_help_flag = true; disable_version_flag = true; rules = rules }; subs = [] }

abbrev pub app_of_names : Text → List Text → App
app_of_names name names = app_with name (map option_rule names ++ files_rule ∷ [])
