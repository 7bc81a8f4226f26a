-- Commands by their words, and the words of settings.
use Rattle.std.proofs.Common.{◌≡◌, ℕ, true, if◌then◌else◌, List, [], ◌∷◌, map, refl, sym, ap, ◌∙◌}
use Rattle.std.specs.Prelude.{codes}
use Rattle.std.specs.List.{list_all}
use Rattle.std.specs.Str.{bytes_eq}
use Rattle.dae_cli_settings.specs.Settings.{OptionSetting, is_name, text_of}
use Rattle.dae_cli_words.specs.declared.command.Command.{Command}
use Rattle.dae_cli_words.specs.declared.command.Command.TheVariants.{Run, Big, Compile, Report, Exec, Trace, Time, Check, Debug, Guard, Asm, Dis}
use Rattle.dae_cli_words.specs.Parts.{AreDashed}
use Rattle.dae_cli_words.specs.Words.{names_of, word_of}

abbrev command_at : List ℕ → Command
command_at word =
    if bytes_eq word (codes "run") then Run
    else if bytes_eq word (codes "big") then Big
    else if bytes_eq word (codes "compile") then Compile
    else if bytes_eq word (codes "report") then Report
    else if bytes_eq word (codes "exec") then Exec
    else if bytes_eq word (codes "trace") then Trace
    else if bytes_eq word (codes "time") then Time
    else if bytes_eq word (codes "check") then Check
    else if bytes_eq word (codes "debug") then Debug
    else if bytes_eq word (codes "guard") then Guard
    else if bytes_eq word (codes "asm") then Asm
    else Dis

command_is : (c : Command) → command_at (word_of c) ≡ c
command_is Run = refl
command_is Big = refl
command_is Compile = refl
command_is Report = refl
command_is Exec = refl
command_is Trace = refl
command_is Time = refl
command_is Check = refl
command_is Debug = refl
command_is Guard = refl
command_is Asm = refl
command_is Dis = refl

pub same_command : (c d : Command) → word_of c ≡ word_of d → c ≡ d
same_command c d h = sym (command_is c) ∙ ap command_at h ∙ command_is d

pub names_ok : (c : Command) → list_all is_name (names_of c) ≡ true
names_ok Run = refl
names_ok Big = refl
names_ok Compile = refl
names_ok Report = refl
names_ok Exec = refl
names_ok Trace = refl
names_ok Time = refl
names_ok Check = refl
names_ok Debug = refl
names_ok Guard = refl
names_ok Asm = refl
names_ok Dis = refl

pub settings_dashed : (ss : List OptionSetting) → AreDashed (map text_of ss)
settings_dashed [] = tt
settings_dashed (s ∷ ss) = (refl, settings_dashed ss)
