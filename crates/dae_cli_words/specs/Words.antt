-- The words that spell a job: its command, its options in any order and each at most once, and the names of files.
use Rattle.std.specs.Prelude.{◌≡◌, ℕ, List, [], ◌∷◌, ◌++◌, map, codes, Option, Some}
use Rattle.dae_cli_options.specs.Names.{AreFiles, IsFileName}
use Rattle.dae_cli_options.specs.Spelling.{SpellsNumber}
use Rattle.dae_cli_settings.specs.Settings.{AreSettings, OptionSetting, given, text_of}
use Rattle.dae_cli_words.specs.declared.command.Command.{Command}
use Rattle.dae_cli_words.specs.declared.command.Command.TheVariants as cmd
use Rattle.dae_cli_words.specs.declared.values.Chosen.{Chosen}
use Rattle.dae_cli_words.specs.Asked.{Asked, Run, Big, Compile, Report, Exec, Trace, Time, Check, Debug, Guard, Asm, Dis}
use Rattle.dae_cli_words.specs.Values.{AreChosen}

-- ---- the commands: the word of each, the options that it takes, and what it asks for

abbrev pub word_of : Command → List ℕ
word_of cmd.Run = codes "run"
word_of cmd.Big = codes "big"
word_of cmd.Compile = codes "compile"
word_of cmd.Report = codes "report"
word_of cmd.Exec = codes "exec"
word_of cmd.Trace = codes "trace"
word_of cmd.Time = codes "time"
word_of cmd.Check = codes "check"
word_of cmd.Debug = codes "debug"
word_of cmd.Guard = codes "guard"
word_of cmd.Asm = codes "asm"
word_of cmd.Dis = codes "dis"

abbrev pub depth_names : List (List ℕ)
depth_names = codes "ld" ∷ codes "al" ∷ codes "sa" ∷ codes "sd" ∷ codes "ab" ∷ codes "eb" ∷ codes "cq" ∷ []

abbrev pub turn_names : List (List ℕ)
turn_names = codes "schedule" ∷ codes "steps" ∷ []

abbrev pub show_name : List (List ℕ)
show_name = codes "show" ∷ []

abbrev pub compiling_names : List (List ℕ)
compiling_names = codes "memory" ∷ codes "calls" ∷ codes "cap" ∷ []

abbrev pub tick_names : List (List ℕ)
tick_names = codes "load" ∷ codes "mul" ∷ codes "div" ∷ codes "ticks" ∷ []

abbrev pub to_name : List (List ℕ)
to_name = codes "to" ∷ []

abbrev pub names_of : Command → List (List ℕ)
names_of cmd.Run = depth_names ++ turn_names ++ show_name ++ compiling_names
names_of cmd.Big = depth_names ++ turn_names ++ show_name ++ compiling_names
names_of cmd.Compile = to_name ++ compiling_names
names_of cmd.Report = compiling_names
names_of cmd.Exec = depth_names ++ turn_names ++ show_name
names_of cmd.Trace = depth_names ++ turn_names
names_of cmd.Time = depth_names ++ show_name ++ tick_names
names_of cmd.Check = depth_names
names_of cmd.Debug = depth_names
names_of cmd.Guard = depth_names
names_of cmd.Asm = to_name
names_of cmd.Dis = []

-- the name under which an image is to be kept
pub record IsKept (found : List ℕ → Option (List ℕ)) (to : List ℕ) : Type 0 where
  pub is_given : found (codes "to") ≡ Some to
  pub named : IsFileName to

-- what a command asks for, by what is found for its options and what that chooses, and the files
abbrev pub AsksFor : Command → (found : List ℕ → Option (List ℕ)) → Chosen → (files : List (List ℕ)) → Asked → Type 0
AsksFor cmd.Run found chosen files job = job ≡ Run chosen.compiling chosen.running files
AsksFor cmd.Big found chosen files job =
    (text : List ℕ) × (n : ℕ) × (files ≡ text ∷ []) × SpellsNumber 1 900 text n × (job ≡ Big chosen.compiling chosen.running n)
AsksFor cmd.Compile found chosen files job = (to : List ℕ) × IsKept found to × (job ≡ Compile chosen.compiling to files)
AsksFor cmd.Report found chosen files job = job ≡ Report chosen.compiling files
AsksFor cmd.Exec found chosen files job = (name : List ℕ) × (files ≡ name ∷ []) × (job ≡ Exec chosen.running name)
AsksFor cmd.Trace found chosen files job = (name : List ℕ) × (files ≡ name ∷ []) × (job ≡ Trace chosen.running name)
AsksFor cmd.Time found chosen files job =
    (name : List ℕ) × (files ≡ name ∷ []) × (job ≡ Time chosen.running chosen.costs chosen.ticks name)
AsksFor cmd.Check found chosen files job =
    (name : List ℕ) × (trace : List ℕ) × (files ≡ name ∷ trace ∷ []) × (job ≡ Check chosen.running.depths name trace)
AsksFor cmd.Debug found chosen files job =
    (name : List ℕ) × (script : List ℕ) × (files ≡ name ∷ script ∷ []) × (job ≡ Debug chosen.running.depths name script)
AsksFor cmd.Guard found chosen files job =
    (name : List ℕ) × (certificate : List ℕ) × (files ≡ name ∷ certificate ∷ []) × (job ≡ Guard chosen.running.depths name certificate)
AsksFor cmd.Asm found chosen files job =
    (to : List ℕ) × (name : List ℕ) × IsKept found to × (files ≡ name ∷ []) × (job ≡ Asm to name)
AsksFor cmd.Dis found chosen files job = (name : List ℕ) × (files ≡ name ∷ []) × (job ≡ Dis name)

-- a command, what is found for options and the files ask for a job
pub record AskFor (command : Command) (found : List ℕ → Option (List ℕ)) (files : List (List ℕ)) (job : Asked) : Type 0 where
  pub chosen : Chosen
  pub are_chosen : AreChosen found chosen
  pub asks : AsksFor command found chosen files job

-- the words spell this job
pub record SpellsJob (words : List (List ℕ)) (job : Asked) : Type 0 where
  pub command : Command
  pub settings : List OptionSetting
  pub files : List (List ℕ)
  pub words_are : words ≡ word_of command ∷ (map text_of settings ++ files)
  pub are_settings : AreSettings (names_of command) settings
  pub are_files : AreFiles files
  pub asks : AskFor command (given settings) files job
