-- Words that spell a job, by their parts; and those that spell none.
use Rattle.std.proofs.Common.{◌≡◌, ◌≢◌, ℕ, Bool, true, false, not, nat_eq, if◌then◌else◌, List, ◌∷◌, ◌++◌, map, refl, sym, ap, ◌∙◌, subst, arith, []}
use Rattle.std.specs.Prelude.{Option, None, Some, MatchOption, is_some}
use Rattle.std.specs.List.{list_all}
use Rattle.std.proofs.lemmas.Bool.{and_from, and_parts}
use Rattle.dae_base.proofs.Laws.{is_true}
use Rattle.dae_cli_options.specs.Names.{AreFiles, is_file_name}
use Rattle.dae_cli_settings.specs.Settings.{AreParts, AreSettings, OptionSetting, given, is_plain, text_of}
use Rattle.dae_cli_words.specs.declared.command.Command.{Command}
use Rattle.dae_cli_words.specs.declared.values.Chosen.{Chosen}
use Rattle.dae_cli_words.specs.Asked.{Asked}
use Rattle.dae_cli_words.specs.Parts.{AreDashed, IsPlain}
use Rattle.dae_cli_words.specs.Values.{AreChosen}
use Rattle.dae_cli_words.specs.Words.{AskFor, AsksFor, SpellsJob, names_of, word_of}
use Rattle.dae_cli_words.proofs.Commands.{same_command, settings_dashed}
use Rattle.dae_cli_words.proofs.Fronts.{files_plain, same_middle}

pub ask : (command d : Command) (found : List ℕ → Option (List ℕ)) (files : List (List ℕ)) (job : Asked) (chosen : Chosen) → command ≡ d → AreChosen found chosen → AsksFor d found chosen files job → AskFor command found files job
ask command d found files job chosen is are asks = record { chosen = chosen; are_chosen = are; asks = subst (λ (x : Command). AsksFor x found chosen files job) (sym is) asks }

pub with_names : (ns ms rest : List (List ℕ)) (ss : List OptionSetting) (fs : List (List ℕ)) → ns ≡ ms → AreParts ns rest ss fs → AreParts ms rest ss fs
with_names ns ms rest ss fs e h = subst (λ (names : List (List ℕ)). AreParts names rest ss fs) e h

-- words of a command, with words in the middle that begin with dashes, and words behind them
module _ (words : List (List ℕ)) (word : List ℕ) (rest middle files : List (List ℕ)) (c : Command) (is : words ≡ word ∷ rest) (whole : rest ≡ middle ++ files) (named : word ≡ word_of c) (dashed : AreDashed middle) (plain : IsPlain files) where
  same : (job : Asked) (h : SpellsJob words job) → (h.command ≡ c) × (map text_of h.settings ≡ middle) × (h.files ≡ files)
  same job h =
      let e = sym h.words_are ∙ is in
      let first : word_of h.command ≡ word = cc in
      let tail : map text_of h.settings ++ h.files ≡ rest = cc in
      let parts = same_middle (map text_of h.settings) middle h.files files (settings_dashed h.settings) dashed (files_plain h.files h.are_files) plain (tail ∙ whole) in
      (same_command h.command c (first ∙ named), parts.0, parts.1)

  pub no_files : ¬ (AreFiles files) → (job : Asked) → ¬ (SpellsJob words job)
  no_files none job h = none (subst AreFiles (same job h).2 h.are_files)

  settings_in : (job : Asked) (h : SpellsJob words job) → (middle ≡ map text_of h.settings) × AreSettings (names_of c) h.settings
  settings_in job h = let s = same job h in (sym s.1, subst (λ (d : Command). AreSettings (names_of d) h.settings) s.0 h.are_settings)

  pub no_settings : ((ss : List OptionSetting) → middle ≡ map text_of ss → ¬ (AreSettings (names_of c) ss)) → (job : Asked) → ¬ (SpellsJob words job)
  no_settings none job h = let s = settings_in job h in none h.settings s.0 s.1

  ask_in : (job : Asked) (h : SpellsJob words job) → AskFor c (given h.settings) files job
  ask_in job h =
      let s = same job h in
      subst (λ (fs : List (List ℕ)). AskFor c (given h.settings) fs job) s.2 (subst (λ (d : Command). AskFor d (given h.settings) h.files job) s.0 h.asks)

  file_plain : (name : List ℕ) → is_file_name name ≡ true → is_plain name ≡ true
  file_plain [] h = refl
  file_plain (b ∷ bs) h = by_first (nat_eq b 45) (and_parts (not (nat_eq b 45)) _ h).0 where
    by_first : (t : Bool) → not t ≡ true → not (is_some (if t then Some bs else None)) ≡ true
    by_first true e = absurd (cc)
    by_first false e = refl

  all_plain : (names : List (List ℕ)) → list_all is_file_name names ≡ true → list_all is_plain names ≡ true
  all_plain [] h = refl
  all_plain (n ∷ ns) h = let parts = and_parts (is_file_name n) (list_all is_file_name ns) h in and_from _ _ (file_plain n parts.0) (all_plain ns parts.1)

  pub are_parts : (ss : List OptionSetting) → middle ≡ map text_of ss → AreSettings (names_of c) ss → AreFiles files → AreParts (names_of c) rest ss files
  are_parts ss e h f =
      let few = f.few in
      record {
        words_are = whole ∙ ap (λ m. m ++ files) e;
        are_settings = h;
        some = f.some;
        few = omega (arith, few);
        plain = all_plain files (is_true (list_all is_file_name files) f.named);
      }

  -- what is found for the options is what the settings give
  module _ (found : List ℕ → Option (List ℕ)) (reads : (ss : List OptionSetting) (fs : List (List ℕ)) → AreParts (names_of c) rest ss fs → found ≡ given ss) (f : AreFiles files) where
    pub no_ask : ((job : Asked) → ¬ (AskFor c found files job)) → (job : Asked) → ¬ (SpellsJob words job)
    no_ask none job h =
        let s = settings_in job h in
        let same_found = reads h.settings files (are_parts h.settings s.0 s.1 f) in
        none job (subst (λ g. AskFor c g files job) (sym same_found) (ask_in job h))

    pub asks_job : (ss : List OptionSetting) → middle ≡ map text_of ss → AreSettings (names_of c) ss → (job : Asked) → AskFor c found files job → SpellsJob words job
    asks_job ss e h job asks = record {
      command = c;
      settings = ss;
      files = files;
      words_are = is ∙ (ap (λ w. w ∷ rest) named ∙ ap (λ ws. word_of c ∷ ws) (whole ∙ ap (λ m. m ++ files) e));
      are_settings = h;
      are_files = f;
      asks = subst (λ g. AskFor c g files job) (reads ss files (are_parts ss e h f)) asks;
    }

    pub answer : {J : Type 0} (plain_job : J → Asked) (ss : List OptionSetting) → middle ≡ map text_of ss → AreSettings (names_of c) ss → (o : Option J)
        → MatchOption o ((job : Asked) → ¬ (AskFor c found files job)) (λ j. AskFor c found files (plain_job j))
        → MatchOption o ((job : Asked) → ¬ (SpellsJob words job)) (λ j. SpellsJob words (plain_job j))
    answer {J} plain_job ss e h None asks = no_ask asks
    answer {J} plain_job ss e h (Some j) asks = asks_job ss e h (plain_job j) asks
