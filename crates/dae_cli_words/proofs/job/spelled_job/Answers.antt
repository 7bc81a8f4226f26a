use Rattle.std.proofs.Common.{◌≡◌, ℕ, List, map, string_bytes, sym, ◌∙◌, subst, rules}
use Rattle.std.specs.Borrow.{Bor}
use Rattle.dae_cli_options.specs.Names.{AreFiles}
use Rattle.dae_cli_settings.specs.Settings.{AreSettings, OptionSetting, option_in, text_of}
use Rattle.dae_cli_words.specs.Asked.{asked}
use Rattle.dae_cli_words.proofs.Asking.{answer, are_parts, no_files, no_settings, with_names}
use Rattle.dae_cli_words.proofs.Fronts.{first_and}
use Rattle.dae_cli_words.proofs.job.spelled_job.Goals as goal

pub returns-then-not-are_files-clause-job : goal.returns-then-not-are_files-clause-job
returns-then-not-are_files-clause-job c =
    let first = first_and string_bytes c.args.words.now c.word-item.result (search rules) c.word-item.is in
    let none : ¬ (AreFiles (map string_bytes c.parted.result.1.now)) = search rules in
    no_files _ _ _ _ _ c.in-Some.command first c.parted.ensures.whole (sym c.as_str.ensures.value ∙ c.in-Some.ensures) c.parted.ensures.dashed c.parted.ensures.plain none

pub returns-then-not-are_settings-clause-job : goal.returns-then-not-are_settings-clause-job
returns-then-not-are_settings-clause-job c =
    let first = first_and string_bytes c.args.words.now c.word-item.result (search rules) c.word-item.is in
    let none : (ss : List OptionSetting) → map string_bytes c.parted.result.0.now ≡ map text_of ss → ¬ (AreSettings (map (λ (n : Bor (List ℕ)). n.now) c.names-names.result.now) ss) = search rules in
    no_settings _ _ _ _ _ c.in-Some.command first c.parted.ensures.whole (sym c.as_str.ensures.value ∙ c.in-Some.ensures) c.parted.ensures.dashed c.parted.ensures.plain
    (λ ss e h. none ss e (subst (λ (ns : List (List ℕ)). AreSettings ns ss) (sym c.names-names.ensures) h))

pub matches_of-requires-clause-parts : goal.matches_of-requires-clause-parts
matches_of-requires-clause-parts c =
    let first = first_and string_bytes c.args.words.now c.word-item.result (search rules) c.word-item.is in
    let files : AreFiles (map string_bytes c.parted.result.1.now) = search rules in
    let set : (ss : List OptionSetting) × (map string_bytes c.parted.result.0.now ≡ map text_of ss) × AreSettings (map (λ (n : Bor (List ℕ)). n.now) c.names-names.result.now) ss = search rules in
    let parts = are_parts _ _ _ _ _ c.in-Some.command first c.parted.ensures.whole (sym c.as_str.ensures.value ∙ c.in-Some.ensures) c.parted.ensures.dashed c.parted.ensures.plain
    set.0 set.1 (subst (λ (ns : List (List ℕ)). AreSettings ns set.0) c.names-names.ensures set.2) files in
    (set.0, map string_bytes c.parted.result.1.now, with_names _ _ _ set.0 (map string_bytes c.parted.result.1.now) (sym c.names-names.ensures) parts)

pub returns-clause-job : goal.returns-clause-job
returns-clause-job c =
    let first = first_and string_bytes c.args.words.now c.word-item.result (search rules) c.word-item.is in
    let files : AreFiles (map string_bytes c.parted.result.1.now) = search rules in
    let set : (ss : List OptionSetting) × (map string_bytes c.parted.result.0.now ≡ map text_of ss) × AreSettings (map (λ (n : Bor (List ℕ)). n.now) c.names-names.result.now) ss = search rules in
    answer _ _ _ _ _ c.in-Some.command first c.parted.ensures.whole (sym c.as_str.ensures.value ∙ c.in-Some.ensures) c.parted.ensures.dashed c.parted.ensures.plain
    (option_in c.in-Ok.matches)
    (λ ss fs parts. c.in-Ok.ensures.options ss fs (with_names _ _ _ ss fs (sym c.names-names.ensures) parts)) files
    asked set.0 set.1 (subst (λ (ns : List (List ℕ)). AreSettings ns set.0) c.names-names.ensures set.2) c.job_of.result c.job_of.ensures.job
