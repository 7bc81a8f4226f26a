-- What the matches of words have for each option.
use Rattle.std.proofs.Common.{◌≡◌, Bool, true, false, cond, List, [], ◌∷◌, ◌++◌, map, refl, sym, ap, ◌∙◌, arith, codes}
use Rattle.std.specs.Prelude.{None}
use Rattle.std.specs.List.{list_all}
use Rattle.std.specs.Str.{bytes_eq}
use Rattle.std.proofs.lemmas.Slice.Eq.{bytes_eq-Decides}
use Rattle.clap.specs.Matches.{first_value, found_of}
use Rattle.clap.specs.Walk.{Text, first_of, rows_of}
use Rattle.clap.specs.Simple.{matches_of}
use Rattle.clap.specs.Takes.{takes}
use Rattle.clap.specs.declared.parser.matches.ArgMatches.{ArgMatches}
use Rattle.clap.proofs.WalkLemmas.{first_value-rows}
use Rattle.dae_cli_settings.specs.Commands.{app_of_names}
use Rattle.dae_cli_settings.specs.Settings.{AreParts, OptionSetting, files_id, given, is_name, option_in}
use Rattle.dae_cli_settings.proofs.Walking.{first_in, none_given, other_way, row_for, row_with, words_found, words_taken}

pub parts_taken : (names words : List Text) (ss : List OptionSetting) (files : List Text) → list_all is_name names ≡ true → AreParts names words ss files → takes (app_of_names (codes "job") names) words ≡ true
parts_taken names words ss [] ok h = let some = h.some in absurd (omega arith)
parts_taken names words ss (f ∷ fs) ok h =
    ap (takes (app_of_names (codes "job") names)) h.words_are ∙ words_taken (codes "job") names ss f fs ok h.are_settings h.plain h.few

parts_found : (names words : List Text) (ss : List OptionSetting) (files : List Text) → list_all is_name names ≡ true → AreParts names words ss files
    → matches_of (app_of_names (codes "job") names) words ≡ map row_for ss ++ row_with files_id files ∷ []
parts_found names words ss [] ok h = let some = h.some in absurd (omega arith)
parts_found names words ss (f ∷ fs) ok h =
    ap (matches_of (app_of_names (codes "job") names)) h.words_are ∙ words_found (codes "job") names ss f fs ok h.are_settings h.plain h.few

pub reads : (m : ArgMatches) (names words : List Text) (ss : List OptionSetting) (files : List Text) → list_all is_name names ≡ true → AreParts names words ss files
    → rows_of (found_of m) ≡ matches_of (app_of_names (codes "job") names) words → option_in m ≡ given ss
reads m names words ss files ok h rows = λ i name. at name i where
  all : rows_of (found_of m) ≡ map row_for ss ++ row_with files_id files ∷ []
  all = rows ∙ parts_found names words ss files ok h

  by_test : (name : Text) (b : Bool) → bytes_eq name files_id ≡ b → cond b None (first_value (found_of m) name) ≡ given ss name
  by_test name true e = sym (ap (given ss) ((bytes_eq-Decides name files_id).0 e) ∙ none_given names ss ok h.are_settings)
  by_test name false e = first_value-rows (found_of m) name ∙ ap (first_of name) all ∙ first_in name ss files (other_way name files_id e)

  at : (name : Text) → option_in m name ≡ given ss name
  at name = by_test name (bytes_eq name files_id) refl
