-- The command that reads settings of options and then files: what building makes of it.
use Rattle.std.proofs.Common.{◌≡◌, Bool, true, false, not, ◌||◌, cond, List, [], ◌∷◌, ◌++◌, map, refl, ap, ◌∙◌}
use Rattle.std.specs.Prelude.{Some, is_some, fold, count_by}
use Rattle.std.specs.List.{list_all, list_any}
use Rattle.std.specs.Str.{bytes_eq}
use Rattle.std.proofs.lemmas.Bool.{and_parts, not-true}
use Rattle.std.proofs.lemmas.Slice.Eq.{bytes_eq-Decides}
use Rattle.clap.specs.Walk.{Row, Rule, Text, arg_by_id, arg_by_index, arg_by_long, is_early_multiple, with_default}
use Rattle.clap.specs.Simple.{App, Shape, built, filled, filled_from, is_simple, new_shape, with_index}
use Rattle.clap.specs.Takes.{default_passes}
use Rattle.dae_cli_settings.specs.Commands.{app_of_names, files_rule, option_rule}
use Rattle.dae_cli_settings.specs.Settings.{files_id, is_among, is_name}

-- the same when built

abbrev pub built_option : Text → Rule
built_option name = with_index 1 (filled (option_rule name))

abbrev pub built_files : Rule
built_files = with_index 1 (filled files_rule)

abbrev pub rules_for : List Text → List Rule
rules_for names = map built_option names ++ built_files ∷ []

abbrev pub app_built : Text → List Rule → App
app_built name rules = record {
  top = record (new_shape name) {
    no_binary_name = true;
    disable_help_flag = true;
    disable_help_subcommand = true;
    disable_version_flag = true;
    rules = rules;
    is_built = true;
  };
  subs = [];
}

-- the command, built
abbrev pub built_shape : Text → List Text → Shape
built_shape name names = (app_built name (rules_for names)).top

filled_rules : (names : List Text) → filled_from 1 (map option_rule names ++ files_rule ∷ []) ≡ rules_for names
filled_rules [] = refl
filled_rules (n ∷ ns) = ap (λ rs. built_option n ∷ rs) (filled_rules ns)

pub built_is : (name : Text) (names : List Text) → built (app_of_names name names) ≡ app_built name (rules_for names)
built_is name names = ap (λ (rs : List Rule). app_built name rs) (filled_rules names)

-- ---- which argument is found

pub found_long : (names : List Text) (name : Text) → is_among names name ≡ true → arg_by_long (rules_for names) name ≡ Some (built_option name)
found_long [] name h = absurd (cc)
found_long (n ∷ ns) name h = by_first (bytes_eq n name) refl h (found_long ns name) where
  by_first : (b : Bool) → bytes_eq n name ≡ b → (b || is_among ns name) ≡ true → (is_among ns name ≡ true → arg_by_long (rules_for ns) name ≡ Some (built_option name))
      → arg_by_long (rules_for (n ∷ ns)) name ≡ Some (built_option name)
  by_first true e k more = rw e (ap (λ m. Some (built_option m)) ((bytes_eq-Decides n name).0 e))
  by_first false e k more = rw e (more k)

pub found_first : (names : List Text) → arg_by_index (rules_for names) 1 ≡ Some built_files
found_first [] = refl
found_first (n ∷ ns) = found_first ns

pub found_files : (names : List Text) → list_all is_name names ≡ true → arg_by_id (rules_for names) files_id ≡ Some built_files
found_files [] h = refl
found_files (n ∷ ns) h =
    let parts = and_parts (is_name n) (list_all is_name ns) h in
    let other : bytes_eq n files_id ≡ false = not-true _ (and_parts _ _ (and_parts _ _ parts.0).1).1 in
    rw other (found_files ns parts.1)

-- ---- the command is simple, and has no rule on another argument

all_simple : (names : List Text) → list_all (λ a. a.is_simple) (rules_for names) ≡ true
all_simple [] = refl
all_simple (n ∷ ns) = all_simple ns

pub all_free : (names : List Text) → list_all (λ a. a.is_free) (rules_for names) ≡ true
all_free [] = refl
all_free (n ∷ ns) = all_free ns

pub none_required : (names : List Text) (p : Rule → Bool) → list_all (λ a. not a.required || p a) (rules_for names) ≡ true
none_required [] p = refl
none_required (n ∷ ns) p = none_required ns p

pub defaults_pass : (names : List Text) → list_all default_passes (rules_for names) ≡ true
defaults_pass [] = refl
defaults_pass (n ∷ ns) = defaults_pass ns

no_default : (rows : List Row) (a : Rule) → a.defaults ≡ [] → with_default rows a ≡ rows
no_default rows a none = rw none (by_test (list_any (λ r. bytes_eq r.id a.id) rows)) where
  by_test : (b : Bool) → cond b rows rows ≡ rows
  by_test true = refl
  by_test false = refl

pub no_defaults : (names : List Text) (rows : List Row) → fold with_default rows (rules_for names) ≡ rows
no_defaults [] rows = no_default rows built_files refl
no_defaults (n ∷ ns) rows = ap (λ rs. fold with_default rs (rules_for ns)) (no_default rows (built_option n) refl) ∙ no_defaults ns rows

plain_simple : (names : List Text) → list_all (λ a. a.is_simple) (map option_rule names ++ files_rule ∷ []) ≡ true
plain_simple [] = refl
plain_simple (n ∷ ns) = plain_simple ns

one_position : (names : List Text) → count_by (λ a. is_some a.index) (rules_for names) ≡ 1
one_position [] = refl
one_position (n ∷ ns) = one_position ns

none_early : (names : List Text) → list_any (is_early_multiple 1) (rules_for names) ≡ false
none_early [] = refl
none_early (n ∷ ns) = none_early ns

pub simple_app : (name : Text) (names : List Text) → is_simple (app_of_names name names) ≡ true
simple_app name names = rw (plain_simple names, filled_rules names, all_simple names, one_position names, none_early names) refl
