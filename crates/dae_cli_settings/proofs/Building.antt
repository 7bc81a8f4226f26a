-- The command, as it is built by adding an argument a name.
use Rattle.std.proofs.Common.{◌≡◌, ℕ, ◌+◌, ◌<◌, ◌≤◌, List, [], ◌∷◌, ◌++◌, length, map, take, sym, ap, ap₂, ◌∙◌, codes, take_all}
use Rattle.std.specs.Prelude.{Option, None, Some, IsSomeAnd}
use Rattle.std.specs.Borrow.{Bor}
use Rattle.std.specs.List.{slice_index_or}
use Rattle.std.proofs.lemmas.List.{map-append, take_more}
use Rattle.clap.specs.Lexer.{usize_max}
use Rattle.clap.specs.Walk.{Rule, Text, rule_of}
use Rattle.clap.specs.Simple.{App, new_rule, with_rule}
use Rattle.clap.specs.declared.builder.arg.Arg.{Arg}
use Rattle.clap.specs.declared.builder.range.ValueRange.{ValueRange}
use Rattle.dae_cli_settings.specs.Commands.{app_of_names, app_with, files_rule, option_rule}
use Rattle.dae_cli_settings.specs.Settings.{files_id}

abbrev rules_of : List (Bor Text) → List Rule
rules_of names = map option_rule (map (λ n. n.now) names)

rules_more : (names : List (Bor Text)) (i : ℕ) (x d : Bor Text) → i < length names → x ≡ slice_index_or names i d → rules_of (take i names) ++ option_rule x.now ∷ [] ≡ rules_of (take (i + 1) names)
rules_more names i x d lt is =
    let more : take (i + 1) names ≡ take i names ++ x ∷ [] = take_more names i d lt ∙ ap (λ y. take i names ++ y ∷ []) (sym is) in
    sym (ap rules_of more ∙ ap (map option_rule) (map-append (λ (n : Bor Text). n.now) (take i names) (x ∷ [])) ∙ map-append option_rule (map (λ n. n.now) (take i names)) (x.now ∷ []))

pub one_more : (names : List (Bor Text)) (i : ℕ) (x d : Bor Text) (before after : App) (rule : Rule) → i < length names → x ≡ slice_index_or names i d
    → before ≡ app_with (codes "job") (rules_of (take i names)) → rule ≡ option_rule x.now → after ≡ with_rule before rule → after ≡ app_with (codes "job") (rules_of (take (i + 1) names))
one_more names i x d before after rule lt is e f added =
    added ∙ ap₂ with_rule e f ∙ ap (λ (rs : List Rule). app_with (codes "job") rs) (rules_more names i x d lt is)

pub all_added : (names : List (Bor Text)) (i : ℕ) (before after : App) (rule : Rule) → length names ≤ i
    → before ≡ app_with (codes "job") (rules_of (take i names)) → rule ≡ files_rule → after ≡ with_rule before rule → after ≡ app_of_names (codes "job") (map (λ n. n.now) names)
all_added names i before after rule past e f added =
    added ∙ ap₂ with_rule e f ∙ ap (λ (ns : List (Bor Text)). app_with (codes "job") (rules_of ns ++ files_rule ∷ [])) (take_all i names past)

-- ---- the argument of the files

abbrev at_least_one : ValueRange
at_least_one = record { start_inclusive = 1; end_inclusive = usize_max }

with_number : (old : Arg) (o : Option ValueRange) → rule_of old ≡ new_rule files_id → IsSomeAnd o (λ r. r ≡ at_least_one) → rule_of (record old { num_vals = o }) ≡ files_rule
with_number old None e h = absurd h
with_number old (Some r) e h = ap₂ (λ (rule : Rule) (n : ValueRange). record rule { range = Some n }) e h

pub files_is : (old new : Arg) → rule_of old ≡ new_rule files_id → new ≡ record old { num_vals = new.num_vals } → IsSomeAnd new.num_vals (λ r. r ≡ at_least_one) → rule_of new ≡ files_rule
files_is old new e same h = ap rule_of same ∙ with_number old new.num_vals e h
