-- A rule that stops a check is broken.
use Rattle.std.proofs.Common.{◌≡◌, Err, subst}
use Rattle.dae_tree.specs.Files.{FileContents}
use Rattle.dae_tree.specs.FileViews.{view_externals}
use Rattle.dae_types_kinds.specs.declared.rules.CheckError.{CheckError}
use Rattle.dae_types_kinds.specs.declared.rules.CheckError.TheVariants as errors
use Rattle.dae_types_kinds.specs.Tables.{Tables}
use Rattle.dae_types_rules.specs.Plan.{Fails, IsChecked, check_of}
use Rattle.dae_types_file_plans.specs.Promise.{FilesAreChecked}
use Rattle.dae_types.specs.Answers.{Answers, IsWant, plan_in, start_in}

pub refused : (c : FileContents) (e : CheckError) (s : Tables) → FilesAreChecked → s ≡ start_in c → Fails e (check_of (plan_in c) s) → Answers c (Err e)
refused c errors.Memory s law is h = tt
refused c errors.Unsound s law is h = tt
refused c (errors.Rule f) s law is h = subst (λ t. IsChecked (plan_in c) t (Err f)) is (subst (λ r. IsChecked (plan_in c) s r) h (law (view_externals c.externals) s))

pub wanted : (c : FileContents) (e : CheckError) → IsWant e → Answers c (Err e)
wanted c errors.Memory h = tt
wanted c errors.Unsound h = tt
wanted c (errors.Rule f) h = absurd h
