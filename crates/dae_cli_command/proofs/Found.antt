-- The job that words spell, by what was found in them.
use Rattle.std.proofs.Common.{◌≡◌, ℕ, List, refl, subst}
use Rattle.std.specs.Prelude.{Option, Some, None, IfSome, MatchOption}
use Rattle.dae_cli_words.specs.declared.job.Job.{Job}
use Rattle.dae_cli_words.specs.Asked.{Asked, HasRanges, asked}
use Rattle.dae_cli_words.specs.Words.{SpellsJob}

-- words spell just what was found
abbrev pub IsFound : List (List ℕ) → Option Job → Type 0
IsFound words found = MatchOption found ((job : Asked) → ¬ (SpellsJob words job)) (λ job. SpellsJob words (asked job))

pub spelled_by : (words : List (List ℕ)) (found : Option Job) (job : Job) → found ≡ Some job → IsFound words found → SpellsJob words (asked job)
spelled_by words found job e h = subst (λ (x : Option Job). IsFound words x) e h

pub spelled_as : (words : List (List ℕ)) (found : Option Job) (job kind : Job) → found ≡ Some job → job ≡ kind → IsFound words found → SpellsJob words (asked kind)
spelled_as words found job kind e f h = subst (λ (x : Job). SpellsJob words (asked x)) f (spelled_by words found job e h)

pub ranges_by : (found : Option Job) (job kind : Job) → found ≡ Some job → job ≡ kind → IfSome found (λ job. HasRanges (asked job)) → HasRanges (asked kind)
ranges_by found job kind e f h = subst (λ (x : Job). HasRanges (asked x)) f (subst (λ (x : Option Job). IfSome x (λ j. HasRanges (asked j))) e h)

pub none_spelled : (words : List (List ℕ)) (found : Option Job) → ((job : Job) → found ≡ Some job → ⊥) → IsFound words found → (job : Asked) → ¬ (SpellsJob words job)
none_spelled words None other h = h
none_spelled words (Some job) other h = absurd (other job refl)
