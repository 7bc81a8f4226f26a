-- What is due where nothing fails, and what is left of the texts.
use Rattle.std.proofs.Common.{◌≡◌, ◌⊎◌, inl, inr, ℕ, List, subst}
use Rattle.std.specs.Prelude.{Option, Some}
use Rattle.dae_io.specs.Faults.{Rose}
use Rattle.dae_io.specs.Told.{TellsSame}
use Rattle.dae_io.proofs.Laws.{never_rises}
use Rattle.dae_cli_drive.specs.Puts.{Put, Out, Note, Answer, Sinks, IsFailed, Gives, gives_whole, gives_part}
use Rattle.dae_cli_drive.specs.Keeping.{TellsBut}
use Rattle.dae_cli_words.specs.Asked.{Asked}
use Rattle.dae_cli_words.specs.Words.{SpellsJob}
use Rattle.dae_cli_command.specs.Leaving.{Leaves, kept_by}

-- no put fails on sinks that never count a fault
failed_calm : (p : Put) (a b : Sinks) → b.out.count ≡ 0 → b.note.count ≡ 0 → IsFailed p a b → ⊥
failed_calm (Out piece) a b o n f = never_rises a.out.count (subst (λ (k : ℕ). Rose a.out.count k) o f.0.rose)
failed_calm (Note line) a b o n f = never_rises a.note.count (subst (λ (k : ℕ). Rose a.note.count k) n f.0.rose)

pub status_calm : {due : Answer} {status : ℕ} (a b : Sinks) → b.out.count ≡ 0 → b.note.count ≡ 0 → Gives due status a b → status ≡ due.status
status_calm a b o n (gives_whole s w) = s
status_calm a b o n (gives_part s cut) = absurd (failed_calm cut.failed cut.between b o n cut.is_failed)

-- a job that keeps under a name leaves all others
pub leaves : (words : List (List ℕ)) (before after : List ℕ → Option (List ℕ)) (to : List ℕ) (job : Asked) → SpellsJob words job → kept_by job ≡ Some to → TellsSame before after ⊎ TellsBut to before after → Leaves words before after
leaves words before after to job spelled keeps (inl same) = inl same
leaves words before after to job spelled keeps (inr but) = inr (job, to, spelled, keeps, but)
