-- What is due for words that ask to run texts: the answer of a run, which is never that the machine is stuck.
use Rattle.std.proofs.Common.{◌≡◌, ◌⊎◌, inl, inr, ℕ, ◌-◌, List, [], ◌∷◌, length, refl, sym, ◌∙◌, subst, arith}
use Rattle.std.specs.Prelude.{◌≢◌}
use Rattle.dae_cli_options.specs.declared.options.Options.{Options}
use Rattle.dae_cli_options.specs.declared.options.RunOptions.{RunOptions}
use Rattle.dae_cli_drive.specs.Images.{DueOfImage}
use Rattle.dae_cli_drive.specs.Puts.{Answer}
use Rattle.dae_cli_drive.specs.Shelves.{ShelfSeen}
use Rattle.dae_cli_source_jobs.specs.Fetching.{AreFetched, IsFirstNotFetched, IsNotFetched, not_got, too_long, most_source}
use Rattle.dae_cli_source_jobs.specs.Sources.{DueOfFiles, DueOfTexts, due_fetched, due_not_fetched, due_memory_to_fetch, due_of_image, due_refused, due_memory_to_compile}
use Rattle.dae_cli_words.specs.Asked.{Asked}
use Rattle.dae_cli_words.specs.Words.{SpellsJob}
use Rattle.dae_cli_words.proofs.Laws.{one_job}
use Rattle.dae_cli_command.specs.Answers.{DueOfJob, IsDue, due_job, due_words, due_memory_for_words}
use Rattle.dae_cli_answers.specs.Promises.{IsNeverStuck, IsRunOfTexts, RunsOfFilesKeepMeaning, RunsOfNumbersKeepMeaning}
use Rattle.dae_cli_answers.proofs.Runs.{run_of_image}

not_here : (s : ShelfSeen) (left : ℕ) (name : List ℕ) (a : Answer) → IsNotFetched s left name a → (a.status ≡ 2) ⊎ (a.status ≡ 5)
not_here s left name a (not_got f) = inr refl
not_here s left name a (too_long text t long) = inl refl

not_first : (s : ShelfSeen) (left : ℕ) (names : List (List ℕ)) (a : Answer) → IsFirstNotFetched s left names a → (a.status ≡ 2) ⊎ (a.status ≡ 5)
not_first s left [] a d = absurd d
not_first s left (n ∷ ns) a (inl d) = not_here s left n a d
not_first s left (n ∷ ns) a (inr d) = not_first s (left - length d.0) ns a d.3

neither : {n : ℕ} → n ≢ 2 → n ≢ 5 → (n ≡ 2) ⊎ (n ≡ 5) → ⊥
neither two five (inl h) = two h
neither two five (inr h) = five h

of_texts : {names texts : List (List ℕ)} {c : Options} {o : RunOptions} (a : Answer) → DueOfTexts names texts c (λ image. DueOfImage image o) a → a.status ≢ 2 → a.status ≢ 7 → IsRunOfTexts names texts c o a
of_texts {c = c} {o = o} a (due_of_image image made d) two seven = record { image = image; made = made; due = d; run = run_of_image made.program c.calls image o a made.keeps d }
of_texts a (due_refused e other refused) two seven = absurd (two refl)
of_texts a due_memory_to_compile two seven = absurd (seven refl)

of_files : {names : List (List ℕ)} {s : ShelfSeen} {c : Options} {o : RunOptions} (a : Answer) → DueOfFiles names s c (λ image. DueOfImage image o) a → a.status ≢ 2 → a.status ≢ 5 → a.status ≢ 7
    → (texts : List (List ℕ)) × AreFetched s.told most_source names texts × IsRunOfTexts names texts c o a
of_files a (due_fetched texts f d) two five seven = (texts, f, of_texts a d two seven)
of_files {names} {s} a (due_not_fetched d) two five seven = absurd (neither two five (not_first s most_source names a d))
of_files a due_memory_to_fetch two five seven = absurd (seven refl)

-- what is due for words that spell a job is due for that job, or memory was wanting
of_job : {words : List (List ℕ)} {s : ShelfSeen} {status : ℕ} {job : Asked} {a : Answer} → SpellsJob words job → IsDue words s status a → a.status ≢ 7 → DueOfJob job s status a
of_job {s = s} {status = status} {a = a} spells (due_job job k d) seven = subst (λ (j : Asked). DueOfJob j s status a) (one_job k spells) d
of_job {job = job} spells (due_words none) seven = absurd (none job spells)
of_job spells due_memory_for_words seven = absurd (seven refl)

pub runs_of_files : RunsOfFilesKeepMeaning
runs_of_files words s status c o files a spells due two five seven = of_files a (of_job spells due seven) two five seven

pub runs_of_numbers : RunsOfNumbersKeepMeaning
runs_of_numbers words s status c o number a spells due two seven = of_texts a (of_job spells due seven) two seven

-- a status is not another
other : {n m k : ℕ} → n ≡ m → m ≢ k → n ≢ k
other e apart h = apart (sym e ∙ h)

pub never_stuck_for_words : IsNeverStuck
never_stuck_for_words words s status c o a (inl (files, spells)) due nine =
    let found = runs_of_files words s status c o files a spells due (other nine (λ h. absurd (omega arith))) (other nine (λ h. absurd (omega arith))) (other nine (λ h. absurd (omega arith))) in
    let texts = found.2 in
    let run = texts.run in
    run.never_stuck nine
never_stuck_for_words words s status c o a (inr (number, spells)) due nine =
    let texts = runs_of_numbers words s status c o number a spells due (other nine (λ h. absurd (omega arith))) (other nine (λ h. absurd (omega arith))) in
    let run = texts.run in
    run.never_stuck nine
