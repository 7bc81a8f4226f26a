use Rattle.std.proofs.Common.{◌≡◌, ◌⊎◌, inl, inr, ℕ, ◌∙◌, refl, rules}
use Rattle.dae_image.specs.Images.{contents}
use Rattle.dae_image.specs.Spelling.{spelling_2}
use Rattle.dae_io.specs.Sinks.{IsPut, IsPutFailed}
use Rattle.dae_cli_drive.specs.Notes.{budget_line}
use Rattle.dae_cli_drive.specs.Keeping.{due_memory_to_keep}
use Rattle.dae_cli_drive.proofs.LawsOfFiles.{none_kept, not_begun, once_kept, one_noted, then_kept}
use Rattle.dae_cli_source_jobs.proofs.compile.keep_image.Goals as goal

pub returns-in_default-clause-gives : goal.returns-in_default-clause-gives
returns-in_default-clause-gives g c = λ out. (_, due_memory_to_keep, c.tell.ensures out)

pub returns-in-Ok-put-clause-gives : goal.returns-in-Ok-put-clause-gives
returns-in-Ok-put-clause-gives g c = λ out.
    let put : IsPut (budget_line c.args.image.now.budget) (g.N.Sink.seen c.args.note.now) (g.N.Sink.seen c.put.new.self) = search rules in
    let same : c.as_slice.result.now ≡ spelling_2 (contents c.args.image.now) = c.as_slice.ensures.value ∙ search rules in
    then_kept same (one_noted put) c.keep_bytes.ensures.gives

pub returns-clause-gives : goal.returns-clause-gives
returns-clause-gives g c = λ out.
    let part : IsPutFailed (budget_line c.args.image.now.budget) (g.N.Sink.seen c.args.note.now) (g.N.Sink.seen c.put.new.self) = search rules in
    not_begun (λ name. refl) part

pub returns-in_default-clause-kept : goal.returns-in_default-clause-kept
returns-in_default-clause-kept g c = none_kept refl (λ name. refl)

pub returns-in-Ok-put-clause-kept : goal.returns-in-Ok-put-clause-kept
returns-in-Ok-put-clause-kept g c =
    let put : IsPut (budget_line c.args.image.now.budget) (g.N.Sink.seen c.args.note.now) (g.N.Sink.seen c.put.new.self) = search rules in
    let same : c.as_slice.result.now ≡ spelling_2 (contents c.args.image.now) = c.as_slice.ensures.value ∙ search rules in
    once_kept same (one_noted put) c.keep_bytes.ensures.once c.keep_bytes.ensures.gives

pub returns-clause-kept : goal.returns-clause-kept
returns-clause-kept g c = none_kept refl (λ name. refl)

pub returns-in_default-clause-unkept : goal.returns-in_default-clause-unkept
returns-in_default-clause-unkept g c = λ zero six name. refl

pub returns-in-Ok-put-clause-unkept : goal.returns-in-Ok-put-clause-unkept
returns-in-Ok-put-clause-unkept g c = λ zero six. by c.keep_bytes.ensures.ends zero six where
  by : {A : Type 0} {status : ℕ} → (status ≡ 0) ⊎ (status ≡ 6) → ((status ≡ 0) → ⊥) → ((status ≡ 6) → ⊥) → A
  by (inl e) zero six = absurd (zero e)
  by (inr e) zero six = absurd (six e)

pub returns-clause-unkept : goal.returns-clause-unkept
returns-clause-unkept g c = λ zero six name. refl
