use Rattle.std.proofs.Common.{◌≡◌, ◌⊎◌, inl, inr, ℕ, ◌∙◌, refl, rules}
use Rattle.dae_image.specs.Images.{contents}
use Rattle.dae_image.specs.Spelling.{spelling_2}
use Rattle.dae_cli_drive.specs.Keeping.{due_memory_to_keep}
use Rattle.dae_cli_drive.proofs.LawsOfFiles.{none_kept, once_kept, then_kept}
use Rattle.dae_cli_asm_job.proofs.assembling.keep_image.Goals as goal

pub returns-in_default-clause-gives : goal.returns-in_default-clause-gives
returns-in_default-clause-gives g c = λ out. (_, due_memory_to_keep, c.tell.ensures out)

pub returns-clause-gives : goal.returns-clause-gives
returns-clause-gives g c = λ out.
    let same : c.as_slice.result.now ≡ spelling_2 (contents c.args.image.now) = c.as_slice.ensures.value ∙ search rules in
    then_kept same (λ o. refl) c.keep_bytes.ensures.gives

pub returns-in_default-clause-kept : goal.returns-in_default-clause-kept
returns-in_default-clause-kept g c = none_kept refl (λ name. refl)

pub returns-clause-kept : goal.returns-clause-kept
returns-clause-kept g c =
    let same : c.as_slice.result.now ≡ spelling_2 (contents c.args.image.now) = c.as_slice.ensures.value ∙ search rules in
    once_kept same (λ o. refl) c.keep_bytes.ensures.once c.keep_bytes.ensures.gives

pub returns-in_default-clause-unkept : goal.returns-in_default-clause-unkept
returns-in_default-clause-unkept g c = λ zero six name. refl

pub returns-clause-unkept : goal.returns-clause-unkept
returns-clause-unkept g c = λ zero six. by c.keep_bytes.ensures.ends zero six where
  by : {A : Type 0} {status : ℕ} → (status ≡ 0) ⊎ (status ≡ 6) → ((status ≡ 0) → ⊥) → ((status ≡ 6) → ⊥) → A
  by (inl e) zero six = absurd (zero e)
  by (inr e) zero six = absurd (six e)
