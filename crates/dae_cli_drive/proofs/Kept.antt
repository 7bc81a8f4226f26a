-- What is due for an image that is to be kept, and what comes of keeping bytes.
use Rattle.std.proofs.Common.{◌≡◌, ◌⊎◌, inl, inr, ℕ, ◌≤◌, List, [], ◌∷◌, ◌++◌, refl, ap, ◌∙◌, subst, arith}
use Rattle.std.specs.Prelude.{Option}
use Rattle.dae_image.specs.declared.Image.{Image}
use Rattle.dae_image.specs.Images.{contents}
use Rattle.dae_image.specs.Spelling.{spelling_2}
use Rattle.dae_io.specs.Faults.{ShelfFault}
use Rattle.dae_io.specs.Told.{TellsSame}
use Rattle.dae_io.specs.Sinks.{IsPut, IsPutFailed, SinkState}
use Rattle.dae_cli_drive.specs.Puts.{Answer, AreNoted, Gives, GivesDue, GivesNotes, Note, Put, Sinks, gives_part, gives_whole, sinks, told}
use Rattle.dae_cli_drive.proofs.Laws.{gives_failed, gives_then}
use Rattle.dae_cli_drive.specs.Keeping.{DueOfKeeping, due_kept, due_not_kept, due_memory_to_keep, KeepsAtMostOnce, keeps_nothing, keeps_once, KeepsOrEnds, KeptOrNot, TellsBut, kept_line}
use Rattle.dae_cli_drive.specs.Shelves.{Keeps, KeepsOnce, ShelfSeen}
use Rattle.dae_cli_drive.proofs.Seen.{seen_by}

-- ---- the shelf as it was before the files were fetched

module _ (told before after : List ℕ → Option (List ℕ)) (first count last_count : ℕ) (last : Option ShelfFault) (old given new : List (List ℕ)) (same : TellsSame told before) (fewer : first ≤ count) where
  abbrev here : ShelfSeen
  here = seen_by before after count last_count last given new

  abbrev there : ShelfSeen
  there = seen_by told after first last_count last old new

  ends_before : (lines : List Put) (status : ℕ) (to bytes : List ℕ) → KeepsOrEnds lines here status to bytes → KeepsOrEnds lines there status to bytes
  ends_before lines status to bytes (inl k) = inl k
  ends_before lines status to bytes (inr e) = inr (e.0, e.1, λ name. e.2 name ∙ same name)

  pub keeping_before : {lines : List Put} {status : ℕ} {to : List ℕ} {image : Image} (a : Answer) → DueOfKeeping lines here status to image a → DueOfKeeping lines there status to image a
  keeping_before {lines} {status} {to} {image} a (due_kept k) = due_kept (ends_before lines status to (spelling_2 (contents image)) k)
  keeping_before a (due_not_kept f) = due_not_kept (record { rose = omega (arith, f.rose); last = f.last })
  keeping_before a due_memory_to_keep = due_memory_to_keep

  comes_before : {to bytes : List ℕ} {status : ℕ} {note note_now : SinkState} → KeptOrNot here to bytes status note note_now → KeptOrNot there to bytes status note note_now
  comes_before (inl k) = inl k
  comes_before (inr f) = inr (record { rose = (let r = f.0.rose in omega (arith, r)); last = f.0.last }, f.1, f.2)

  pub once_before : {lines : List Put} {to bytes : List ℕ} {status : ℕ} {note note_now : SinkState} → given ≡ old → KeepsAtMostOnce lines here to bytes status note note_now → KeepsAtMostOnce lines there to bytes status note note_now
  once_before e (keeps_nothing k) = keeps_nothing (record { given = k.given ∙ e; told = λ name. k.told name ∙ same name })
  once_before {bytes = bytes} e (keeps_once between noted once comes) = keeps_once between noted (once ∙ ap (λ (gs : List (List ℕ)). gs ++ bytes ∷ []) e) (comes_before comes)

-- ---- what is left of the texts

pub held_before : {told before after : List ℕ → Option (List ℕ)} (to : List ℕ) → TellsSame told before → (TellsSame before after ⊎ TellsBut to before after) → TellsSame told after ⊎ TellsBut to told after
held_before to same (inl s) = inl (λ name. s name ∙ same name)
held_before to same (inr (inl silent)) = inr (inl silent)
held_before to same (inr (inr others)) = inr (inr (λ name other. others name other ∙ same name))

-- where a job keeps nothing
pub none_kept : {s : ShelfSeen} {to bytes : List ℕ} {lines : List Put} {status : ℕ} {note note_now : SinkState} → s.given_after ≡ s.given → TellsSame s.told s.told_after → KeepsAtMostOnce lines s to bytes status note note_now
none_kept g t = keeps_nothing (record { given = g; told = t })

-- ---- the bytes that are kept, and the puts

-- one line was put
pub one_noted : {line : List ℕ} {note between : SinkState} → IsPut line note between → AreNoted (Note line ∷ []) note between
one_noted {between = between} put out = (sinks out between, (put, refl), refl)

pub once_kept : {lines : List Put} {s : ShelfSeen} {to bytes bytes' : List ℕ} {status : ℕ} {note between note_now : SinkState} → bytes ≡ bytes' → AreNoted lines note between → KeepsOnce s bytes → KeptOrNot s to bytes status between note_now
    → KeepsAtMostOnce lines s to bytes' status note note_now
once_kept {lines} {s} {to} {bytes} {bytes'} {status} {note} {between} {note_now} e noted once comes =
    subst (λ (bs : List ℕ). KeepsAtMostOnce lines s to bs status note note_now) e (keeps_once between noted once comes)

-- a line that is put ends a job with its status, or with 6
pub ends_so : {status stated : ℕ} {line : List ℕ} {note note_now : SinkState} → GivesNotes (told stated line) status note note_now → (status ≡ stated) ⊎ (status ≡ 6)
ends_so {note = note} given = by (given note) where
  by : {due : Answer} {status : ℕ} {a b : Sinks} → Gives due status a b → (status ≡ due.status) ⊎ (status ≡ 6)
  by (gives_whole s w) = inl s
  by (gives_part s cut) = inr s

-- what comes of keeping bytes behind lines: they are kept, and the line on that is put; or they can't be kept
pub then_kept : {lines : List Put} {s : ShelfSeen} {status : ℕ} {to : List ℕ} {image : Image} {bytes : List ℕ} {out note between after : SinkState} → bytes ≡ spelling_2 (contents image) → AreNoted lines note between → KeptOrNot s to bytes status between after
    → GivesDue (DueOfKeeping lines s status to image) status (sinks out note) (sinks out after)
then_kept {lines} {s} {status} {to} {image} {bytes} {out} {note} {between} {after} e noted (inl kept) =
    (_, due_kept (inl (subst (λ (bs : List ℕ). Keeps s to bs) e kept.0)), gives_then lines (Note (kept_line to) ∷ []) 0 status (sinks out note) (sinks out between) (sinks out after) (noted out) (kept.1 out))
then_kept {lines} {s} {status} {to} {image} {bytes} {out} {note} {between} {after} e noted (inr failed) =
    (_, due_not_kept failed.0, gives_whole failed.1 (rw failed.2 (noted out)))

-- where the first line couldn't be put
pub not_begun : {line : List ℕ} {s : ShelfSeen} {to : List ℕ} {image : Image} {out note after : SinkState} → TellsSame s.told s.told_after → IsPutFailed line note after → GivesDue (DueOfKeeping (Note line ∷ []) s 6 to image) 6 (sinks out note) (sinks out after)
not_begun {line} {s} {to} {image} {out} {note} {after} same failed =
    (_, due_kept (inr ((λ e. cc), refl, same)), gives_failed (Note line) (Note (kept_line to) ∷ []) 0 (sinks out note) (sinks out after) (failed, refl))
