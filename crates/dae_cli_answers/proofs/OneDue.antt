-- For words at most one answer is due, but for want of memory and for what source files come to.
use Rattle.std.proofs.Common.{◌≡◌, ◌⊎◌, inl, inr, ℕ, ◌-◌, ◌≤◌, List, [], ◌∷◌, length, refl, ap, sym, ◌∙◌, subst, arith}
use Rattle.std.specs.Prelude.{◌≢◌}
use Rattle.dae_image.specs.declared.Image.{Image}
use Rattle.dae_program.specs.declared.program.Program.{Program}
use Rattle.dae_accept.specs.Accepted.{AreOneCause, HaveTrees, IsAccepted, IsNeverBeside}
use Rattle.dae_accept.specs.declared.error.CompileError.{CompileError}
use Rattle.dae_accept.specs.declared.error.CompileError.TheVariants as errors
use Rattle.dae_cli_options.specs.declared.options.Options.{Options}
use Rattle.dae_cli_drive.specs.Images.{DueOfImage}
use Rattle.dae_cli_drive.specs.Puts.{Answer, told}
use Rattle.dae_cli_drive.proofs.Laws.{one_of_image}
use Rattle.dae_cli_drive.specs.Shelves.{IsTold, ShelfSeen}
use Rattle.dae_big.specs.Texts.{big_name, big_text}
use Rattle.dae_cli_source_jobs.specs.Reporting.{DueOfReporting, due_compiled, due_not_compiled}
use Rattle.dae_cli_source_jobs.specs.Refusals.{refusal_line}
use Rattle.dae_cli_source_jobs.specs.Fetching.{AreFetched, IsFirstNotFetched, IsNotFetched, not_got, too_long, most_source}
use Rattle.dae_cli_source_jobs.specs.Kept.{DueOfKept}
use Rattle.dae_cli_source_jobs.specs.Sources.{DueOfFiles, DueOfTexts, due_fetched, due_not_fetched, due_memory_to_fetch, due_of_image, due_refused, due_memory_to_compile}
use Rattle.dae_cli_words.specs.Asked.{Asked, Run, Big, Compile, Report, Exec, Trace, Time, Check, Debug, Guard, Asm, Dis}
use Rattle.dae_cli_asm_job.proofs.Laws.{single_assembly}
use Rattle.dae_cli_time_job.proofs.Laws.{single_timing}
use Rattle.dae_cli_listing_job.proofs.Laws.{single_listing}
use Rattle.dae_cli_debug_job.proofs.Laws.{single_debugging}
use Rattle.dae_cli_trace_jobs.proofs.Laws.{single_checking, single_tracing}
use Rattle.dae_cli_words.proofs.Laws.{one_job}
use Rattle.dae_cli_command.specs.Answers.{DueOfJob, IsDue, due_job, due_words, due_memory_for_words}
use Rattle.dae_cli_guard_job.proofs.Laws.{single_guarding}
use Rattle.dae_cli_answers.proofs.OneFile.{one_of_both, one_of_bytes, one_of_image_file, one_of_keeping, one_of_text, same_text}
use Rattle.dae_cli_answers.specs.One.{AreOfFetched, AreOfSources, AreOfTexts, AreOne, IsForImage, IsForReport, IsSeenWhole, TellsRefusal}

-- ---- source files

-- texts that are accepted are refused for no cause
pub never : ((e : _) → IsNeverBeside (errors.Lex e)) → ((e : _) → IsNeverBeside (errors.Tree e)) → ((b : _) → IsNeverBeside (errors.Rule b)) → ((e : _) → IsNeverBeside (errors.Join e))
    → (e : CompileError) → e ≢ errors.Memory → IsNeverBeside e
never tokens trees rules joining (errors.Lex e) other = tokens e
never tokens trees rules joining (errors.Tree e) other = trees e
never tokens trees rules joining (errors.Rule b) other = rules b
never tokens trees rules joining (errors.Join e) other = joining e
never tokens trees rules joining errors.Memory other = absurd (other refl)

-- the answer tells why the texts are refused, or is due for what is made of them
abbrev IsOfTexts : (names texts : List (List ℕ)) → Options → (For : Answer → Type 0) → Answer → Type 0
IsOfTexts names texts c For a = TellsRefusal names texts c a ⊎ For a

of_texts : {names texts : List (List ℕ)} {c : Options} {D : Image → Answer → Type 0} (a : Answer) → DueOfTexts names texts c D a → a.status ≢ 7 → IsOfTexts names texts c (IsForImage names texts c D) a
of_texts a (due_of_image image made d) n = inr (record { image = image; made = made; due = d })
of_texts a (due_refused e other refused) n = inl (record { error = e; other = other; refused = refused; told_is = refl })
of_texts a due_memory_to_compile n = absurd (n refl)

-- only texts that are accepted are made into something
abbrev Accepts : (texts : List (List ℕ)) → Options → (For : Answer → Type 0) → Type 0
Accepts texts c For = (a : Answer) → For a → (p : Program) × IsAccepted texts c.memory p

accepts_image : (names texts : List (List ℕ)) (c : Options) (D : Image → Answer → Type 0) → Accepts texts c (IsForImage names texts c D)
accepts_image names texts c D a x = let made = x.made in (made.program, made.accepted)

accepts_report : (names texts : List (List ℕ)) (c : Options) → Accepts texts c (IsForReport names texts c)
accepts_report names texts c a x = let made = x.made in let image = made.image in (image.program, image.accepted)

-- two answers for the same texts
module _ (names texts : List (List ℕ)) (c : Options) (For : Answer → Type 0) (accepts : Accepts texts c For) (a b : Answer) where
  one_or_left : (x : TellsRefusal names texts c a) (y : TellsRefusal names texts c b) → (x.error ≡ y.error) ⊎ HaveTrees texts → (a ≡ b) ⊎ AreOfTexts names texts c For a b
  one_or_left x y (inl e) = inl (x.told_is ∙ ap (λ (z : CompileError). told 2 (refusal_line names z)) e ∙ sym y.told_is)
  one_or_left x y (inr t) = inr (inl (t, x, y))

  both_of_texts : ((d e : CompileError) → AreOneCause d e) → ((e : CompileError) → e ≢ errors.Memory → IsNeverBeside e)
      → IsOfTexts names texts c For a → IsOfTexts names texts c For b → (a ≡ b) ⊎ AreOfTexts names texts c For a b
  both_of_texts once apart (inl x) (inl y) = one_or_left x y (once x.error y.error texts c.memory x.refused y.refused x.other y.other)
  both_of_texts once apart (inl x) (inr y) = absurd (let k = accepts b y in apart x.error x.other texts c.memory k.0 k.1 x.refused)
  both_of_texts once apart (inr x) (inl y) = absurd (let k = accepts a x in apart y.error y.other texts c.memory k.0 k.1 y.refused)
  both_of_texts once apart (inr x) (inr y) = inr (inr (x, y))

module _ (s : ShelfSeen) (whole : IsSeenWhole s) where
  same_texts : (left : ℕ) (ns ts us : List (List ℕ)) → AreFetched s.told left ns ts → AreFetched s.told left ns us → ts ≡ us
  same_texts left [] [] [] h k = refl
  same_texts left [] [] (u ∷ us) h k = absurd k
  same_texts left [] (t ∷ ts) us h k = absurd h
  same_texts left (n ∷ ns) [] us h k = absurd h
  same_texts left (n ∷ ns) (t ∷ ts) [] h k = absurd k
  same_texts left (n ∷ ns) (t ∷ ts) (u ∷ us) h k =
      let first : t ≡ u = same_text s whole n t u h.0 k.0 in
      let rest : ts ≡ us = same_texts (left - length t) ns ts us h.2 (subst (λ (x : List ℕ). AreFetched s.told (left - length x) ns us) (sym first) k.2) in
      rw (first, rest) refl

  short_or_long : (left : ℕ) (n t : List ℕ) (a : Answer) → IsTold s.told n t → length t ≤ left → IsNotFetched s left n a → ⊥
  short_or_long left n t a h short (not_got f) = whole.calm f.0
  short_or_long left n t a h short (too_long u k long) = absurd (let e = same_text s whole n t u h k in omega (arith, ap length e, short, long))

  fetched_or_not : (left : ℕ) (ns ts : List (List ℕ)) (a : Answer) → AreFetched s.told left ns ts → IsFirstNotFetched s left ns a → ⊥
  fetched_or_not left [] ts a h k = absurd k
  fetched_or_not left (n ∷ ns) [] a h k = absurd h
  fetched_or_not left (n ∷ ns) (t ∷ ts) a h (inl k) = short_or_long left n t a h.0 h.1 k
  fetched_or_not left (n ∷ ns) (t ∷ ts) a h (inr k) =
      let e : t ≡ k.0 = same_text s whole n t k.0 h.0 k.1 in
      fetched_or_not (left - length t) ns ts a h.2 (subst (λ (x : List ℕ). IsFirstNotFetched s (left - length x) ns a) (sym e) k.3)

  one_here : (left : ℕ) (n : List ℕ) (a b : Answer) → IsNotFetched s left n a → IsNotFetched s left n b → a ≡ b
  one_here left n a b (not_got f) k = absurd (whole.calm f.0)
  one_here left n a b (too_long t h long) (not_got f) = absurd (whole.calm f.0)
  one_here left n a b (too_long t h long) (too_long u k long') = refl

  one_stop : (left : ℕ) (ns : List (List ℕ)) (a b : Answer) → IsFirstNotFetched s left ns a → IsFirstNotFetched s left ns b → a ≡ b
  one_stop left [] a b h k = absurd h
  one_stop left (n ∷ ns) a b (inl h) (inl k) = one_here left n a b h k
  one_stop left (n ∷ ns) a b (inl h) (inr k) = absurd (short_or_long left n k.0 a k.1 k.2 h)
  one_stop left (n ∷ ns) a b (inr h) (inl k) = absurd (short_or_long left n h.0 b h.1 h.2 k)
  one_stop left (n ∷ ns) a b (inr h) (inr k) =
      let e : h.0 ≡ k.0 = same_text s whole n h.0 k.0 h.1 k.1 in
      one_stop (left - length h.0) ns a b h.3 (subst (λ (x : List ℕ). IsFirstNotFetched s (left - length x) ns b) (sym e) k.3)

  module _ (names : List (List ℕ)) (c : Options) (For : (texts : List (List ℕ)) → Answer → Type 0) where
    -- all are fetched, and the answer is due for their texts
    abbrev pub IsOfFetched : Answer → Type 0
    IsOfFetched a = (texts : List (List ℕ)) × AreFetched s.told most_source names texts × IsOfTexts names texts c (For texts) a

    pub one_of_fetched : (a b : Answer) → IsFirstNotFetched s most_source names a ⊎ IsOfFetched a → IsFirstNotFetched s most_source names b ⊎ IsOfFetched b
        → (a ≡ b) ⊎ ((texts : List (List ℕ)) × AreFetched s.told most_source names texts × IsOfTexts names texts c (For texts) a × IsOfTexts names texts c (For texts) b)
    one_of_fetched a b (inl h) (inl k) = inl (one_stop most_source names a b h k)
    one_of_fetched a b (inl h) (inr k) = absurd (fetched_or_not most_source names k.0 a k.1 h)
    one_of_fetched a b (inr h) (inl k) = absurd (fetched_or_not most_source names h.0 b h.1 k)
    one_of_fetched a b (inr h) (inr k) =
        let e : k.0 ≡ h.0 = same_texts most_source names k.0 h.0 k.1 h.1 in
        inr (h.0, h.1, h.2, subst (λ (ts : List (List ℕ)). IsOfTexts names ts c (For ts) b) e k.2)

  of_files : (names : List (List ℕ)) (c : Options) (D : Image → Answer → Type 0) (a : Answer) → DueOfFiles names s c D a → a.status ≢ 7 → IsFirstNotFetched s most_source names a ⊎ IsOfFetched names c (λ texts. IsForImage names texts c D) a
  of_files names c D a (due_fetched texts f d) n = inr (texts, f, of_texts a d n)
  of_files names c D a (due_not_fetched d) n = inl d
  of_files names c D a due_memory_to_fetch n = absurd (n refl)

  of_report : (names : List (List ℕ)) (c : Options) (a : Answer) → DueOfReporting names s c a → a.status ≢ 7 → IsFirstNotFetched s most_source names a ⊎ IsOfFetched names c (λ texts. IsForReport names texts c) a
  of_report names c a (due_compiled k made d) n = inr (made.texts, made.fetched, inr (record { compiled = k; made = made.made; due = d }))
  of_report names c a (due_not_compiled (due_fetched texts f (due_of_image image made d))) n = absurd d
  of_report names c a (due_not_compiled (due_fetched texts f (due_refused e other refused))) n = inr (texts, f, inl (record { error = e; other = other; refused = refused; told_is = refl }))
  of_report names c a (due_not_compiled (due_fetched texts f due_memory_to_compile)) n = absurd (n refl)
  of_report names c a (due_not_compiled (due_not_fetched d)) n = inl d
  of_report names c a (due_not_compiled due_memory_to_fetch) n = absurd (n refl)

-- ---- words

module _ (once : (d e : CompileError) → AreOneCause d e) (apart : (e : CompileError) → e ≢ errors.Memory → IsNeverBeside e)
    (words : List (List ℕ)) (s : ShelfSeen) (status : ℕ) (whole : IsSeenWhole s) where
  one_fetched_due : (files : List (List ℕ)) (c : Options) (For : (texts : List (List ℕ)) → Answer → Type 0) → ((texts : List (List ℕ)) → Accepts texts c (For texts)) → (a b : Answer)
      → (a ≡ b) ⊎ ((texts : List (List ℕ)) × AreFetched s.told most_source files texts × IsOfTexts files texts c (For texts) a × IsOfTexts files texts c (For texts) b) → (a ≡ b) ⊎ AreOfFetched files s c For a b
  one_fetched_due files c For accepts a b (inl e) = inl e
  one_fetched_due files c For accepts a b (inr t) = by_both (both_of_texts files t.0 c (For t.0) (accepts t.0) a b once apart t.2 t.3) where
    by_both : (a ≡ b) ⊎ AreOfTexts files t.0 c (For t.0) a b → (a ≡ b) ⊎ AreOfFetched files s c For a b
    by_both (inl e) = inl e
    by_both (inr x) = inr (record { texts = t.0; fetched = t.1; both = x })

  one_image_due : (files : List (List ℕ)) (c : Options) (D : Image → Answer → Type 0) (a b : Answer) → DueOfFiles files s c D a → DueOfFiles files s c D b → a.status ≢ 7 → b.status ≢ 7
      → (a ≡ b) ⊎ AreOfFetched files s c (λ texts. IsForImage files texts c D) a b
  one_image_due files c D a b d d' m n =
      one_fetched_due files c (λ texts. IsForImage files texts c D) (λ texts. accepts_image files texts c D) a b
      (one_of_fetched s whole files c (λ texts. IsForImage files texts c D) a b (of_files s whole files c D a d m) (of_files s whole files c D b d' n))

  one_report_due : (files : List (List ℕ)) (c : Options) (a b : Answer) → DueOfReporting files s c a → DueOfReporting files s c b → a.status ≢ 7 → b.status ≢ 7
      → (a ≡ b) ⊎ AreOfFetched files s c (λ texts. IsForReport files texts c) a b
  one_report_due files c a b d d' m n =
      one_fetched_due files c (λ texts. IsForReport files texts c) (λ texts. accepts_report files texts c) a b
      (one_of_fetched s whole files c (λ texts. IsForReport files texts c) a b (of_report s whole files c a d m) (of_report s whole files c b d' n))

  one_text_due : (names texts : List (List ℕ)) (c : Options) (D : Image → Answer → Type 0) (a b : Answer) → DueOfTexts names texts c D a → DueOfTexts names texts c D b → a.status ≢ 7 → b.status ≢ 7
      → (a ≡ b) ⊎ AreOfTexts names texts c (IsForImage names texts c D) a b
  one_text_due names texts c D a b d d' m n = both_of_texts names texts c (IsForImage names texts c D) (accepts_image names texts c D) a b once apart (of_texts a d m) (of_texts b d' n)

  one_of_job : (job : Asked) → (a b : Answer) → DueOfJob job s status a → DueOfJob job s status b → a.status ≢ 7 → b.status ≢ 7 → (a ≡ b) ⊎ AreOfSources job s status a b
  one_of_job (Run c o files) a b d d' m n = one_image_due files c (λ image. DueOfImage image o) a b d d' m n
  one_of_job (Compile c to files) a b d d' m n = one_image_due files c (DueOfKept s status to) a b d d' m n
  one_of_job (Exec o name) a b d d' m n = inl (one_of_image_file whole (λ i x y. one_of_image x y) a b d d' m n)
  one_of_job (Big c o functions) a b d d' m n = one_text_due (big_name ∷ []) (big_text functions ∷ []) c (λ image. DueOfImage image o) a b d d' m n
  one_of_job (Report c files) a b d d' m n = one_report_due files c a b d d' m n
  one_of_job (Trace o name) a b d d' m n = inl (one_of_image_file whole (λ i. single_tracing i o) a b d d' m n)
  one_of_job (Time o k ticks name) a b d d' m n = inl (one_of_image_file whole (λ i. single_timing i o k ticks) a b d d' m n)
  one_of_job (Check depths name trace) a b d d' m n = inl (one_of_both whole (λ i text. single_checking i depths text) a b d d' m n)
  one_of_job (Debug depths name script) a b d d' m n = inl (one_of_both whole (λ i text short. single_debugging i depths text) a b d d' m n)
  one_of_job (Guard depths name certificate) a b d d' m n = inl (one_of_both whole (λ i text short. single_guarding i depths text) a b d d' m n)
  one_of_job (Asm to name) a b d d' m n = inl (one_of_text whole (λ text short. single_assembly (λ image. one_of_keeping whole)) a b d d' m n)
  one_of_job (Dis name) a b d d' m n = inl (one_of_text whole (λ bytes short. one_of_bytes single_listing) a b d d' m n)

  pub one_of_words : (a b : Answer) → IsDue words s status a → IsDue words s status b → a.status ≢ 7 → b.status ≢ 7 → AreOne words s status a b
  one_of_words a b (due_job job h d) (due_job other k d') m n =
      by_job (one_of_job other a b (subst (λ (j : Asked). DueOfJob j s status a) (one_job h k) d) d' m n) where
        by_job : (a ≡ b) ⊎ AreOfSources other s status a b → AreOne words s status a b
        by_job (inl e) = inl e
        by_job (inr both) = inr (other, k, both)
  one_of_words a b (due_job job h d) (due_words none) m n = absurd (none job h)
  one_of_words a b (due_words none) (due_job job k d) m n = absurd (none job k)
  one_of_words a b (due_words none) (due_words none') m n = inl refl
  one_of_words a b (due_job job h d) due_memory_for_words m n = absurd (n refl)
  one_of_words a b (due_words none) due_memory_for_words m n = absurd (n refl)
  one_of_words a b due_memory_for_words d m n = absurd (m refl)
