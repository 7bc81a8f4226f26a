-- What is seen of a shelf, by its parts, and what was seen of it before.
use Rattle.std.proofs.Common.{◌≡◌, ℕ, ◌≤◌, List, ◌∙◌, subst, arith}
use Rattle.std.specs.Prelude.{Option, IfSome}
use Rattle.dae_io.specs.Faults.{ShelfFault}
use Rattle.dae_io.specs.Told.{TellsSame}
use Rattle.dae_cli_drive.specs.Puts.{Answer}
use Rattle.dae_cli_drive.specs.Shelves.{FailsToFetch, IsTold, KeepsNothing, ShelfSeen}
use Rattle.dae_cli_drive.specs.TextFiles.{DueOfTextFile, due_text, due_not_got, due_long, due_memory_for_text, IsTextOfFile}

abbrev pub seen_by : (told told_after : List ℕ → Option (List ℕ)) → (count count_after : ℕ) → Option ShelfFault → (given given_after : List (List ℕ)) → ShelfSeen
seen_by told told_after count count_after last given given_after = record {
  told = told;
  told_after = told_after;
  count = count;
  count_after = count_after;
  last = last;
  given = given;
  given_after = given_after;
}

-- a shelf that tells the same, and of which fewer faults were counted before
module _ (told before told' told'' : List ℕ → Option (List ℕ)) (first count after : ℕ) (last : Option ShelfFault) (given given' old new : List (List ℕ)) (same : TellsSame told before) (fewer : first ≤ count) where
  abbrev here : ShelfSeen
  here = seen_by before told' count after last given given'

  abbrev there : ShelfSeen
  there = seen_by told told'' first after last old new

  pub told_before : (name text : List ℕ) → IsTold before name text → IsTold told name text
  told_before name text t = subst (λ (o : Option (List ℕ)). IfSome o (λ held. held ≡ text)) (same name) t

  pub fails_before : (name : List ℕ) → FailsToFetch here name → FailsToFetch there name
  fails_before name f = let rose = f.0 in (omega (arith, rose), f.1)

  pub text_before : {DueOf : List ℕ → Answer → Type 0} {a : Answer} (name : List ℕ) (most : ℕ) (long : List ℕ) → DueOfTextFile name most long here DueOf a → DueOfTextFile name most long there DueOf a
  text_before name most long (due_text text is d) = due_text text (record { told = told_before name text is.told; short = is.short }) d
  text_before name most long (due_not_got f) = due_not_got (fails_before name f)
  text_before name most long (due_long text t more) = due_long text (told_before name text t) more
  text_before name most long due_memory_for_text = due_memory_for_text

pub text_is_before : {told before : List ℕ → Option (List ℕ)} {name text : List ℕ} {most : ℕ} → TellsSame told before → IsTextOfFile before name most text → IsTextOfFile told name most text
text_is_before {name = name} {text} same is = record { told = subst (λ (o : Option (List ℕ)). IfSome o (λ held. held ≡ text)) (same name) is.told; short = is.short }

-- nothing was kept by two calls in turn
pub nothing_kept : {told before after : List ℕ → Option (List ℕ)} {first last_count : ℕ} {last : Option ShelfFault} {given between new : List (List ℕ)} → TellsSame told before → between ≡ given → TellsSame before after → new ≡ between
    → KeepsNothing (seen_by told after first last_count last given new)
nothing_kept same e later f = record { given = f ∙ e; told = λ name. later name ∙ same name }
