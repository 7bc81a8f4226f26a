-- What is due behind the line with an image's budget, and where a machine is opened.
use Rattle.std.proofs.Common.{◌≡◌, inl, inr, ℕ, [], ◌∷◌, refl, ap, sym, subst}
use Rattle.std.specs.Prelude.{Option, Some, None}
use Rattle.dae_base.specs.declared.Depths.{Depths}
use Rattle.dae_base.specs.declared.Queue.{Queue}
use Rattle.dae_base.specs.Budgets.{depth, first_below}
use Rattle.dae_base.proofs.Laws.{none_below}
use Rattle.dae_image.specs.declared.Image.{Image}
use Rattle.dae_io.specs.Sinks.{SinkState}
use Rattle.dae_cli_drive.specs.Images.{BehindBudget, due_budget, due_memory_for_lines, DueOfNoMachine, due_depth, due_memory_for_machine, IsNotBudgeted, IsSingle, WhenOpened, due_opened, due_not_opened}
use Rattle.dae_cli_drive.specs.Notes.{budget_line, depth_line}
use Rattle.dae_cli_drive.specs.Puts.{Answer, answer, AreNoted, Gives, GivesDue, Note, sinks, told}
use Rattle.dae_cli_drive.proofs.Puts.{gives_failed, gives_then}

pub some_same : {X : Type 0} {o : Option X} {x y : X} → o ≡ Some x → o ≡ Some y → x ≡ y
some_same h k = cc

pub none_or_some : {X : Type 0} {o : Option X} {x : X} → o ≡ None → o ≡ Some x → ⊥
none_or_some h k = cc

-- where a machine is opened on an image, something is always due
pub some_opened : (image : Image) (d : Depths) (Due : Answer → Type 0) → (due : Answer) × WhenOpened image d Due due
some_opened image d Due = by_queue (first_below d image.budget) refl where
  by_queue : (q : Option Queue) → first_below d image.budget ≡ q → (due : Answer) × WhenOpened image d Due due
  by_queue None e = (_, due_not_opened (due_memory_for_machine ((none_below d image.budget).0 e)))
  by_queue (Some queue) e = (_, due_not_opened (due_depth queue e))

-- what is due behind the line is given behind it
pub gives_budgeted : {image : Image} {Due : Answer → Type 0} {status : ℕ} (out out' n m n' : SinkState) → AreNoted (Note (budget_line image.budget) ∷ []) n m → GivesDue Due status (sinks out m) (sinks out' n')
    → GivesDue (BehindBudget image Due) status (sinks out n) (sinks out' n')
gives_budgeted {image} {status = status} out out' n m n' noted given = (
  _,
  due_budget given.1,
  gives_then (Note (budget_line image.budget) ∷ []) given.0.puts given.0.status status (sinks out n) (sinks out m) (sinks out' n') (noted out) given.2,
)

-- where the line isn't put
pub gives_unbudgeted : {image : Image} {Due : Answer → Type 0} {status : ℕ} (out n n' : SinkState) → (due : Answer) × Due due → IsNotBudgeted image status n n' → GivesDue (BehindBudget image Due) status (sinks out n) (sinks out n')
gives_unbudgeted {image} out n n' some (inl failed) = (
  answer some.0.status (Note (budget_line image.budget) ∷ some.0.puts),
  due_budget some.1,
  subst (λ (k : ℕ). Gives (answer some.0.status (Note (budget_line image.budget) ∷ some.0.puts)) k (sinks out n) (sinks out n')) (sym failed.0)
      (gives_failed (Note (budget_line image.budget)) some.0.puts some.0.status (sinks out n) (sinks out n') (failed.1, refl)),
)
gives_unbudgeted out n n' some (inr given) = (_, due_memory_for_lines, given out)

-- ---- at most one answer

pub single_unopened : (image : Image) (d : Depths) → IsSingle (DueOfNoMachine image d)
single_unopened image d a b (due_depth q found) (due_depth q' found') n n' = ap (λ (queue : Queue). told 4 (depth_line queue (depth queue image.budget) (depth queue d))) (some_same found found')
single_unopened image d a b (due_depth q found) (due_memory_for_machine reach) n n' = absurd (n' refl)
single_unopened image d a b (due_memory_for_machine reach) e n n' = absurd (n refl)

pub single_opened : (image : Image) (d : Depths) (Due : Answer → Type 0) → IsSingle Due → IsSingle (WhenOpened image d Due)
single_opened image d Due single a b (due_opened reach x) (due_opened reach' y) n n' = single a b x y n n'
single_opened image d Due single a b (due_opened reach x) (due_not_opened (due_depth q found)) n n' = absurd (none_or_some ((none_below d image.budget).1 reach) found)
single_opened image d Due single a b (due_opened reach x) (due_not_opened (due_memory_for_machine reach')) n n' = absurd (n' refl)
single_opened image d Due single a b (due_not_opened (due_depth q found)) (due_opened reach y) n n' = absurd (none_or_some ((none_below d image.budget).1 reach) found)
single_opened image d Due single a b (due_not_opened (due_memory_for_machine reach)) (due_opened reach' y) n n' = absurd (n refl)
single_opened image d Due single a b (due_not_opened x) (due_not_opened y) n n' = single_unopened image d a b x y n n'

pub single_budgeted : (image : Image) (Due : Answer → Type 0) → IsSingle Due → IsSingle (BehindBudget image Due)
single_budgeted image Due single a b (due_budget {a = x} d) (due_budget {a = y} e) n n' = ap (λ (z : Answer). answer z.status (Note (budget_line image.budget) ∷ z.puts)) (single x y d e n n')
single_budgeted image Due single a b (due_budget d) due_memory_for_lines n n' = absurd (n' refl)
single_budgeted image Due single a b due_memory_for_lines d n n' = absurd (n refl)
