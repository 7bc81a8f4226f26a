-- For a traced image, and for bytes as a trace, at most one answer is due, but for want of memory.
use Rattle.std.proofs.Common.{◌≡◌, ℕ, ◌<◌, ◌≤◌, ◌^◌, List, ◌++◌, length, refl, ap, sym, ◌∙◌, subst, arith}
use Rattle.std.specs.Prelude.{◌≢◌, Option, Some, None}
use Rattle.dae_base.proofs.Laws.{none_below}
use Rattle.dae_base.specs.Budgets.{Reaches, depth, first_below}
use Rattle.dae_base.specs.declared.Depths.{Depths}
use Rattle.dae_base.specs.declared.Queue.{Queue}
use Rattle.dae_image.specs.declared.Image.{Image}
use Rattle.dae_machine.specs.declared.End.{End}
use Rattle.dae_machine.specs.Machine.{Setup, State, IsFinal}
use Rattle.dae_machine.specs.Opened.{opened, setup_of}
use Rattle.dae_machine.specs.Rests.{end_of}
use Rattle.dae_machine.specs.Schedules.{word_of}
use Rattle.dae_trace.specs.declared.TraceAnswer.{TraceAnswer}
use Rattle.dae_trace.specs.declared.TraceAnswer.TheVariants.{Run, NotARun, BadLine, Depth, Memory}
use Rattle.dae_trace.specs.Traces.{Checks, FailsOf, IsTraceOf}
use Rattle.dae_trace.proofs.LawsOfTraces.{faults_are_one, traces_fault_not, traces_lead_to_one}
use Rattle.dae_cli_options.specs.declared.options.RunOptions.{RunOptions}
use Rattle.dae_cli_drive.specs.declared.driving.Driven.{Driven}
use Rattle.dae_cli_drive.specs.Images.{IsSingle, status_of}
use Rattle.dae_cli_drive.specs.Notes.{depth_line, end_puts}
use Rattle.dae_cli_drive.specs.Puts.{Answer, answer, told}
use Rattle.dae_cli_drive.specs.Turns.{Rested}
use Rattle.dae_cli_drive.proofs.Laws.{none_or_some, one_rest, single_budgeted, single_opened, some_same}
use Rattle.dae_cli_trace_jobs.specs.Checking.{DueOfChecking, DueOfTrace, answer_of, due_checked, most_trace, not_a_run_line}
use Rattle.dae_cli_trace_jobs.specs.Tracing.{DueOfLines, DueOfTracing, due_traced, puts_of_lines}

-- ---- tracing

abbrev traced_answer : Setup → State → RunOptions → State → Driven → Answer
traced_answer setup start o end how = answer (status_of how) (puts_of_lines setup start (word_of o.schedule) o.steps ++ end_puts how setup end None)

single_lines : (setup : Setup) (start : State) (o : RunOptions) → IsSingle (DueOfLines setup start o)
single_lines setup start o a b (due_traced end how turns rested) (due_traced end' how' turns' rested') n n' =
    let e : end ≡ end' = some_same turns turns' in
    let h : how ≡ how' = one_rest how how' o.steps setup end' (subst (λ (t : State). Rested how o.steps setup t) e rested) rested' in
    ap (λ (t : State). traced_answer setup start o t how) e ∙ ap (traced_answer setup start o end') h

pub single_tracing : (image : Image) (o : RunOptions) → IsSingle (DueOfTracing image o)
single_tracing image o = single_budgeted image _ (single_opened image o.depths _ (single_lines (setup_of image o.depths) (opened image) o))

-- ---- checking

module _ (image : Image) (d : Depths) (bytes : List ℕ) (short : length bytes ≤ most_trace) where
  few : length bytes < 2 ^ 40
  few = omega (arith, short)

  -- what is known of bytes that are a run's lines
  record Ran (end : Option End) : Type 0 where
    reach : Reaches d image.budget
    state : State
    trace : IsTraceOf image d bytes state

  ran : (end : Option End) → Checks (Run end) image d bytes → Ran end
  ran None x = record { reach = x.0; state = x.1.0; trace = x.1.1 }
  ran (Some end) x = record { reach = x.0; state = x.1.0; trace = x.1.1 }

  -- what is known of bytes with a fault
  record Failed (n : ℕ) : Type 0 where
    reach : Reaches d image.budget
    text : List ℕ
    fails : FailsOf image d bytes n text

  not_run : (n : ℕ) → Checks (NotARun n) image d bytes → Failed n
  not_run n x = record { reach = x.0; text = x.1.0; fails = x.1.1 }

  bad : (n : ℕ) → Checks (BadLine n) image d bytes → Failed n
  bad n x = record { reach = x.0; text = x.1.0; fails = x.1.1 }

  no_both : {end : Option End} {n : ℕ} → Ran end → Failed n → ⊥
  no_both {n = n} r f = traces_fault_not image d bytes f.text n r.state few f.fails r.trace

  no_depth : (queue : Queue) → Reaches d image.budget → first_below d image.budget ≡ Some queue → ⊥
  no_depth queue reach found = none_or_some ((none_below d image.budget).1 reach) found

  same_fault : {m n : ℕ} → Failed m → Failed n → told 10 (not_a_run_line m) ≡ told 10 (not_a_run_line n)
  same_fault {m} {n} f g = ap (λ (k : ℕ). told 10 (not_a_run_line k)) (faults_are_one image d bytes f.text g.text m n few f.fails g.fails)

  same_run : (m n : Option End) → Checks (Run m) image d bytes → Checks (Run n) image d bytes → answer_of (Run m) ≡ answer_of (Run n)
  same_run None None x y = refl
  same_run (Some end) (Some end') x y =
      let e = traces_lead_to_one image d bytes x.1.0 y.1.0 few x.1.1 y.1.1 in
      ap (λ (z : End). answer_of (Run (Some z))) (some_same (ap (λ (t : State). end_of t.e.halt) (sym e) ∙ x.1.3) y.1.3)
  same_run (Some end) None x y =
      let e = traces_lead_to_one image d bytes x.1.0 y.1.0 few x.1.1 y.1.1 in
      absurd (y.1.2 (subst (λ (t : State). IsFinal (setup_of image d) t) e x.1.2))
  same_run None (Some end) x y =
      let e = traces_lead_to_one image d bytes x.1.0 y.1.0 few x.1.1 y.1.1 in
      absurd (x.1.2 (subst (λ (t : State). IsFinal (setup_of image d) t) (sym e) y.1.2))

  same_depth : (queue other : Queue) (needs has needs' has' : ℕ) → Checks (Depth queue needs has) image d bytes → Checks (Depth other needs' has') image d bytes
      → answer_of (Depth queue needs has) ≡ answer_of (Depth other needs' has')
  same_depth queue other needs has needs' has' x y =
      let q : queue ≡ other = some_same x.0 y.0 in
      ap (λ (k : ℕ). told 4 (depth_line queue k has)) x.1 ∙ ap (λ (k : ℕ). told 4 (depth_line queue (depth queue image.budget) k)) x.2
      ∙ ap (λ (z : Queue). told 4 (depth_line z (depth z image.budget) (depth z d))) q
      ∙ sym (ap (λ (k : ℕ). told 4 (depth_line other k has')) y.1 ∙ ap (λ (k : ℕ). told 4 (depth_line other (depth other image.budget) k)) y.2)

  same : (t u : TraceAnswer) → Checks t image d bytes → Checks u image d bytes → t ≢ Memory → u ≢ Memory → answer_of t ≡ answer_of u
  same (Run m) (Run n) x y other other' = same_run m n x y
  same (Run m) (NotARun n) x y other other' = absurd (no_both (ran m x) (not_run n y))
  same (Run m) (BadLine n) x y other other' = absurd (no_both (ran m x) (bad n y))
  same (Run m) (Depth queue needs has) x y other other' = let r = ran m x in absurd (no_depth queue r.reach y.0)
  same (NotARun m) (Run n) x y other other' = absurd (no_both (ran n y) (not_run m x))
  same (NotARun m) (NotARun n) x y other other' = same_fault (not_run m x) (not_run n y)
  same (NotARun m) (BadLine n) x y other other' = same_fault (not_run m x) (bad n y)
  same (NotARun m) (Depth queue needs has) x y other other' = absurd (no_depth queue x.0 y.0)
  same (BadLine m) (Run n) x y other other' = absurd (no_both (ran n y) (bad m x))
  same (BadLine m) (NotARun n) x y other other' = same_fault (bad m x) (not_run n y)
  same (BadLine m) (BadLine n) x y other other' = same_fault (bad m x) (bad n y)
  same (BadLine m) (Depth queue needs has) x y other other' = absurd (no_depth queue x.0 y.0)
  same (Depth queue needs has) (Run n) x y other other' = let r = ran n y in absurd (no_depth queue r.reach x.0)
  same (Depth queue needs has) (NotARun n) x y other other' = absurd (no_depth queue y.0 x.0)
  same (Depth queue needs has) (BadLine n) x y other other' = absurd (no_depth queue y.0 x.0)
  same (Depth queue needs has) (Depth queue' needs' has') x y other other' = same_depth queue queue' needs has needs' has' x y
  same Memory u x y other other' = absurd (other refl)
  same t Memory x y other other' = absurd (other' refl)

  single_checked : IsSingle (DueOfTrace image d bytes)
  single_checked a b (due_checked t x) (due_checked u y) n n' = same t u x y (λ e. n (ap (λ (z : TraceAnswer). let r = answer_of z in r.status) e)) (λ e. n' (ap (λ (z : TraceAnswer). let r = answer_of z in r.status) e))

-- bytes that are short enough for a trace
pub single_checking : (image : Image) (d : Depths) (bytes : List ℕ) → length bytes ≤ most_trace → IsSingle (DueOfChecking image d bytes)
single_checking image d bytes short = single_budgeted image _ (single_checked image d bytes short)
