-- For a timed run at most one answer is due.
use Rattle.std.proofs.Common.{◌≡◌, ◌⊎◌, inl, inr, ℕ, zero, suc, ◌<◌, List, ◌++◌, refl, ap, ◌∙◌, subst, arith}
use Rattle.std.proofs.lemmas.Bool.{cases_order}
use Rattle.std.specs.Prelude.{Option}
use Rattle.dae_image.specs.declared.Image.{Image}
use Rattle.dae_machine.specs.declared.Pick.{Pick}
use Rattle.dae_machine.specs.Machine.{Setup}
use Rattle.dae_machine.specs.Opened.{opened, setup_of}
use Rattle.dae_cli_options.specs.declared.options.Costs.{Costs}
use Rattle.dae_cli_options.specs.declared.options.RunOptions.{RunOptions}
use Rattle.dae_cli_options.specs.declared.options.Shown.{Shown}
use Rattle.dae_cli_drive.specs.declared.driving.Driven.{Driven}
use Rattle.dae_cli_drive.specs.declared.driving.Driven.TheVariants.{Final, Stuck, Spent, SinkFailed}
use Rattle.dae_cli_drive.specs.Images.{IsSingle, status_of}
use Rattle.dae_cli_drive.specs.Notes.{end_puts}
use Rattle.dae_cli_drive.specs.Puts.{Answer, answer}
use Rattle.dae_cli_drive.specs.Turns.{Rested}
use Rattle.dae_cli_drive.proofs.Laws.{none_or_some, one_rest, single_budgeted, single_opened}
use Rattle.dae_timing.specs.Clocks.{Clock, first_clock}
use Rattle.dae_timing.specs.Ticks.{after_tick, in_order, picks_of}
use Rattle.dae_timing.specs.Runs.{HasPick, Ticks, no_tick, one_tick}
use Rattle.dae_cli_time_job.specs.Driving.{RestsTimed, RunsOut, Timing, puts_of_ticks}
use Rattle.dae_cli_time_job.specs.Due.{DueOfTicks, DueOfTiming, due_ticks}
use Rattle.dae_cli_time_job.specs.Lines.{time_puts}

module _ (setup : Setup) (k : Costs) where
  -- so many ticks are the same
  ticks_same : (n : ℕ) (c d e : Clock) (ps qs : List Pick) → Ticks setup k n c ps d → Ticks setup k n c qs e → (ps ≡ qs) × (d ≡ e)
  ticks_same zero c d e ps qs no_tick no_tick = (refl, refl)
  ticks_same (suc n) c d e ps qs (one_tick {ps = xs} goes t) (one_tick {ps = ys} also u) =
      let same = ticks_same n (after_tick setup k c) d e xs ys t u in
      (ap (λ (l : List Pick). in_order (picks_of setup k c) ++ l) same.0, same.1)

  -- where more ticks were made, some pick was enabled
  more_go : (m n : ℕ) (c d e : Clock) (ps qs : List Pick) → m < n → Ticks setup k m c ps d → Ticks setup k n c qs e → HasPick setup d.state
  more_go zero zero c d e ps qs less t u = absurd (omega arith)
  more_go (suc m) zero c d e ps qs less t u = absurd (omega arith)
  more_go zero (suc n) c d e ps qs less no_tick (one_tick goes u) = goes
  more_go (suc m) (suc n) c d e ps qs less (one_tick {ps = xs} goes t) (one_tick {ps = ys} also u) = more_go m n (after_tick setup k c) d e xs ys (omega (arith, less)) t u

  -- a timed run that rests made no fewer ticks than another
  no_fewer : (start : Clock) (most : ℕ) (how other : Driven) (t u : Timing) → RunsOut setup k start most how t → RunsOut setup k start most other u → t.ticks < u.ticks → ⊥
  no_fewer start most how other t u r s less = by_rest how r.rests where
    goes : HasPick setup (let c = t.clock in c.state)
    goes = more_go t.ticks u.ticks start t.clock u.clock t.picks u.picks less r.made s.made

    by_rest : (h : Driven) → RestsTimed h most setup t → ⊥
    by_rest (Final end) rests = let f = rests.0 in none_or_some (f.quiet goes.0) goes.2
    by_rest Stuck rests = none_or_some (rests.quiet goes.0) goes.2
    by_rest Spent rests = let e = rests.0 in let h = s.at_most in absurd (omega (arith, e, h, less))
    by_rest SinkFailed rests = rests

as_rested : (how : Driven) (most : ℕ) (setup : Setup) (t : Timing) → RestsTimed how most setup t → Rested how (let c = t.clock in let s = c.state in s.steps) setup (let c = t.clock in c.state)
as_rested (Final end) most setup t r = r
as_rested Stuck most setup t r = r
as_rested Spent most setup t r = (refl, r.1)
as_rested SinkFailed most setup t r = r

-- the answer of a timed run that came out so
abbrev timed_answer : Setup → Clock → Option Shown → Driven → List Pick → Clock → Answer
timed_answer setup start show how picks c = answer (status_of how) (puts_of_ticks setup start picks ++ (end_puts how setup c.state show ++ time_puts c))

pub single_ticks : (setup : Setup) (k : Costs) (start : Clock) (most : ℕ) (show : Option Shown) → IsSingle (DueOfTicks setup k start most show)
single_ticks setup k start most show a b (due_ticks how t r) (due_ticks other u s) n m = by_count (cases_order t.ticks u.ticks) where
  by_count : (t.ticks ≡ u.ticks) ⊎ ((t.ticks < u.ticks) ⊎ (u.ticks < t.ticks)) → timed_answer setup start show how t.picks t.clock ≡ timed_answer setup start show other u.picks u.clock
  by_count (inr (inl h)) = absurd (no_fewer setup k start most how other t u r s h)
  by_count (inr (inr h)) = absurd (no_fewer setup k start most other how u t s r h)
  by_count (inl e) =
      let made : Ticks setup k u.ticks start t.picks t.clock = subst (λ (j : ℕ). Ticks setup k j start t.picks t.clock) e r.made in
      let same = ticks_same setup k u.ticks start t.clock u.clock t.picks u.picks made s.made in
      let rest : Rested how (let c = u.clock in let s = c.state in s.steps) setup (let c = u.clock in c.state) = subst (λ (c : Clock). Rested how (let s = c.state in s.steps) setup c.state) same.1 (as_rested how most setup t r.rests) in
      let one : how ≡ other = one_rest how other (let c = u.clock in let s = c.state in s.steps) setup (let c = u.clock in c.state) rest (as_rested other most setup u s.rests) in
      ap (λ (h : Driven). timed_answer setup start show h t.picks t.clock) one ∙ ap (λ (ps : List Pick). timed_answer setup start show other ps t.clock) same.0 ∙ ap (timed_answer setup start show other u.picks) same.1

pub single_timing : (image : Image) (o : RunOptions) (k : Costs) (most : ℕ) → IsSingle (DueOfTiming image o k most)
single_timing image o k most =
    single_budgeted image _ (single_opened image o.depths _ (single_ticks (setup_of image o.depths) k (first_clock (opened image)) most o.show))
