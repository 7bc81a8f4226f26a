-- Timed runs of an image that keeps the meaning of a program.
use Rattle.std.proofs.Common.{◌≡◌, ◌⊎◌, inl, inr, ℕ, ◌+◌, ◌*◌, ◌≤◌, List, ◌∷◌, ◌++◌, length, map, refl, ap, sym, ◌∙◌, subst, arith}
use Rattle.std.specs.Prelude.{◌≢◌, ◌/◌, Some}
use Rattle.std.specs.List.{concat}
use Rattle.std.proofs.Math.Nat.{div-le_of_le-mul, mul-div_cancel_left}
use Rattle.dae_base.specs.Budgets.{Reaches}
use Rattle.dae_base.proofs.Laws.{none_below}
use Rattle.dae_encode.specs.declared.Halt.{Halt}
use Rattle.dae_encode.specs.declared.Halt.TheVariants.{Status, Trap}
use Rattle.dae_image.specs.declared.Image.{Image}
use Rattle.dae_machine.specs.declared.End.TheVariants.{Ended, Trapped as EndTrapped}
use Rattle.dae_machine.specs.Machine.{Setup, State, IsFinal}
use Rattle.dae_machine.specs.Opened.{opened, setup_of}
use Rattle.dae_machine.specs.Ends.{IsPrefixOf, GoesOn as RunsGoOn}
use Rattle.dae_machine.specs.Rests.{end_of}
use Rattle.dae_meaning.specs.Worlds.{World}
use Rattle.dae_program.specs.Outcomes.{last_world}
use Rattle.dae_program.specs.Programs.{meaning_of, program_end}
use Rattle.dae_program.specs.declared.program.Program.{Program}
use Rattle.dae_compile_promise.specs.Promises.{IsAtEnd, KeepsMeaning, OnlyEnds}
use Rattle.dae_cli_options.specs.declared.options.Costs.{Costs}
use Rattle.dae_cli_options.specs.declared.options.RunOptions.{RunOptions}
use Rattle.dae_cli_drive.specs.declared.driving.Driven.{Driven}
use Rattle.dae_cli_drive.specs.declared.driving.Driven.TheVariants.{Final, Stuck, Spent, SinkFailed}
use Rattle.dae_cli_drive.specs.Images.{due_budget, due_depth, due_memory_for_lines, due_memory_for_machine, due_not_opened, due_opened, status_of}
use Rattle.dae_cli_drive.specs.Notes.{budget_line, ended_line, end_puts, show_puts, steps_line, trapped_line}
use Rattle.dae_cli_drive.specs.Pieces.{pieces}
use Rattle.dae_cli_drive.specs.Puts.{Answer, answer, Out, Note, Put}
use Rattle.dae_cli_drive.proofs.Laws.{none_or_some, pieces_are_printed}
use Rattle.dae_timing.specs.Clocks.{first_clock}
use Rattle.dae_timing.specs.Costs.{largest}
use Rattle.dae_timing.specs.Runs.{TimedRun}
use Rattle.dae_timing.proofs.LawsOfTicks.{costs_some, ticks_at_most, timed_run}
use Rattle.dae_cli_time_job.specs.Driving.{RestsTimed, RunsOut, Timing}
use Rattle.dae_cli_time_job.specs.Due.{DueOfTiming, due_ticks}
use Rattle.dae_cli_time_job.specs.Lines.{time_puts}
use Rattle.dae_cli_answers.proofs.Runs.{neither, never_four}
use Rattle.dae_cli_answers.specs.TimedPromises.{IsTimedRunOf, IsTimedToEnd, TellsTimedEnd, TellsTimedSoFar}

-- where so many ticks are enough for the work at this cost, and no more were made than the steps allow, the steps are as many
steps_reach : (cost work steps most : ℕ) → 1 ≤ cost → cost * (work + 1) ≤ most → most ≤ cost * (steps + 1) → work ≤ steps
steps_reach cost work steps most some enough few =
    let whole : cost * (work + 1) / cost ≡ work + 1 = mul-div_cancel_left (work + 1) some in
    let part : cost * (work + 1) / cost ≤ steps + 1 = div-le_of_le-mul cost (between (cost * (work + 1)) most (cost * (steps + 1)) enough few) in
    omega (arith, whole, part)
  where
    between : (a b c : ℕ) → a ≤ b → b ≤ c → a ≤ c
    between a b c h k = omega (arith, h, k)

module _ (image : Image) (o : RunOptions) (k : Costs) (most : ℕ) (reach : Reaches o.depths image.budget) (how : Driven) (t : Timing) (out : RunsOut (setup_of image o.depths) k (first_clock (opened image)) most how t) where
  abbrev setup : Setup
  setup = setup_of image o.depths

  abbrev end : State
  end = let c = t.clock in c.state

  -- the answer of a timed run that came out so
  abbrev timed_answer : Answer
  timed_answer = answer (status_of how) (Note (budget_line image.budget) ∷ (map Out (pieces setup (opened image) t.picks) ++ (end_puts how setup end o.show ++ time_puts t.clock)))

  ran : TimedRun setup image t.ticks t.picks t.clock
  ran = timed_run setup k image t.ticks t.clock t.picks out.made

  abbrev told_pieces : List (List ℕ)
  told_pieces = pieces setup (opened image) t.picks

  -- a timed run that ended, of a program that ends
  module _ (halt : Halt) (w : World) (only : OnlyEnds image halt w) where
    last_is : IsFinal setup end → end ≡ only.end
    last_is final = (only.only o.depths reach).same t.picks end ran.run final

    output_is : IsFinal setup end → concat told_pieces ≡ w.printed
    output_is final = sym (pieces_are_printed setup image end t.picks ran.run) ∙ ap (λ (s : State). s.printed) (last_is final) ∙ only.printed

    memory_is : IsFinal setup end → end.memory ≡ w.memory
    memory_is final = ap (λ (s : State). s.memory) (last_is final) ∙ only.memory

    end_is : IsFinal setup end → end_of end.e.halt ≡ end_of (Some halt)
    end_is final = ap end_of (ap (λ (s : State). s.e.halt) (last_is final) ∙ only.halts)

    front_is : IsPrefixOf end.printed w.printed
    front_is = subst (λ (xs : List ℕ). IsPrefixOf end.printed xs) only.printed ((only.only o.depths reach).prints t.picks end ran.run)

    -- a timed run that made all its ticks isn't at its end
    not_spent : largest k * (4096 * (w.items / 4 + 1) + 1) ≤ most → RestsTimed Spent most setup t → ⊥
    not_spent enough rests =
        let can = only.only o.depths reach in
        let few = ticks_at_most setup k image t.ticks t.clock t.picks out.made in
        let some : 1 ≤ largest k = costs_some k in
        let counted = ran.ticks in
        let made = rests.0 in
        let reached : 4096 * (w.items / 4 + 1) ≤ end.steps = steps_reach (largest k) (4096 * (w.items / 4 + 1)) end.steps most some enough (omega (arith, few, counted, made)) in
        let at_most = can.at_most t.picks end ran.run in
        let short = only.short in
        let steps = ran.steps in
        let all : length t.picks ≡ length only.picks = omega (arith, reached, at_most, short, steps) in
        let final : IsFinal setup end = (can.ends t.picks end ran.run).1 all in
        none_or_some (final.quiet rests.1.0) rests.1.2

  tells_end : (w : World) (line : List ℕ) (status : ℕ) → status_of how ≡ status → concat told_pieces ≡ w.printed → end.memory ≡ w.memory → end_puts how setup end o.show ≡ Note line ∷ (Note (steps_line end.steps) ∷ show_puts o.show end.memory)
      → (status_of how ≡ status) × TellsTimedEnd image o w line timed_answer
  tells_end w line status s text memory puts = (
    s,
    record {
      pieces = told_pieces;
      output = text;
      steps = end.steps;
      clock = t.clock;
      puts = ap (λ (ps : List Put). Note (budget_line image.budget) ∷ (map Out told_pieces ++ (ps ++ time_puts t.clock))) (puts ∙ ap (λ (m : List ℕ). Note line ∷ (Note (steps_line end.steps) ∷ show_puts o.show m)) memory);
    },
  )

module _ (image : Image) (o : RunOptions) (k : Costs) (most : ℕ) (reach : Reaches o.depths image.budget) (t : Timing) where
  abbrev Out_of : Driven → Type 0
  Out_of how = RunsOut (setup_of image o.depths) k (first_clock (opened image)) most how t

  halted : (how : Driven) (status : ℕ) (w : World) → OnlyEnds image (Status status) w → (out : Out_of how) → (status_of how ≡ 0) ⊎ (status_of how ≡ 1) → (status_of how ≡ 0) × TellsTimedEnd image o w (ended_line status) (timed_answer image o k most reach how t out)
  halted (Final (Ended n)) status w only out h =
      let final = out.rests.0 in
      let same : n ≡ status = (let e = sym out.rests.1 ∙ end_is image o k most reach (Final (Ended n)) t out (Status status) w only final in cc) in
      tells_end image o k most reach (Final (Ended n)) t out w (ended_line status) 0 refl (output_is image o k most reach (Final (Ended n)) t out (Status status) w only final) (memory_is image o k most reach (Final (Ended n)) t out (Status status) w only final)
      (ap (λ (j : ℕ). Note (ended_line j) ∷ (Note (steps_line (let c = t.clock in let s = c.state in s.steps)) ∷ show_puts o.show (let c = t.clock in let s = c.state in s.memory))) same)
  halted (Final (EndTrapped n)) status w only out h = absurd (let e = sym out.rests.1 ∙ end_is image o k most reach (Final (EndTrapped n)) t out (Status status) w only out.rests.0 in cc)
  halted Stuck status w only out (inl h) = absurd (omega arith)
  halted Stuck status w only out (inr h) = absurd (omega arith)
  halted Spent status w only out (inl h) = absurd (omega arith)
  halted Spent status w only out (inr h) = absurd (omega arith)
  halted SinkFailed status w only out h = absurd out.rests

  trapped : (how : Driven) (code : ℕ) (w : World) → OnlyEnds image (Trap code) w → (out : Out_of how) → (status_of how ≡ 0) ⊎ (status_of how ≡ 1) → (status_of how ≡ 1) × TellsTimedEnd image o w (trapped_line code) (timed_answer image o k most reach how t out)
  trapped (Final (EndTrapped n)) code w only out h =
      let final = out.rests.0 in
      let same : n ≡ code = (let e = sym out.rests.1 ∙ end_is image o k most reach (Final (EndTrapped n)) t out (Trap code) w only final in cc) in
      tells_end image o k most reach (Final (EndTrapped n)) t out w (trapped_line code) 1 refl (output_is image o k most reach (Final (EndTrapped n)) t out (Trap code) w only final) (memory_is image o k most reach (Final (EndTrapped n)) t out (Trap code) w only final)
      (ap (λ (j : ℕ). Note (trapped_line j) ∷ (Note (steps_line (let c = t.clock in let s = c.state in s.steps)) ∷ show_puts o.show (let c = t.clock in let s = c.state in s.memory))) same)
  trapped (Final (Ended n)) code w only out h = absurd (let e = sym out.rests.1 ∙ end_is image o k most reach (Final (Ended n)) t out (Trap code) w only out.rests.0 in cc)
  trapped Stuck code w only out (inl h) = absurd (omega arith)
  trapped Stuck code w only out (inr h) = absurd (omega arith)
  trapped Spent code w only out (inl h) = absurd (omega arith)
  trapped Spent code w only out (inr h) = absurd (omega arith)
  trapped SinkFailed code w only out h = absurd out.rests

  enough_for : (how : Driven) (halt : Halt) (w : World) → OnlyEnds image halt w → Out_of how → largest k * (4096 * (w.items / 4 + 1) + 1) ≤ most → status_of how ≢ 3
  enough_for (Final (Ended n)) halt w only out enough h = absurd (omega arith)
  enough_for (Final (EndTrapped n)) halt w only out enough h = absurd (omega arith)
  enough_for Stuck halt w only out enough h = absurd (omega arith)
  enough_for Spent halt w only out enough h = not_spent image o k most reach Spent t out halt w only enough out.rests
  enough_for SinkFailed halt w only out enough h = absurd out.rests

  -- a timed run that made all its ticks
  so_far : (how : Driven) (printed : List ℕ) → (let c = t.clock in let s = c.state in IsPrefixOf s.printed printed) → (out : Out_of how) → status_of how ≡ 3 → TellsTimedSoFar image o most printed (timed_answer image o k most reach how t out)
  so_far (Final (Ended n)) printed front out h = absurd (omega arith)
  so_far (Final (EndTrapped n)) printed front out h = absurd (omega arith)
  so_far Stuck printed front out h = absurd (omega arith)
  so_far Spent printed front out h =
      let r = ran image o k most reach Spent t out in
      record {
        pieces = pieces (setup_of image o.depths) (opened image) t.picks;
        front = subst (λ (xs : List ℕ). IsPrefixOf xs printed) (pieces_are_printed (setup_of image o.depths) image (let c = t.clock in c.state) t.picks r.run) front;
        steps = (let c = t.clock in let s = c.state in s.steps);
        memory = (let c = t.clock in let s = c.state in s.memory);
        clock = t.clock;
        all = r.ticks ∙ out.rests.0;
        puts = refl;
      }
  so_far SinkFailed printed front out h = absurd out.rests

  at_end : (how : Driven) (p : Program) (limit : ℕ) → KeepsMeaning p limit image → Out_of how → (status_of how ≡ 0) ⊎ (status_of how ≡ 1) → (n : ℕ) × IsAtEnd (program_end (meaning_of p limit n))
  at_end (Final e) p limit keeps out h = keeps.ends_only o.depths reach t.picks (let c = t.clock in c.state) (ran image o k most reach (Final e) t out).run out.rests.0
  at_end Stuck p limit keeps out (inl h) = absurd (omega arith)
  at_end Stuck p limit keeps out (inr h) = absurd (omega arith)
  at_end Spent p limit keeps out (inl h) = absurd (omega arith)
  at_end Spent p limit keeps out (inr h) = absurd (omega arith)
  at_end SinkFailed p limit keeps out h = absurd out.rests

  never_ends : (how : Driven) (outputs : ℕ → List ℕ) → RunsGoOn (setup_of image o.depths) (opened image) outputs → Out_of how → (status_of how ≢ 0) × (status_of how ≢ 1)
  never_ends (Final e) outputs goes out =
      let final = out.rests.0 in
      let next = goes.enabled t.picks (let c = t.clock in c.state) (ran image o k most reach (Final e) t out).run in
      absurd (none_or_some (final.quiet next.0) next.2)
  never_ends Stuck outputs goes out = (λ h. absurd (omega arith), λ h. absurd (omega arith))
  never_ends Spent outputs goes out = (λ h. absurd (omega arith), λ h. absurd (omega arith))
  never_ends SinkFailed outputs goes out = absurd out.rests

  never_nine : (how : Driven) (p : Program) (limit : ℕ) → KeepsMeaning p limit image → Out_of how → status_of how ≢ 9
  never_nine (Final (Ended n)) p limit keeps out h = absurd (omega arith)
  never_nine (Final (EndTrapped n)) p limit keeps out h = absurd (omega arith)
  never_nine Stuck p limit keeps out h = keeps.never_stuck o.depths reach t.picks (let c = t.clock in c.state) (ran image o k most reach Stuck t out).run out.rests
  never_nine Spent p limit keeps out h = absurd (omega arith)
  never_nine SinkFailed p limit keeps out h = absurd out.rests

  timed : (how : Driven) (p : Program) (limit : ℕ) → KeepsMeaning p limit image → (out : Out_of how) → IsTimedRunOf p limit image o k most (timed_answer image o k most reach how t out)
  timed how p limit keeps out = record {
    never_stuck = never_nine how p limit keeps out;
    below = λ h. absurd (never_four how h);
    told = λ low. absurd (low reach);
    ends_only = at_end how p limit keeps out;
    ends = λ n status e. record {
      tells = halted how status _ (keeps.ends n status e) out;
      running = so_far how _ (front_is image o k most reach how t out (Status status) _ (keeps.ends n status e)) out;
      enough = enough_for how (Status status) _ (keeps.ends n status e) out;
    };
    traps = λ n code e. record {
      tells = trapped how code _ (keeps.traps n code e) out;
      running = so_far how _ (front_is image o k most reach how t out (Trap code) _ (keeps.traps n code e)) out;
      enough = enough_for how (Trap code) _ (keeps.traps n code e) out;
    };
    goes_on = λ g. (
        let goes = keeps.goes_on g o.depths reach in
        let never = never_ends how _ goes out in
        let x = goes.prints t.picks (let c = t.clock in c.state) (ran image o k most reach how t out).run in
        (never.0, never.1, λ h. (x.0, so_far how (last_world (meaning_of p limit x.0)).printed x.1 out h)));
  }

-- an answer without a run
module _ (p : Program) (limit : ℕ) (image : Image) (o : RunOptions) (k : Costs) (most : ℕ) (a : Answer) (zero : a.status ≢ 0) (one : a.status ≢ 1) (three : a.status ≢ 3) where
  never_run : (status : ℕ) (w : World) (line : List ℕ) → IsTimedToEnd image o k most status w line a
  never_run status w line = record { tells = λ h. absurd (neither zero one h); running = λ h. absurd (three h); enough = λ e. three }

  untimed : a.status ≢ 9 → (a.status ≡ 4 → ¬ (Reaches o.depths image.budget)) → (¬ (Reaches o.depths image.budget) → (a.status ≡ 4) ⊎ (a.status ≡ 7)) → IsTimedRunOf p limit image o k most a
  untimed nine below told = record {
    never_stuck = nine;
    below = below;
    told = told;
    ends_only = λ h. absurd (neither zero one h);
    ends = λ n status e. never_run 0 _ _;
    traps = λ n code e. never_run 1 _ _;
    goes_on = λ g. (zero, one, λ h. absurd (three h));
  }

pub timed_run_of_image : (p : Program) (limit : ℕ) (image : Image) (o : RunOptions) (k : Costs) (most : ℕ) (a : Answer) → KeepsMeaning p limit image → DueOfTiming image o k most a → IsTimedRunOf p limit image o k most a
timed_run_of_image p limit image o k most a keeps (due_budget (due_opened reach (due_ticks how t out))) = timed image o k most reach t how p limit keeps out
timed_run_of_image p limit image o k most a keeps (due_budget (due_not_opened (due_depth queue found))) =
    untimed p limit image o k most a (λ h. absurd (omega arith)) (λ h. absurd (omega arith)) (λ h. absurd (omega arith)) (λ h. absurd (omega arith))
    (λ h reach. none_or_some ((none_below o.depths image.budget).1 reach) found) (λ low. inl refl)
timed_run_of_image p limit image o k most a keeps (due_budget (due_not_opened (due_memory_for_machine reach))) =
    untimed p limit image o k most a (λ h. absurd (omega arith)) (λ h. absurd (omega arith)) (λ h. absurd (omega arith)) (λ h. absurd (omega arith))
    (λ h. absurd (omega arith)) (λ low. inr refl)
timed_run_of_image p limit image o k most a keeps due_memory_for_lines =
    untimed p limit image o k most a (λ h. absurd (omega arith)) (λ h. absurd (omega arith)) (λ h. absurd (omega arith)) (λ h. absurd (omega arith))
    (λ h. absurd (omega arith)) (λ low. inr refl)
