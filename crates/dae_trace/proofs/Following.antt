-- A machine that follows the lines of a trace.
use Rattle.std.proofs.Common.{◌≡◌, ◌≢◌, ℕ, ◌+◌, ◌<◌, ◌≤◌, ◌^◌, true, List, [], ◌∷◌, ◌++◌, length, take, drop, refl, ap, sym, ◌∙◌, subst, append_assoc, append-nil, length-append, arith}
use Rattle.std.specs.Prelude.{Option, Some, None, is_some}
use Rattle.std.specs.List.{concat}
use Rattle.dae_base.specs.Budgets.{Reaches}
use Rattle.dae_base.specs.declared.Depths.{Depths}
use Rattle.dae_base.specs.declared.Side.TheVariants.{A, E}
use Rattle.dae_image.specs.declared.Image.{Image}
use Rattle.dae_machine.specs.Opened.{opened, setup_of}
use Rattle.dae_base.proofs.Laws.{some_map, some_of}
use Rattle.dae_machine.specs.declared.Pick.{Pick}
use Rattle.dae_machine.specs.declared.Pick.TheVariants.{A as MoveA, E as MoveE, Fill, Drain}
use Rattle.dae_machine.specs.declared.End.{End}
use Rattle.dae_machine.specs.Held.{HeldMachine}
use Rattle.dae_machine.specs.Machine.{Setup, State, IsFinal, IsStuck, Runs, drained, filled, move, moved_a, moved_e, step}
use Rattle.dae_machine.specs.Memory.{drain, fill}
use Rattle.dae_machine.specs.Printing.{behind}
use Rattle.dae_machine.specs.declared.Rest.{Rest}
use Rattle.dae_machine.specs.Rests.{Rests, end_of}
use Rattle.dae_machine.specs.Runs.{run_by}
use Rattle.dae_machine.specs.Tries.{Stepped}
use Rattle.dae_machine.proofs.LawsOfRuns.{final_behind, run-on, step_behind, stuck_behind}
use Rattle.dae_trace.specs.Lines.{Names, line}
use Rattle.dae_trace.specs.Traces.{Checks, FailsAt, Follows, IsFirstLine, IsTrace, Numbered, lines}
use Rattle.dae_trace.specs.declared.TraceAnswer.TheVariants.{Run, NotARun, BadLine, Depth, Memory}
use Rattle.dae_trace.specs.declared.TraceAnswer.{TraceAnswer}
use Rattle.dae_trace.proofs.Naming.{names_one}
use Rattle.dae_trace.proofs.Numbers.{line_is_named, numbered_step, step_counts}
use Rattle.dae_trace.proofs.Runs.{lines_more}

-- ---- what was printed before changes neither a line nor whether a pick is enabled

pub line_behind : (s : State) (p : Pick) (xs : List ℕ) → line (behind xs s) p ≡ line s p
line_behind s MoveA xs = refl
line_behind s MoveE xs = refl
line_behind s (Fill side number) xs = refl
line_behind s Drain xs = refl

enabled_behind : (setup : Setup) (s : State) (p : Pick) (xs : List ℕ) → is_some (step setup (behind xs s) p) ≡ is_some (step setup s p)
enabled_behind setup s MoveA xs = some_map (moved_a (behind xs s)) (move setup A s.a s.queues) ∙ sym (some_map (moved_a s) (move setup A s.a s.queues))
enabled_behind setup s MoveE xs = some_map (moved_e (behind xs s)) (move setup E s.e s.queues) ∙ sym (some_map (moved_e s) (move setup E s.e s.queues))
enabled_behind setup s (Fill side n) xs = some_map (filled (behind xs s)) (fill side n s.queues s.memory) ∙ sym (some_map (filled s) (fill side n s.queues s.memory))
enabled_behind setup s Drain xs = some_map (drained (behind xs s)) (drain s.queues s.memory) ∙ sym (some_map (drained s) (drain s.queues s.memory))

-- ---- on the way: the lines so far were those of a run, which led to this machine

pub record Followed (start : HeldMachine) (trace : List ℕ) (number : ℕ) (rest : List ℕ) (now : HeldMachine) : Type 0 where
  pub same : now.setup ≡ start.setup
  pub picks : List Pick
  pub done : List ℕ
  pub runs : Runs start.setup start.state picks (behind done now.state)
  pub numbered : Numbered now.state
  pub count : number ≡ length picks
  pub steps : now.state.steps ≡ number
  pub bytes_are : trace ≡ concat (lines start.setup start.state picks) ++ rest
  pub long : number + length rest ≤ length trace

pub begins : (start : HeldMachine) (trace : List ℕ) → start.state.steps ≡ 0 → Numbered start.state → Followed start trace 0 trace start
begins start trace none numbered = record {
  same = refl;
  picks = [];
  done = [];
  runs = refl;
  numbered = numbered;
  count = refl;
  steps = none;
  bytes_are = refl;
  long = omega arith;
}

module _ (start now : HeldMachine) (trace rest : List ℕ) (number : ℕ) (w : Followed start trace number rest now) where
  state_now : State
  state_now = behind w.done now.state

  -- ---- one line more

  module _ (next : HeldMachine) (pick : Pick) (text later piece : List ℕ) (is : rest ≡ text ++ later) (some : text ≢ [])
      (same_line : line now.state pick ≡ text) (stepped : Stepped pick piece now next) where
    silent_next : State
    silent_next = record next.state { printed = piece }

    to : step start.setup now.state pick ≡ Some silent_next
    unfolding silent_next
    to = subst (λ (setup : Setup). step setup now.state pick ≡ Some (record next.state { printed = piece })) w.same stepped.state

    state_is : behind w.done silent_next ≡ behind (w.done ++ piece) next.state
    unfolding silent_next
    state_is = ap (λ (text : List ℕ). record next.state { printed = text }) (sym (append-nil (w.done ++ piece)) ∙ ap (λ (text : List ℕ). (w.done ++ piece) ++ text) (sym next.silent))

    to_behind : step start.setup state_now pick ≡ Some (behind (w.done ++ piece) next.state)
    unfolding state_now
    to_behind = step_behind start.setup now.state silent_next pick w.done to ∙ ap (λ (s : State). Some s) state_is

    runs_more : Runs start.setup start.state (w.picks ++ pick ∷ []) (behind (w.done ++ piece) next.state)
    unfolding state_now
    runs_more =
        let one : run_by (step start.setup) (behind w.done now.state) (pick ∷ []) ≡ Some (behind (w.done ++ piece) next.state) = rw to_behind refl in
        run-on (step start.setup) start.state (behind w.done now.state) (behind (w.done ++ piece) next.state) w.picks (pick ∷ []) w.runs one

    lines_are : concat (lines start.setup start.state (w.picks ++ pick ∷ [])) ≡ concat (lines start.setup start.state w.picks) ++ text
    unfolding state_now
    lines_are =
        lines_more start.setup start.state (behind w.done now.state) (behind (w.done ++ piece) next.state) w.picks pick w.runs to_behind
        ∙ ap (λ (l : List ℕ). concat (lines start.setup start.state w.picks) ++ l) (line_behind now.state pick w.done ∙ same_line)

    counts_one : next.state.steps ≡ now.state.steps + 1
    unfolding silent_next
    counts_one = step_counts start.setup now.state silent_next pick to

    numbered_next : Numbered next.state
    unfolding silent_next
    numbered_next =
        let n : Numbered silent_next = numbered_step start.setup now.state silent_next pick w.numbered to in
        record { counts = n.counts; ld = n.ld; al = n.al }

    not_none : (xs : List ℕ) → xs ≢ [] → 0 < length xs
    not_none [] h = absurd (h refl)
    not_none (x ∷ xs) h = omega arith

    pub one_more : Followed start trace (number + 1) later next
    one_more =
        let c = counts_one in
        let l = length-append text later in
        let k = ap length is in
        let s = not_none text some in
        let p = length-append w.picks (pick ∷ []) in
        record {
          same = stepped.setup ∙ w.same;
          picks = w.picks ++ pick ∷ [];
          done = w.done ++ piece;
          runs = runs_more;
          numbered = numbered_next;
          count = omega (arith, w.count, p);
          steps = omega (arith, w.steps, c);
          bytes_are =
              w.bytes_are ∙ ap (λ (l : List ℕ). concat (lines start.setup start.state w.picks) ++ l) is
              ∙ sym (append_assoc (concat (lines start.setup start.state w.picks)) text later)
              ∙ ap (λ (l : List ℕ). l ++ later) (sym lines_are);
          long = omega (arith, w.long, l, k, s);
        }

  -- ---- a line that is none

  -- where the line of no enabled pick is the text, the fault is here
  fails_here : (text later : List ℕ) → IsFirstLine rest text later → ((p : Pick) → is_some (step now.setup now.state p) ≡ true → line now.state p ≢ text)
      → FailsAt start.setup start.state trace (number + 1) text
  fails_here text later first none = record {
    picks = w.picks;
    state = behind w.done now.state;
    runs = w.runs;
    count = omega (arith, w.count);
    rest = rest;
    bytes_are = w.bytes_are;
    behind = later;
    first = first;
    none = λ p enabled e.
        none p (ap (λ (setup : Setup). is_some (step setup now.state p)) w.same ∙ sym (enabled_behind start.setup now.state p w.done) ∙ enabled)
        (sym (line_behind now.state p w.done) ∙ e);
  }

  named_here : (p : Pick) → now.state.steps < 2 ^ 40 → is_some (step now.setup now.state p) ≡ true → Names (line now.state p) p
  named_here p few enabled =
      let x = some_of (step now.setup now.state p) enabled in
      line_is_named now.setup now.state x.0 p w.numbered few x.1

  -- no pick has this text for its line
  pub bad_line : (text later : List ℕ) → now.state.steps < 2 ^ 40 → IsFirstLine rest text later → ((p : Pick) → ¬ (Names text p))
      → Follows (BadLine (number + 1)) start.setup start.state trace
  bad_line text later few first none =
      (text, fails_here text later first (λ p enabled e. none p (subst (λ (t : List ℕ). Names t p) e (named_here p few enabled))), none)

  -- the text names a pick that isn't enabled, or has another line
  pub not_a_run : (text later : List ℕ) (pick : Pick) → now.state.steps < 2 ^ 40 → IsFirstLine rest text later → Names text pick
      → (is_some (step now.setup now.state pick) ≡ true → line now.state pick ≢ text) → Follows (NotARun (number + 1)) start.setup start.state trace
  not_a_run text later pick few first names other = (
    text,
    fails_here text later first (λ p enabled e.
        let same : p ≡ pick = names_one text p pick (subst (λ (t : List ℕ). Names t p) e (named_here p few enabled)) names in
        other (subst (λ (q : Pick). is_some (step now.setup now.state q) ≡ true) same enabled) (subst (λ (q : Pick). line now.state q ≡ text) same e)),
    (pick, names),
  )

  -- ---- the end

  whole_trace : rest ≡ [] → IsTrace start.setup start.state trace (behind w.done now.state)
  whole_trace none = record {
    picks = w.picks;
    runs = w.runs;
    bytes_are = w.bytes_are ∙ ap (λ (l : List ℕ). concat (lines start.setup start.state w.picks) ++ l) none ∙ append-nil (concat (lines start.setup start.state w.picks));
  }

  pub ends_final : (end : End) → rest ≡ [] → IsFinal now.setup now.state → end_of now.state.e.halt ≡ Some end → Follows (Run (Some end)) start.setup start.state trace
  ends_final end none final is =
      (behind w.done now.state, whole_trace none, final_behind start.setup now.state w.done (subst (λ (setup : Setup). IsFinal setup now.state) w.same final), is)

  pub ends_stuck : rest ≡ [] → IsStuck now.setup now.state → Follows (Run None) start.setup start.state trace
  ends_stuck none stuck =
      (behind w.done now.state, whole_trace none, (stuck_behind start.setup now.state w.done (subst (λ (setup : Setup). IsStuck setup now.state) w.same stuck)).not_final)

  pub goes_on : rest ≡ [] → (p : Pick) (t : State) → step now.setup now.state p ≡ Some t → Follows (Run None) start.setup start.state trace
  goes_on none p t to = (
    behind w.done now.state,
    whole_trace none,
    λ final.
        let goes : step start.setup (behind w.done now.state) p ≡ Some (behind w.done t) =
        step_behind start.setup now.state t p w.done (subst (λ (setup : Setup). step setup now.state p ≡ Some t) w.same to) in
        let quiet = final.quiet p in
        cc,
  )

-- the first line, as the parts that were split
pub split_first : (rest text later : List ℕ) (n : ℕ) → IsFirstLine rest (take n rest) (drop n rest) → text ≡ take n rest → later ≡ drop n rest → IsFirstLine rest text later
split_first rest text later n first front back =
    subst (λ (l : List ℕ). IsFirstLine rest text l) (sym back) (subst (λ (t : List ℕ). IsFirstLine rest t (drop n rest)) (sym front) first)

-- how a machine rests
pub rests_so : (r o : Option Rest) (setup : Setup) (s : State) → r ≡ o → Rests r setup s → Rests o setup s
rests_so r o setup s e h = subst (λ (x : Option Rest). Rests x setup s) e h

-- what follows of a machine before its first step
pub checks_is : (answer : TraceAnswer) (image : Image) (d : Depths) (setup : Setup) (s : State) (bytes : List ℕ) → Reaches d image.budget
    → setup ≡ setup_of image d → s ≡ opened image → Follows answer setup s bytes → Checks answer image d bytes
checks_is answer image d setup s bytes reaches same first follows =
    by answer (subst (λ (v : State). Follows answer (setup_of image d) v bytes) first (subst (λ (u : Setup). Follows answer u s bytes) same follows)) where
      by : (answer : TraceAnswer) → Follows answer (setup_of image d) (opened image) bytes → Checks answer image d bytes
      by (Run end) h = (reaches, h)
      by (NotARun n) h = (reaches, h)
      by (BadLine n) h = (reaches, h)
      by (Depth queue needs has) h = absurd h
      by Memory h = absurd h
