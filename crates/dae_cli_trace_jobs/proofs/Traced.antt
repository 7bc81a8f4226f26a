-- A machine on its way through the turns of a schedule, with the line of each step put out; and what that comes to is due.
use Rattle.std.proofs.Common.{◌≡◌, ◌≢◌, ℕ, suc, ◌+◌, ◌-◌, ◌≤◌, List, [], ◌∷◌, ◌++◌, map, refl, ap, sym, ◌∙◌, subst, append-nil, arith}
use Rattle.std.specs.Prelude.{Option, Some, None}
use Rattle.std.proofs.lemmas.List.{map-append}
use Rattle.dae_io.specs.Sinks.{SinkState, IsPut, IsPutFailed}
use Rattle.dae_machine.specs.declared.Pick.{Pick}
use Rattle.dae_machine.specs.Machine.{Setup, State, step, IsCounted, IsQuiet}
use Rattle.dae_machine.specs.Printing.{behind}
use Rattle.dae_machine.specs.Schedules.{Standing, coming, scheduled, word_of}
use Rattle.dae_machine.specs.Turns.{pick_of}
use Rattle.dae_machine.proofs.LawsOfRuns.{quiet_behind, quiet_where_none, step_counts}
use Rattle.dae_trace.specs.Lines.{line}
use Rattle.dae_trace.specs.Traces.{lines, lines_on}
use Rattle.dae_trace.proofs.LawsOfTraces.{line_behind, lines_after}
use Rattle.dae_cli_options.specs.declared.options.RunOptions.{RunOptions}
use Rattle.dae_cli_drive.specs.declared.driving.Driven.{Driven}
use Rattle.dae_cli_drive.specs.declared.driving.Driven.TheVariants.{Final, Stuck, Spent, SinkFailed}
use Rattle.dae_cli_drive.specs.Images.{status_of}
use Rattle.dae_cli_drive.specs.Notes.{end_puts}
use Rattle.dae_cli_drive.specs.Turns.{AreOut, Rested, RunsTurns}
use Rattle.dae_cli_drive.specs.Puts.{AreCut, AreMade, Gives, GivesDue, Out, Put, answer, gives_part, sinks}
use Rattle.dae_cli_drive.proofs.Laws.{Good, comes_out, cut_after, cut_here, cut_more, gives_same, gives_then, made_then, same_lines}
use Rattle.dae_cli_drive.proofs.LawsOfTurns.{Made, kept, no_more, nothing_made, one_more, picks_later, picks_more, printing, rested_behind, turn_is}
use Rattle.dae_cli_trace_jobs.specs.Tracing.{DueOfLines, due_traced, TracesAll, TracesInPart, TracesTo, puts_of_lines}

-- ---- on the way: the turns so far were made, and the line of each step was put out

pub record OnTheWay (setup : Setup) (s : State) (words : ℕ → ℕ) (turns : ℕ) (setup_now : Setup) (now : State) (words_now : Standing) (out out_now : SinkState) : Type 0 where
  pub same : setup_now ≡ setup
  pub silent : now.printed ≡ []
  pub done : List ℕ
  pub made : Made setup s words turns (behind done now)
  pub steps : now.steps ≡ s.steps + turns
  pub stands : (i : ℕ) → coming words_now i ≡ words (i + turns)
  pub put : AreOut (puts_of_lines setup s words turns) out out_now

pub begins : (setup : Setup) (s : State) (words : ℕ → ℕ) (words_now : Standing) (out : SinkState) → s.printed ≡ [] → ((i : ℕ) → coming words_now i ≡ words i)
    → OnTheWay setup s words 0 setup s words_now out out
begins setup s words words_now out silent coming_is = record {
  same = refl;
  silent = silent;
  done = [];
  made = nothing_made setup s words;
  steps = omega arith;
  stands = λ i. coming_is i ∙ ap words (omega arith);
  put = λ note. refl;
}

nothing_on : (o : Option State) → lines_on o (λ (v : State). []) ≡ []
nothing_on None = refl
nothing_on (Some t) = refl

-- where no pick is enabled, how a machine rests doesn't depend on the steps that were stated
rested_quiet : (how : Driven) (m n : ℕ) (setup : Setup) (s : State) → IsQuiet setup s → Rested how m setup s → Rested how n setup s
rested_quiet (Final end) m n setup s quiet r = r
rested_quiet Stuck m n setup s quiet r = r
rested_quiet Spent m n setup s quiet r = absurd (let e : None ≡ Some r.1.1 = sym (quiet r.1.0) ∙ r.1.2 in cc)
rested_quiet SinkFailed m n setup s quiet r = absurd r

traces_all : (how : Driven) (setup : Setup) (s now : State) (o : RunOptions) (out out_now : SinkState) → TracesAll how setup s now o out out_now → TracesTo how setup s now o out out_now
traces_all (Final end) setup s now o out out_now t = t
traces_all Stuck setup s now o out out_now t = t
traces_all Spent setup s now o out out_now t = t
traces_all SinkFailed setup s now o out out_now t = absurd t.rested

pub traces_so : (how : Driven) (setup : Setup) (s now : State) (o : RunOptions) (out out_now : SinkState) → how ≢ SinkFailed → TracesTo how setup s now o out out_now → TracesAll how setup s now o out out_now
traces_so (Final end) setup s now o out out_now never t = t
traces_so Stuck setup s now o out out_now never t = t
traces_so Spent setup s now o out out_now never t = t
traces_so SinkFailed setup s now o out out_now never t = absurd (never refl)

module _ (setup : Setup) (s : State) (o : RunOptions) (turns : ℕ) (setup_now : Setup) (now : State) (words_now : Standing) (out out_now : SinkState) (way : OnTheWay setup s (word_of o.schedule) turns setup_now now words_now out out_now) where
  abbrev words : ℕ → ℕ
  words = word_of o.schedule

  module _ (next : State) (p : Pick) (piece : List ℕ) (word : ℕ) (word_is : word ≡ coming words_now 0) (picks : pick_of setup_now now word ≡ Some p) (steps : step setup_now now p ≡ Some (printing piece next)) where
    word_here : word ≡ words turns
    word_here = word_is ∙ way.stands 0 ∙ ap words (omega arith)

    picks_here : pick_of setup now (words turns) ≡ Some p
    picks_here = rw (← way.same, ← word_here) picks

    steps_here : step setup now p ≡ Some (printing piece next)
    steps_here = rw (← way.same) steps

    made_more : Made setup s words (suc turns) (behind way.done (printing piece next))
    made_more =
        one_more setup s (behind way.done now) words turns (p, behind way.done (printing piece next)) way.made
        (turn_is setup now next way.done piece (words turns) p picks_here steps_here)

    -- the puts of one turn more
    puts_more : puts_of_lines setup s words (suc turns) ≡ puts_of_lines setup s words turns ++ Out (line now p) ∷ []
    puts_more =
        let list = picks_more setup s (behind way.done now) words turns (p, behind way.done (printing piece next)) way.made (turn_is setup now next way.done piece (words turns) p picks_here steps_here) in
        let last : lines setup (behind way.done now) (p ∷ []) ≡ line now p ∷ [] =
        ap (λ (ls : List (List ℕ)). line (behind way.done now) p ∷ ls) (nothing_on (step setup (behind way.done now) p))
        ∙ ap (λ (text : List ℕ). text ∷ []) (line_behind now p way.done) in
        let all : lines setup s (scheduled setup s words (suc turns)) ≡ lines setup s (scheduled setup s words turns) ++ line now p ∷ [] =
        ap (lines setup s) list
        ∙ lines_after setup s (behind way.done now) (scheduled setup s words turns) (p ∷ []) way.made.run
        ∙ ap (λ (ls : List (List ℕ)). lines setup s (scheduled setup s words turns) ++ ls) last in
        ap (map Out) all ∙ map-append Out (lines setup s (scheduled setup s words turns)) (line now p ∷ [])

    pub goes_on : (setup_next : Setup) (words_next : Standing) (out_next : SinkState) → ((t : ℕ) → coming words_next t ≡ coming words_now (t + 1)) → setup_next ≡ setup_now → next.printed ≡ []
        → IsPut (line now p) out_now out_next → OnTheWay setup s words (suc turns) setup_next next words_next out out_next
    goes_on setup_next words_next out_next rest same_setup silent put =
        let same : behind way.done (printing piece next) ≡ behind (way.done ++ piece) next = rw (silent, append-nil (way.done ++ piece)) refl in
        record {
          same = same_setup ∙ way.same;
          silent = silent;
          done = way.done ++ piece;
          made = subst (λ (t : State). Made setup s words (suc turns) t) same made_more;
          steps = (let h = way.steps in let k = step_counts setup_now now (printing piece next) p steps in omega arith);
          stands = λ i. rest i ∙ way.stands (i + 1) ∙ ap words (omega arith);
          put = λ note. subst (λ (l : List Put). AreMade l (sinks out note) (sinks out_next note)) (sym puts_more)
              (made_then (puts_of_lines setup s words turns) (Out (line now p) ∷ []) (sinks out note) (sinks out_now note) (sinks out_next note) (way.put note) (sinks out_next note, (put, refl), refl));
        }

    pub stops : (out_next : SinkState) → suc turns ≤ o.steps - s.steps → IsPutFailed (line now p) out_now out_next → TracesInPart setup s o out out_next
    stops out_next few failed = record {
      last = behind way.done (printing piece next);
      turns = turns;
      few = few;
      made = made_more.run;
      all = made_more.all;
      text = line now p;
      lines_are = puts_more;
      between = out_now;
      put = way.put;
      put_part = failed;
    }

  -- no pick is enabled
  pub ends : (how : Driven) (word : ℕ) → suc turns ≤ o.steps - s.steps → pick_of setup_now now word ≡ None → Rested how now.steps setup_now now → TracesTo how setup s now o out out_now
  ends how word few none rested =
      let quiet : IsQuiet setup now = rw (← way.same) (quiet_where_none setup_now now word none) in
      let all : scheduled setup s words (o.steps - s.steps) ≡ scheduled setup s words turns =
      ap (scheduled setup s words) (omega arith) ∙ no_more setup s (behind way.done now) words turns ((o.steps - s.steps) - turns) way.made (quiet_behind setup now way.done quiet) in
      let here : Rested how now.steps setup now = subst (λ (u : Setup). Rested how now.steps u now) way.same rested in
      traces_all how setup s now o out out_now (record {
        last = behind way.done now;
        made = rw all way.made.run;
        kept = kept now way.done way.silent;
        rested = rested_behind how o.steps setup now way.done (rested_quiet how now.steps o.steps setup now quiet here);
        put = rw all way.put;
      })

  -- all turns were made
  pub arrives : (how : Driven) → turns ≡ o.steps - s.steps → now.steps ≡ o.steps → Rested how now.steps setup_now now → TracesTo how setup s now o out out_now
  arrives how all is rested =
      let there : Rested how now.steps setup now = subst (λ (u : Setup). Rested how now.steps u now) way.same rested in
      let here : Rested how o.steps setup now = subst (λ (n : ℕ). Rested how n setup now) is there in
      traces_all how setup s now o out out_now (record {
        last = behind way.done now;
        made = rw (← all) way.made.run;
        kept = kept now way.done way.silent;
        rested = rested_behind how o.steps setup now way.done here;
        put = rw (← all) way.put;
      })

-- ---- what is due

module _ (setup : Setup) (s now : State) (o : RunOptions) (out out_now : SinkState) (begun : s.steps ≡ 0) where
  all_turns : o.steps - s.steps ≡ o.steps
  all_turns = omega (arith, begun)

  abbrev all_puts : List Put
  all_puts = puts_of_lines setup s (word_of o.schedule) o.steps

  -- all turns were made, and the notes follow
  pub traced_due : (how : Driven) (status : ℕ) (n n' : SinkState) → TracesAll how setup s now o out out_now
      → Gives (answer (status_of how) (end_puts how setup now None)) status (sinks out_now n) (sinks out_now n') → GivesDue (DueOfLines setup s o) status (sinks out n) (sinks out_now n')
  traced_due how status n n' t given =
      let notes : end_puts how setup now None ≡ end_puts how setup t.last None = ap (λ (v : State). end_puts how setup v None) t.kept ∙ same_lines how setup t.last None in
      let put : AreMade all_puts (sinks out n) (sinks out_now n) = subst (λ (k : ℕ). AreMade (puts_of_lines setup s (word_of o.schedule) k) (sinks out n) (sinks out_now n)) all_turns (t.put n) in (
        answer (status_of how) (all_puts ++ end_puts how setup t.last None),
        due_traced t.last how (subst (λ (k : ℕ). RunsTurns setup s (word_of o.schedule) k t.last) all_turns t.made) t.rested,
        gives_then all_puts (end_puts how setup t.last None) (status_of how) status (sinks out n) (sinks out_now n) (sinks out_now n') put
            (gives_same (ap (answer (status_of how)) notes) given),
      )

  -- the put of a line failed
  pub stopped_due : (n : SinkState) → IsCounted s → s.e.halt ≡ None → TracesInPart setup s o out out_now → GivesDue (DueOfLines setup s o) 6 (sinks out n) (sinks out_now n)
  stopped_due n counted unhalted stop =
      let words = word_of o.schedule in
      let good : Good s = record { counted = counted; halts = rw unhalted refl } in
      let way = comes_out setup s (word_of o.schedule) o.steps good in
      let here : Made setup s (word_of o.schedule) (suc stop.turns) stop.last = record { run = stop.made; all = stop.all } in
      let few = stop.few in
      let sum : suc stop.turns + (o.steps - suc stop.turns) ≡ o.steps = omega (arith, few, begun) in
      let later = picks_later setup s stop.last (word_of o.schedule) (suc stop.turns) (o.steps - suc stop.turns) here in
      let list : scheduled setup s (word_of o.schedule) o.steps ≡ scheduled setup s (word_of o.schedule) (suc stop.turns) ++ later.0 = ap (scheduled setup s (word_of o.schedule)) (sym sum) ∙ later.1 in
      let more : List Put = map Out (lines setup stop.last later.0) in
      let split : all_puts ≡ puts_of_lines setup s (word_of o.schedule) (suc stop.turns) ++ more =
      ap (λ (ps : List Pick). map Out (lines setup s ps)) list
      ∙ ap (map Out) (lines_after setup s stop.last (scheduled setup s (word_of o.schedule) (suc stop.turns)) later.0 stop.made)
      ∙ map-append Out (lines setup s (scheduled setup s (word_of o.schedule) (suc stop.turns))) (lines setup stop.last later.0) in
      let cut : AreCut (puts_of_lines setup s (word_of o.schedule) (suc stop.turns)) (sinks out n) (sinks out_now n) =
      rw stop.lines_are (cut_after (puts_of_lines setup s (word_of o.schedule) stop.turns) (Out stop.text ∷ []) (sinks out n) (sinks stop.between n) (sinks out_now n) (stop.put n) (cut_here (Out stop.text) [] (sinks stop.between n) (sinks out_now n) (stop.put_part, refl))) in
      let all : AreCut all_puts (sinks out n) (sinks out_now n) =
      subst (λ (l : List Put). AreCut l (sinks out n) (sinks out_now n)) (sym split) (cut_more (puts_of_lines setup s (word_of o.schedule) (suc stop.turns)) more (sinks out n) (sinks out_now n) cut) in
      let steps : s.steps + o.steps ≡ o.steps = omega (arith, begun) in (
        answer (status_of way.how) (all_puts ++ end_puts way.how setup way.last None),
        due_traced way.last way.how way.made (rw steps at way.rested),
        gives_part refl (cut_more all_puts (end_puts way.how setup way.last None) (sinks out n) (sinks out_now n) all),
      )
