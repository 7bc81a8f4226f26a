-- Laws of the turns of a schedule that crates above cite: what so many turns come to, one turn more, and where no pick is
-- enabled any more.
use Rattle.std.proofs.Common.{◌≡◌, ℕ, zero, suc, ◌+◌, List, [], ◌∷◌, ◌++◌, length, refl, ap, sym, ◌∙◌, subst, arith}
use Rattle.std.specs.Prelude.{Option, Some, None, option_map, option_and_then}
use Rattle.std.proofs.lemmas.Option.{same_Some}
use Rattle.dae_base.proofs.Laws.{and_then_some, map_some_is}
use Rattle.dae_machine.specs.declared.Pick.{Pick}
use Rattle.dae_machine.specs.Machine.{Setup, State, step, IsQuiet}
use Rattle.dae_machine.specs.Printing.{behind}
use Rattle.dae_machine.specs.Runs.{run_by}
use Rattle.dae_machine.specs.Schedules.{and_then_on, scheduled, turned}
use Rattle.dae_machine.specs.Turns.{pick_of}
use Rattle.dae_machine.proofs.LawsOfRuns.{final_behind, pick_behind, step_behind, stuck_behind}
use Rattle.dae_cli_drive.specs.declared.driving.Driven.{Driven}
use Rattle.dae_cli_drive.specs.declared.driving.Driven.TheVariants.{Final, Stuck, Spent, SinkFailed}
use Rattle.dae_cli_drive.specs.Turns.{Rested, RunsTurns}
use Rattle.dae_cli_drive.specs.Pieces.{unprinted}

-- so many turns were made, each of them a step
pub record Made (setup : Setup) (s : State) (words : ℕ → ℕ) (turns : ℕ) (t : State) : Type 0 where
  pub run : RunsTurns setup s words turns t
  pub all : length (scheduled setup s words turns) ≡ turns

-- a turn is the step of its pick
pub turn_steps : (setup : Setup) (s : State) (word : ℕ) (r : Pick × State) → turned setup s word ≡ Some r → step setup s r.0 ≡ Some r.1
turn_steps setup s word r h =
    let x = and_then_some (λ (p : Pick). option_map (λ (t : State). (p, t)) (step setup s p)) (pick_of setup s word) r h in
    let y = map_some_is (λ (t : State). (x.0, t)) (step setup s x.0) r x.2 in
    rw (← y.2) y.1

pub quiet_turn : (setup : Setup) (s : State) (word : ℕ) → IsQuiet setup s → turned setup s word ≡ None
quiet_turn setup s word quiet = by_pick (pick_of setup s word) where
  by_pick : (o : Option Pick) → option_and_then {U = Pick × State} (λ (p : Pick). option_map (λ (t : State). (p, t)) (step setup s p)) o ≡ None
  by_pick None = refl
  by_pick (Some p) = rw (quiet p) refl

pub list_after : (setup : Setup) (s : State) (words : ℕ → ℕ) (k : ℕ) (o : Option (Pick × State)) → turned setup s (words 0) ≡ o → scheduled setup s words (suc k) ≡ and_then_on o (λ t. scheduled setup t (λ i. words (i + 1)) k)
list_after setup s words k o h = ap (λ (o : Option (Pick × State)). and_then_on o (λ t. scheduled setup t (λ i. words (i + 1)) k)) h

suc_is : (m n : ℕ) → suc m ≡ suc n → m ≡ n
suc_is m n h = omega arith

-- what stands after the first turn
module _ (setup : Setup) (s t : State) (words : ℕ → ℕ) (k : ℕ) where
  pub made_none : turned setup s (words 0) ≡ None → Made setup s words (suc k) t → ⊥
  made_none h made = let e : 0 ≡ suc k = ap length (sym (list_after setup s words k None h)) ∙ made.all in absurd (omega arith)

  pub made_rest : (r : Pick × State) → turned setup s (words 0) ≡ Some r → Made setup s words (suc k) t → Made setup r.1 (λ i. words (i + 1)) k t
  made_rest r h made =
      let list = list_after setup s words k (Some r) h in
      let run : option_and_then (λ (v : State). run_by (step setup) v (scheduled setup r.1 (λ i. words (i + 1)) k)) (step setup s r.0) ≡ Some t = rw list at made.run in
      record {
        run = rw (turn_steps setup s (words 0) r h) at run;
        all = suc_is _ _ (rw list at made.all);
      }

  pub made_before : (r : Pick × State) → turned setup s (words 0) ≡ Some r → Made setup r.1 (λ i. words (i + 1)) k t → Made setup s words (suc k) t
  made_before r h made =
      let list = list_after setup s words k (Some r) h in
      record {
        run = rw (list, turn_steps setup s (words 0) r h) made.run;
        all = rw list (ap suc made.all);
      }

pub nothing_made : (setup : Setup) (s : State) (words : ℕ → ℕ) → Made setup s words 0 s
nothing_made setup s words = record { run = refl; all = refl }

-- one turn more
pub one_more : (setup : Setup) (s t : State) (words : ℕ → ℕ) (k : ℕ) (r : Pick × State) → Made setup s words k t → turned setup t (words k) ≡ Some r → Made setup s words (suc k) r.1
one_more setup s t words zero r made h =
    let same : s ≡ t = same_Some s t made.run in
    made_before setup s r.1 words 0 r (subst (λ (v : State). turned setup v (words 0) ≡ Some r) (sym same) h) (nothing_made setup r.1 (λ i. words (i + 1)))
one_more setup s t words (suc k) r made h = by_first (turned setup s (words 0)) refl (λ q. one_more setup q.1 t (λ i. words (i + 1)) k r) where
  by_first : (o : Option (Pick × State)) → turned setup s (words 0) ≡ o → ((q : Pick × State) → Made setup q.1 (λ i. words (i + 1)) k t → turned setup t (words (k + 1)) ≡ Some r → Made setup q.1 (λ i. words (i + 1)) (suc k) r.1) → Made setup s words (suc (suc k)) r.1
  by_first None e later = absurd (made_none setup s t words k e made)
  by_first (Some q) e later =
      let same : suc k ≡ k + 1 = omega arith in
      made_before setup s r.1 words (suc k) q e
      (later q (made_rest setup s t words k q e made) (subst (λ (i : ℕ). turned setup t (words i) ≡ Some r) same h))

-- the picks of one turn more
pub picks_more : (setup : Setup) (s t : State) (words : ℕ → ℕ) (k : ℕ) (r : Pick × State) → Made setup s words k t → turned setup t (words k) ≡ Some r → scheduled setup s words (suc k) ≡ scheduled setup s words k ++ r.0 ∷ []
picks_more setup s t words zero r made h =
    let same : s ≡ t = same_Some s t made.run in
    list_after setup s words 0 (Some r) (subst (λ (v : State). turned setup v (words 0) ≡ Some r) (sym same) h)
picks_more setup s t words (suc k) r made h = by_first (turned setup s (words 0)) refl (λ q. picks_more setup q.1 t (λ i. words (i + 1)) k r) where
  by_first : (o : Option (Pick × State)) → turned setup s (words 0) ≡ o → ((q : Pick × State) → Made setup q.1 (λ i. words (i + 1)) k t → turned setup t (words (k + 1)) ≡ Some r → scheduled setup q.1 (λ i. words (i + 1)) (suc k) ≡ scheduled setup q.1 (λ i. words (i + 1)) k ++ r.0 ∷ []) → scheduled setup s words (suc (suc k)) ≡ scheduled setup s words (suc k) ++ r.0 ∷ []
  by_first None e later = absurd (made_none setup s t words k e made)
  by_first (Some q) e later =
      let same : suc k ≡ k + 1 = omega arith in
      list_after setup s words (suc k) (Some q) e
      ∙ ap (λ (ps : List Pick). q.0 ∷ ps) (later q (made_rest setup s t words k q e made) (subst (λ (i : ℕ). turned setup t (words i) ≡ Some r) same h))
      ∙ ap (λ (ps : List Pick). ps ++ r.0 ∷ []) (sym (list_after setup s words k (Some q) e))

none_more : (n : ℕ) → 0 + suc n ≡ suc n
none_more n = omega arith

-- where no pick is enabled, more turns are no more steps
pub no_more : (setup : Setup) (s t : State) (words : ℕ → ℕ) (k more : ℕ) → Made setup s words k t → IsQuiet setup t → scheduled setup s words (k + more) ≡ scheduled setup s words k
no_more setup s t words zero zero made quiet = refl
no_more setup s t words zero (suc more) made quiet =
    let same : s ≡ t = same_Some s t made.run in
    let still : turned setup s (words 0) ≡ None = rw same (quiet_turn setup t (words 0) quiet) in
    ap (scheduled setup s words) (none_more more) ∙ list_after setup s words more None still
no_more setup s t words (suc k) more made quiet = by_first (turned setup s (words 0)) refl (λ q rest. no_more setup q.1 t (λ i. words (i + 1)) k more rest quiet) where
  by_first : (o : Option (Pick × State)) → turned setup s (words 0) ≡ o → ((q : Pick × State) → Made setup q.1 (λ i. words (i + 1)) k t → scheduled setup q.1 (λ i. words (i + 1)) (k + more) ≡ scheduled setup q.1 (λ i. words (i + 1)) k) → scheduled setup s words (suc k + more) ≡ scheduled setup s words (suc k)
  by_first None e later = absurd (made_none setup s t words k e made)
  by_first (Some q) e later =
      let sum : suc k + more ≡ suc (k + more) = omega arith in
      ap (scheduled setup s words) sum ∙ list_after setup s words (k + more) (Some q) e ∙ ap (λ (ps : List Pick). q.0 ∷ ps) (later q (made_rest setup s t words k q e made)) ∙ sym (list_after setup s words k (Some q) e)

-- the state with this text printed
abbrev pub printing : List ℕ → State → State
printing text s = record s { printed = text }

-- the picks of more turns begin with those of fewer
pub picks_later : (setup : Setup) (s t : State) (words : ℕ → ℕ) (turns more : ℕ) → Made setup s words turns t → (rest : List Pick) × (scheduled setup s words (turns + more) ≡ scheduled setup s words turns ++ rest)
picks_later setup s t words zero more made = let none : 0 + more ≡ more = omega arith in (scheduled setup s words more, ap (scheduled setup s words) none)
picks_later setup s t words (suc turns) more made = by_first (turned setup s (words 0)) refl (λ q. picks_later setup q.1 t (λ i. words (i + 1)) turns more) where
  by_first : (o : Option (Pick × State)) → turned setup s (words 0) ≡ o → ((q : Pick × State) → Made setup q.1 (λ i. words (i + 1)) turns t → (rest : List Pick) × (scheduled setup q.1 (λ i. words (i + 1)) (turns + more) ≡ scheduled setup q.1 (λ i. words (i + 1)) turns ++ rest)) → (rest : List Pick) × (scheduled setup s words (suc turns + more) ≡ scheduled setup s words (suc turns) ++ rest)
  by_first None e later = absurd (made_none setup s t words turns e made)
  by_first (Some q) e later =
      let sum : suc turns + more ≡ suc (turns + more) = omega arith in
      let r = later q (made_rest setup s t words turns q e made) in (
        r.0,
        ap (scheduled setup s words) sum ∙ list_after setup s words (turns + more) (Some q) e ∙ ap (λ (ps : List Pick). q.0 ∷ ps) r.1
            ∙ ap (λ (ps : List Pick). ps ++ r.0) (sym (list_after setup s words turns (Some q) e)),
      )

-- equal words select equal turns
pub same_turns : (setup : Setup) (s : State) (words others : ℕ → ℕ) (turns : ℕ) → ((i : ℕ) → words i ≡ others i) → scheduled setup s words turns ≡ scheduled setup s others turns
same_turns setup s words others zero same = refl
same_turns setup s words others (suc turns) same =
    by_first (turned setup s (words 0)) refl (λ q. same_turns setup q.1 (λ i. words (i + 1)) (λ i. others (i + 1)) turns (λ i. same (i + 1))) where
      by_first : (o : Option (Pick × State)) → turned setup s (words 0) ≡ o → ((q : Pick × State) → scheduled setup q.1 (λ i. words (i + 1)) turns ≡ scheduled setup q.1 (λ i. others (i + 1)) turns) → scheduled setup s words (suc turns) ≡ scheduled setup s others (suc turns)
      by_first None e later =
          let e' : turned setup s (others 0) ≡ None = rw (← same 0) e in
          list_after setup s words turns None e ∙ sym (list_after setup s others turns None e')
      by_first (Some q) e later =
          let e' : turned setup s (others 0) ≡ Some q = rw (← same 0) e in
          list_after setup s words turns (Some q) e ∙ ap (λ (ps : List Pick). q.0 ∷ ps) (later q) ∙ sym (list_after setup s others turns (Some q) e')

-- ---- a machine that keeps no print

-- what a machine keeps of the state
pub kept : (s : State) (done : List ℕ) → s.printed ≡ [] → s ≡ unprinted (behind done s)
kept s done silent = ap (λ (text : List ℕ). record s { printed = text }) silent

pub kept_text : (s : State) (text : List ℕ) → s.printed ≡ [] → s ≡ unprinted (record s { printed = text })
kept_text s text silent = ap (λ (text : List ℕ). record s { printed = text }) silent

-- how a machine rests, whatever was printed before
pub rested_behind : (result : Driven) (steps : ℕ) (setup : Setup) (s : State) (done : List ℕ) → Rested result steps setup s → Rested result steps setup (behind done s)
rested_behind (Final end) steps setup s done r = (final_behind setup s done r.0, r.1)
rested_behind Stuck steps setup s done r = stuck_behind setup s done r
rested_behind Spent steps setup s done r = let found = r.1 in (r.0, (found.0, behind done found.1, step_behind setup s found.1 found.0 done found.2))
rested_behind SinkFailed steps setup s done r = absurd r

-- the turn that a machine on its way makes
pub turn_is : (setup : Setup) (now next : State) (done piece : List ℕ) (word : ℕ) (p : Pick) → pick_of setup now word ≡ Some p → step setup now p ≡ Some (printing piece next) → turned setup (behind done now) word ≡ Some (p, behind done (printing piece next))
turn_is setup now next done piece word p picks steps =
    rw (pick_behind setup now word done, picks, step_behind setup now (printing piece next) p done steps) refl
