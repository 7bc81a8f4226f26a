-- Where each start leads, by at least one step, to a final state or to a state of a start again, no run is stuck.
use Rattle.std.proofs.Common.{◌≡◌, ℕ, zero, suc, ◌+◌, ◌<◌, ◌≤◌, ◌⊎◌, inl, inr, List, [], ◌∷◌, ◌++◌, length, refl, arith, length-append}
use Rattle.dae_base.proofs.Laws.{and_then_some}
use Rattle.dae_machine.specs.declared.Pick.{Pick}
use Rattle.dae_machine.specs.Runs.{run_by}
use Rattle.dae_machine.specs.Machine.{Setup, State, step, Runs, IsQuiet, IsFinal, IsStuck, IsCounted}
use Rattle.dae_machine.proofs.LawsOfRuns.{run-on, meet_runs, can_only_end}

module _ (setup : Setup) (Start : State → Type 0) where
  -- by at least one step to a final state, or to a start again
  pub record Leads (s : State) : Type 0 where
    pub picks : List Pick
    pub state : State
    pub runs : Runs setup s picks state
    pub some : 0 < length picks
    pub to : IsFinal setup state ⊎ Start state

  -- a run to a final state, or one of at least n steps
  pub record Long (s : State) (n : ℕ) : Type 0 where
    pub picks : List Pick
    pub state : State
    pub runs : Runs setup s picks state
    pub far : IsFinal setup state ⊎ (n ≤ length picks)

  on_from : (n : ℕ) (s : State) (l : Leads s) → IsFinal setup l.state ⊎ Start l.state → (Start l.state → Long l.state n) → Long s (suc n)
  on_from n s l (inl f) more = record { picks = l.picks; state = l.state; runs = l.runs; far = inl f }
  on_from n s l (inr again) on =
      let more = on again in
      let sum = length-append l.picks more.picks in
      let some = l.some in
      record {
        picks = l.picks ++ more.picks;
        state = more.state;
        runs = run-on (step setup) s l.state more.state l.picks more.picks l.runs more.runs;
        far = elim more.far [ inl f ↦ inl f | inr far ↦ inr (omega arith) ];
      }

  pub long : ((s : State) → Start s → IsFinal setup s ⊎ Leads s) → (n : ℕ) (s : State) → Start s → Long s n
  long leads zero s h = record { picks = []; state = s; runs = refl; far = inr (omega arith) }
  long leads (suc n) s h =
      elim (leads s h) [
        | inl f ↦ record { picks = []; state = s; runs = refl; far = inl f }
        | inr l ↦ on_from n s l l.to (λ again. long leads n l.state again)
      ]

  -- nothing follows a state without enabled picks
  ends_here : (u v : State) (ps : List Pick) → IsQuiet setup u → Runs setup u ps v → length ps ≡ 0
  ends_here u v [] q r = refl
  ends_here u v (p ∷ ps) q r = let x = and_then_some (λ (w : State). run_by (step setup) w ps) (step setup u p) v r in absurd (cc (q p, x.1))

  pub never_stuck : ((s : State) → Start s → IsFinal setup s ⊎ Leads s) → (s u : State) (ps : List Pick) → IsCounted s → Start s → Runs setup s ps u → ¬ (IsStuck setup u)
  never_stuck leads s u ps c h r stuck = let l = long leads (length ps + 1) s h in by l l.far where
    by : (l : Long s (length ps + 1)) → IsFinal setup l.state ⊎ (length ps + 1 ≤ length l.picks) → ⊥
    by l (inl f) = (can_only_end setup s c l.state l.picks l.runs f).never_stuck ps u r stuck
    by l (inr far) =
        let j = meet_runs setup s c l.state u l.picks ps l.runs r in
        let n = j.lengths in
        let z = ends_here u j.state j.others stuck.quiet j.second in
        omega arith
