-- One final run fixes every run, and a family of runs that never ends tells what every run prints.
use Rattle.std.proofs.Common.{◌≡◌, ℕ, ◌+◌, ◌<◌, ◌≤◌, ◌⊎◌, inl, inr, Bool, true, false, List, [], ◌∷◌, ◌++◌, length, refl, ap, sym, ◌∙◌, subst, arith, append_assoc}
use Rattle.std.specs.Prelude.{Some, None, if◌then◌else◌}
use Rattle.std.proofs.lemmas.List.{append-nil, nil_from_length}
use Rattle.dae_base.proofs.Laws.{and_then_some, map_some_is}
use Rattle.dae_base.specs.declared.Side.TheVariants.{A, E}
use Rattle.dae_machine.specs.declared.Pick.{Pick}
use Rattle.dae_machine.specs.declared.Pick.TheVariants.{A as MoveA, E as MoveE, Fill, Drain}
use Rattle.dae_machine.specs.Memory.{fill, drain}
use Rattle.dae_machine.specs.Runs.{run_by, often, IsOfOne, Joined}
use Rattle.dae_machine.specs.Machine.{Setup, State, step, move, moved_a, moved_e, filled, drained, Runs, IsQuiet, IsFinal, IsCounted}
use Rattle.dae_machine.specs.Ends.{IsPrefixOf, is_e, is_a, AwaitsMessage, CanOnlyEnd, HasRuns, GoesOn}
use Rattle.dae_machine.proofs.Diamond.{diamond, counted_step, same_pick}
use Rattle.dae_machine.proofs.Confluence.{join, to_quiet, quiet_stays}

pub prefix_refl : (xs : List ℕ) → IsPrefixOf xs xs
prefix_refl xs = ([], append-nil xs)

pub prefix_trans : (xs ys zs : List ℕ) → IsPrefixOf xs ys → IsPrefixOf ys zs → IsPrefixOf xs zs
prefix_trans xs ys zs p q = (p.0 ++ q.0, sym (append_assoc xs p.0 q.0) ∙ ap (λ l. l ++ q.0) p.1 ∙ q.1)

-- only E prints
pub step_prints : (setup : Setup) (s t : State) (p : Pick) → step setup s p ≡ Some t → IsPrefixOf s.printed t.printed
step_prints setup s t MoveA h = let x = map_some_is (moved_a s) (move setup A s.a s.queues) t h in ([], append-nil s.printed ∙ ap (λ (v : State). v.printed) x.2)
step_prints setup s t MoveE h = let x = map_some_is (moved_e s) (move setup E s.e s.queues) t h in (x.0.0.1, ap (λ (v : State). v.printed) x.2)
step_prints setup s t (Fill side n) h = let x = map_some_is (filled s) (fill side n s.queues s.memory) t h in ([], append-nil s.printed ∙ ap (λ (v : State). v.printed) x.2)
step_prints setup s t Drain h = let x = map_some_is (drained s) (drain s.queues s.memory) t h in ([], append-nil s.printed ∙ ap (λ (v : State). v.printed) x.2)

-- a step counts itself
pub step_counts : (setup : Setup) (s t : State) (p : Pick) → step setup s p ≡ Some t → t.steps ≡ s.steps + 1
step_counts setup s t MoveA h = let x = map_some_is (moved_a s) (move setup A s.a s.queues) t h in sym (ap (λ z. z.steps) x.2)
step_counts setup s t MoveE h = let x = map_some_is (moved_e s) (move setup E s.e s.queues) t h in sym (ap (λ z. z.steps) x.2)
step_counts setup s t (Fill side number) h = let x = map_some_is (filled s) (fill side number s.queues s.memory) t h in sym (ap (λ z. z.steps) x.2)
step_counts setup s t Drain h = let x = map_some_is (drained s) (drain s.queues s.memory) t h in sym (ap (λ z. z.steps) x.2)

pub step_is_silent : (setup : Setup) (s t : State) (p : Pick) → is_e p ≡ false → step setup s p ≡ Some t → s.printed ≡ t.printed
step_is_silent setup s t MoveA e h = ap (λ (v : State). v.printed) (map_some_is (moved_a s) (move setup A s.a s.queues) t h).2
step_is_silent setup s t MoveE e h = cc
step_is_silent setup s t (Fill side n) e h = ap (λ (v : State). v.printed) (map_some_is (filled s) (fill side n s.queues s.memory) t h).2
step_is_silent setup s t Drain e h = ap (λ (v : State). v.printed) (map_some_is (drained s) (drain s.queues s.memory) t h).2

pub run_prints : (setup : Setup) (s t : State) (ps : List Pick) → Runs setup s ps t → IsPrefixOf s.printed t.printed
run_prints setup s t [] r = let e : s ≡ t = cc in subst (λ (v : State). IsPrefixOf s.printed v.printed) e (prefix_refl s.printed)
run_prints setup s t (p ∷ ps) r =
    let x = and_then_some (λ (v : State). run_by (step setup) v ps) (step setup s p) t r in
    prefix_trans s.printed x.0.printed t.printed (step_prints setup s x.0 p x.1) (run_prints setup x.0 t ps x.2)

none_here : (b : Bool) (n : ℕ) → (if b then 1 else 0) + n ≡ 0 → (b ≡ false) × (n ≡ 0)
none_here true n h = absurd (omega arith)
none_here false n h = (refl, omega arith)

pub run_is_silent : (setup : Setup) (s t : State) (ps : List Pick) → often is_e ps ≡ 0 → Runs setup s ps t → s.printed ≡ t.printed
run_is_silent setup s t [] z r = let e : s ≡ t = cc in ap (λ (v : State). v.printed) e
run_is_silent setup s t (p ∷ ps) z r =
    let x = and_then_some (λ (v : State). run_by (step setup) v ps) (step setup s p) t r in
    let both = none_here (is_e p) (often is_e ps) z in
    step_is_silent setup s x.0 p both.0 x.1 ∙ run_is_silent setup x.0 t ps both.1 x.2

one_is_e : IsOfOne is_e
one_is_e MoveE MoveE h k = refl
one_is_e MoveA q h k = cc
one_is_e (Fill side n) q h k = cc
one_is_e Drain q h k = cc
one_is_e MoveE MoveA h k = cc
one_is_e MoveE (Fill side n) h k = cc
one_is_e MoveE Drain h k = cc

first_of : (test : Pick → Bool) (setup : Setup) (s t : State) (ps : List Pick) → 1 ≤ often test ps → Runs setup s ps t → (p : Pick) × (v : State) × (step setup s p ≡ Some v)
first_of test setup s t [] l r = absurd (omega arith)
first_of test setup s t (p ∷ ps) l r = let x = and_then_some (λ (v : State). run_by (step setup) v ps) (step setup s p) t r in (p, x.0, x.1)

one_is_a : IsOfOne is_a
one_is_a MoveA MoveA h k = refl
one_is_a MoveE q h k = cc
one_is_a (Fill side n) q h k = cc
one_is_a Drain q h k = cc
one_is_a MoveA MoveE h k = cc
one_is_a MoveA (Fill side n) h k = cc
one_is_a MoveA Drain h k = cc

often_at_most : (test : Pick → Bool) (ps : List Pick) → often test ps ≤ length ps
often_at_most test [] = omega arith
often_at_most test (p ∷ ps) = let h = often_at_most test ps in by (test p) h where
  by : (b : Bool) → often test ps ≤ length ps → (if b then 1 else 0) + often test ps ≤ length (p ∷ ps)
  by true h = omega arith
  by false h = omega arith

-- ---- E waits for what A alone pushes

waits : (setup : Setup) (s : State) → AwaitsMessage setup s → step setup s MoveE ≡ None
waits setup s h = rw (h.asks, h.none) refl

-- while A stands still, E does
still_waits : (setup : Setup) (s t : State) (p : Pick) → AwaitsMessage setup s → is_a p ≡ false → step setup s p ≡ Some t → (is_e p ≡ false) × AwaitsMessage setup t
still_waits setup s t MoveA h n k = cc
still_waits setup s t MoveE h n k = absurd (let z = waits setup s h in cc)
still_waits setup s t (Fill A j) h n k =
    let x = map_some_is (filled s) (fill A j s.queues s.memory) t k in
    let y = map_some_is _ _ x.0 x.1 in
    (refl, record { word = h.word; inst = h.inst; asks = rw (← x.2) h.asks; none = rw (← x.2, ← y.2) h.none })
still_waits setup s t (Fill E j) h n k =
    let x = map_some_is (filled s) (fill E j s.queues s.memory) t k in
    let y = map_some_is _ _ x.0 x.1 in
    (refl, record { word = h.word; inst = h.inst; asks = rw (← x.2) h.asks; none = rw (← x.2, ← y.2) h.none })
still_waits setup s t Drain h n k =
    let x = map_some_is (drained s) (drain s.queues s.memory) t k in
    let y = map_some_is _ _ x.0 x.1 in
    (refl, record { word = h.word; inst = h.inst; asks = rw (← x.2) h.asks; none = rw (← x.2, ← y.2) h.none })

none_moves : (setup : Setup) (s t : State) (ps : List Pick) → AwaitsMessage setup s → often is_a ps ≡ 0 → Runs setup s ps t → often is_e ps ≡ 0
none_moves setup s t [] h z r = refl
none_moves setup s t (p ∷ ps) h z r =
    let x = and_then_some (λ (v : State). run_by (step setup) v ps) (step setup s p) t r in
    let both = none_here (is_a p) (often is_a ps) z in
    let y = still_waits setup s x.0 p h both.0 x.1 in
    rw (y.0, none_moves setup x.0 t ps y.1 both.1 x.2) refl

module _ (setup : Setup) (start : State) (c : IsCounted start) where
  pub meet_runs : (t u : State) (ps qs : List Pick) → Runs setup start ps t → Runs setup start qs u → Joined (step setup) ps t qs u
  meet_runs t u ps qs h k = join (step setup) same_pick IsCounted (counted_step setup) (diamond setup) start t u ps qs c h k

  pub down_to : (t u : State) (ps qs : List Pick) → Runs setup start ps t → IsQuiet setup t → Runs setup start qs u → (rest : List Pick) × Runs setup u rest t × (length qs + length rest ≡ length ps)
  down_to t u ps qs h q k = to_quiet (step setup) same_pick IsCounted (counted_step setup) (diamond setup) start t u ps qs c h q k

  pub stays : (s t : State) (ps : List Pick) → IsQuiet setup s → Runs setup s ps t → (ps ≡ []) × (s ≡ t)
  stays s t ps q r = quiet_stays (step setup) same_pick IsCounted (counted_step setup) (diamond setup) s t ps q r

  pub can_only_end : (end : State) (ps : List Pick) → Runs setup start ps end → IsFinal setup end → CanOnlyEnd setup start end (length ps)
  can_only_end end ps h f = record {
    at_most = λ qs u k. (let d = down_to end u ps qs h f.quiet k in let e = d.2 in omega arith);
    ends = λ qs u k. (
        let d = down_to end u ps qs h f.quiet k in
        let e = d.2 in (
          λ (g : IsFinal setup u). (let z = ap length (stays u end d.0 g.quiet d.1).0 in omega arith),
          λ (g : length qs ≡ length ps). (
              let z = nil_from_length d.0 (omega arith) in
              let r : Runs setup u [] end = rw z at d.1 in
              let same : u ≡ end = cc in
              subst (λ (v : State). IsFinal setup v) (sym same) f),
        ));
    same = λ qs u k g. (let d = down_to end u ps qs h f.quiet k in (stays u end d.0 g.quiet d.1).1);
    prints = λ qs u k. (let d = down_to end u ps qs h f.quiet k in run_prints setup u end d.0 d.1);
    never_stuck = λ qs u k g. (
        let d = down_to end u ps qs h f.quiet k in
        g.not_final (subst (λ (v : State). IsFinal setup v) (sym (stays u end d.0 g.quiet d.1).1) f));
  }

  -- a run that is no longer than n, and the run of the family for n: what is added to that prints nothing, and where n is
  -- more than the run's length, something is added to the run
  record Meets (u : State) (qs : List Pick) {outputs : ℕ → List ℕ} {n : ℕ} (r : HasRuns setup start outputs n) : Type 0 where
    joined : Joined (step setup) r.picks r.state qs u
    silent : often is_e joined.more ≡ 0
    onward : length qs < n → (p : Pick) × (v : State) × (step setup u p ≡ Some v)

  meets : (u : State) (qs : List Pick) (outputs : ℕ → List ℕ) (n : ℕ) (r : HasRuns setup start outputs n) → length qs ≤ n → Runs setup start qs u → Meets u qs r
  meets u qs outputs n r l k = let j = meet_runs r.state u r.picks qs r.runs k in by j r.moves where
    by : (j : Joined (step setup) r.picks r.state qs u) → (n ≤ often is_e r.picks) ⊎ ((n ≤ often is_a r.picks) × AwaitsMessage setup r.state) → Meets u qs r
    by j (inl m) =
        let e = j.counts is_e in
        let a = often_at_most is_e qs in
        record {
          joined = j;
          silent = elim (j.apart is_e one_is_e) [ inl h ↦ h | inr h ↦ (omega arith) ];
          onward = λ z. first_of is_e setup u j.state j.others (omega arith) j.second;
        }
    by j (inr m) =
        let e = j.counts is_a in
        let a = often_at_most is_a qs in
        let m0 = m.0 in
        let still : often is_a j.more ≡ 0 = elim (j.apart is_a one_is_a) [ inl h ↦ h | inr h ↦ (omega arith) ] in
        record {
          joined = j;
          silent = none_moves setup r.state j.state j.more m.1 still j.first;
          onward = λ z. first_of is_a setup u j.state j.others (omega arith) j.second;
        }

  pub goes_on : (outputs : ℕ → List ℕ) → ((n : ℕ) → HasRuns setup start outputs n) → GoesOn setup start outputs
  goes_on outputs has = record {
    enabled = λ qs u k. (meets u qs outputs (length qs + 1) (has (length qs + 1)) (omega arith) k).onward (omega arith);
    prints = λ qs u k. (
        let r = has (length qs) in
        let m = meets u qs outputs (length qs) r (omega arith) k in
        let j = m.joined in
        let same = run_is_silent setup r.state j.state j.more m.silent j.first in
        (r.bound, prefix_trans u.printed r.state.printed (outputs r.bound) (rw same (run_prints setup u j.state j.others j.second)) r.no_more));
    reaches = λ qs u k n. (
        let r = has n in
        let j = meet_runs r.state u r.picks qs r.runs k in
        (j.others, j.state, j.second, prefix_trans (outputs n) r.state.printed j.state.printed r.prints (run_prints setup r.state j.state j.more j.first)));
  }
