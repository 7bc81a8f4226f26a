-- Runs of a machine whose different enabled picks commute can be lengthened to meet.
use Rattle.std.proofs.Common.{◌≡◌, ◌≢◌, suc, ◌+◌, ◌⊎◌, inl, inr, Bool, true, false, List, [], ◌∷◌, ◌++◌, length, refl, ap, sym, ◌∙◌, subst, arith}
use Rattle.std.specs.Prelude.{Option, Some, None, option_and_then}
use Rattle.std.specs.List.{AllByRecursion}
use Rattle.dae_base.proofs.Laws.{and_then_some}
use Rattle.dae_machine.specs.Runs.{run_by, often, IsOfOne, Joined}

module _ {S P : Type 0} (step : S → P → Option S) where
  pub run-append : (s : S) (ps qs : List P) → run_by step s (ps ++ qs) ≡ option_and_then (λ t. run_by step t qs) (run_by step s ps)
  run-append s [] qs = refl
  run-append s (p ∷ ps) qs = elim (step s p) as (λ o. option_and_then (λ t. run_by step t (ps ++ qs)) o ≡ option_and_then (λ t. run_by step t qs) (option_and_then (λ t. run_by step t ps) o)) [ None ↦ refl | Some t ↦ run-append t ps qs ]

  -- two runs in a row are one
  pub run-on : (s t u : S) (ps qs : List P) → run_by step s ps ≡ Some t → run_by step t qs ≡ Some u → run_by step s (ps ++ qs) ≡ Some u
  run-on s t u ps qs h k = rw (run-append s ps qs, h, k)

  pub run-step : (s t u : S) (p : P) (ps : List P) → step s p ≡ Some t → run_by step t ps ≡ Some u → run_by step s (p ∷ ps) ≡ Some u
  run-step s t u p ps h k = rw (h, k)

-- how often p, and a test of one pick alone that is not p
abbrev pub NotIn : {P : Type 0} → P → List P → Type 0
NotIn {P} p qs = AllByRecursion (λ (q : P). p ≢ q) qs

pub none_of_one : {P : Type 0} (e : P → Bool) (p : P) (qs : List P) → IsOfOne e → e p ≡ true → NotIn p qs → often e qs ≡ 0
none_of_one e p [] one h n = refl
none_of_one e p (q ∷ qs) one h n = none_by (e q) refl (none_of_one e p qs one h n.1) where
  none_by : (b : Bool) → e q ≡ b → often e qs ≡ 0 → often e (q ∷ qs) ≡ 0
  none_by true k r = absurd (n.0 (one p q h k))
  none_by false k r = rw (k, r)

-- the second run lacks p, which is no pick of the first's rest
pub apart_more : {P : Type 0} (e : P → Bool) (p : P) (ps qs more others : List P) → IsOfOne e → NotIn p qs → often e ps + often e more ≡ often e qs + often e others → (often e more ≡ 0) ⊎ (often e others ≡ 0) → (often e more ≡ 0) ⊎ (often e (p ∷ others) ≡ 0)
apart_more e p ps qs more others one n c k = by (e p) refl where
  by : (b : Bool) → e p ≡ b → (often e more ≡ 0) ⊎ (often e (p ∷ others) ≡ 0)
  by true h = let z = none_of_one e p qs one h n in inl (elim k [ inl l ↦ l | inr l ↦ (omega arith) ])
  by false h = elim k [ inl l ↦ inl l | inr l ↦ inr (rw (h, l)) ]

module _ {S P : Type 0} (step : S → P → Option S) (same : (p q : P) → (p ≡ q) ⊎ (p ≢ q)) (Good : S → Type 0)
    (kept : (s t : S) (p : P) → Good s → step s p ≡ Some t → Good t)
    (diamond : (s t u : S) (p q : P) → Good s → p ≢ q → step s p ≡ Some t → step s q ≡ Some u → (v : S) × (step t q ≡ Some v) × (step u p ≡ Some v)) where
  -- one pick beside a run: the run has it, or it can still follow
  pub record Has (p : P) (s : S) (qs : List P) (t : S) : Type 0 where
    pub more : List P
    pub runs : run_by step s more ≡ Some t
    pub length' : length (p ∷ more) ≡ length qs
    pub counts : (e : P → Bool) → often e (p ∷ more) ≡ often e qs

  pub record Lacks (p : P) (s : S) (qs : List P) (t : S) : Type 0 where
    pub state : S
    pub runs : run_by step s qs ≡ Some state
    pub follows : step t p ≡ Some state
    pub lacks : NotIn p qs

  pub strip : (s t u : S) (p : P) (qs : List P) → Good s → step s p ≡ Some t → run_by step s qs ≡ Some u → Has p t qs u ⊎ Lacks p t qs u
  strip s t u p [] g h r = inr (record { state = t; runs = refl; follows = rw (← (let e : s ≡ u = cc in e)) h; lacks = tt })
  strip s t u p (q ∷ qs) g h r =
      let found = and_then_some (λ (v : S). run_by step v qs) (step s q) u r in
      elim (same p q) [
        | inl e ↦ inl (record {
          more = qs;
          runs = (let k : found.0 ≡ t = cc (found.1, h, ap (step s) e) in rw (← k) found.2);
          length' = refl;
          counts = λ (f : P → Bool). ap (λ r. often f (r ∷ qs)) e;
        })
        | inr ne ↦
            let d = diamond s t found.0 p q g ne h found.1 in
            elim (strip found.0 d.0 u p qs (kept s found.0 q g found.1) d.2 found.2) [
              | inl m ↦ inl (record {
                more = q ∷ m.more;
                runs = run-step step t d.0 u q m.more d.1 m.runs;
                length' = ap suc m.length';
                counts = λ (f : P → Bool). (let k = m.counts f in omega arith);
              })
              | inr l ↦ inr (record { state = l.state; runs = run-step step t d.0 l.state q qs d.1 l.runs; follows = l.follows; lacks = (ne, l.lacks) })
            ]
      ]

  -- two runs from one state can be lengthened to meet
  pub join : (s t u : S) (ps qs : List P) → Good s → run_by step s ps ≡ Some t → run_by step s qs ≡ Some u → Joined step ps t qs u
  join s t u [] qs g h r = record {
    state = u;
    more = qs;
    others = [];
    first = rw (← (let e : s ≡ t = cc in e)) r;
    second = refl;
    lengths = omega arith;
    counts = λ (f : P → Bool). omega arith;
    apart = λ (f : P → Bool) one. inr refl;
  }
  join s t u (p ∷ ps) qs g h r =
      let found = and_then_some (λ (v : S). run_by step v ps) (step s p) t h in
      elim (strip s found.0 u p qs g found.1 r) [
        | inl m ↦
            let j = join found.0 t u ps m.more (kept s found.0 p g found.1) found.2 m.runs in
            record {
              state = j.state;
              more = j.more;
              others = j.others;
              first = j.first;
              second = j.second;
              lengths = (let k = m.length' in let l = j.lengths in omega arith);
              counts = λ (f : P → Bool). (let k = m.counts f in let l = j.counts f in omega arith);
              apart = j.apart;
            }
        | inr m ↦
            let j = join found.0 t m.state ps qs (kept s found.0 p g found.1) found.2 m.runs in
            record {
              state = j.state;
              more = j.more;
              others = p ∷ j.others;
              first = j.first;
              second = run-step step u m.state j.state p j.others m.follows j.second;
              lengths = (let l = j.lengths in omega arith);
              counts = λ (f : P → Bool). (let l = j.counts f in omega arith);
              apart = λ (f : P → Bool) one. apart_more f p ps qs j.more j.others one m.lacks (j.counts f) (j.apart f one);
            }
      ]

  pub good_after : (s t : S) (ps : List P) → Good s → run_by step s ps ≡ Some t → Good t
  good_after s t [] g r = let e : s ≡ t = cc in subst Good e g
  good_after s t (p ∷ ps) g r = let found = and_then_some (λ (v : S). run_by step v ps) (step s p) t r in good_after found.0 t ps (kept s found.0 p g found.1) found.2

  -- nothing follows a state without enabled picks
  pub quiet_stays : (s t : S) (ps : List P) → ((p : P) → step s p ≡ None) → run_by step s ps ≡ Some t → (ps ≡ []) × (s ≡ t)
  quiet_stays s t [] q r = (refl, cc)
  quiet_stays s t (p ∷ ps) q r = let found = and_then_some (λ (v : S). run_by step v ps) (step s p) t r in absurd (cc (q p, found.1))

  -- every run is at most as long as one that ends in a state without enabled picks, and can be lengthened to that state
  pub to_quiet : (s t u : S) (ps qs : List P) → Good s → run_by step s ps ≡ Some t → ((p : P) → step t p ≡ None) → run_by step s qs ≡ Some u → (rest : List P) × (run_by step u rest ≡ Some t) × (length qs + length rest ≡ length ps)
  to_quiet s t u ps qs g h q r =
      let j = join s t u ps qs g h r in
      let e = quiet_stays t j.state j.more q j.first in
      (j.others, j.second ∙ ap Some (sym e.1), (let l = j.lengths in let z : length j.more ≡ 0 = ap length e.0 in omega arith))
