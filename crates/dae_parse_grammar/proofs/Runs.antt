-- Runs of the machine: they come to each tree of the grammar, and to nothing else.
use Rattle.std.proofs.Common.{◌≡◌, ℕ, zero, suc, ◌+◌, ◌*◌, ◌≤◌, ◌<◌, List, [], length, Option, Some, None, refl, sym, ap, subst, ◌∙◌, arith}
use Rattle.dae_tree.specs.Marks.{TokenMark}
use Rattle.dae_tree.specs.Names.{Names}
use Rattle.dae_tree.specs.Statements.{IsTreeOf, spell_file}
use Rattle.dae_tree.specs.Trees.{External}
use Rattle.dae_parse_grammar.specs.Frames.{ParserState, state, externals}
use Rattle.dae_parse_grammar.specs.Machine.{step, begun, ended, onto}
use Rattle.dae_parse_grammar.specs.Measure.{measure}
use Rattle.dae_parse_grammar.proofs.Falls.{Falls, falls}
use Rattle.dae_parse_grammar.specs.Runs.{On, IsBackward, run}
use Rattle.dae_parse_grammar.specs.Taken.{tokens_of}
use Rattle.dae_parse_grammar.specs.Standing.{Holds}
use Rattle.dae_parse_grammar.proofs.Blocks.{read_file, after_file, there_and_back}
use Rattle.dae_parse_grammar.proofs.Lists.{externals_hold}
use Rattle.dae_parse_grammar.proofs.Sound.{Then}
use Rattle.dae_parse_grammar.proofs.SoundStatements.{holds}
use Rattle.dae_parse_grammar.proofs.Tokens.{Keeps, keeps, externals_spelled}

-- a run to a state
abbrev pub Arrives : ParserState → ParserState → Type 0
Arrives goal s = (turns : ℕ) × (run turns s ≡ goal)

behind_step : (goal s : ParserState) (r : Option ParserState) → step s ≡ r → On (Arrives goal) r → Arrives goal s
behind_step goal s None e k = absurd k
behind_step goal s (Some t) e k = (suc k.0, subst (λ (r : Option ParserState). (elim r [ None ↦ s | Some u ↦ run k.0 u ]) ≡ goal) (sym e) k.1)

arrives_back : (goal : ParserState) → IsBackward (Arrives goal)
arrives_back goal s k = behind_step goal s (step s) refl k

pub complete : (tokens : List TokenMark) (file : List External) → IsTreeOf tokens file → (turns : ℕ) × (names : Names) × (run turns (begun tokens) ≡ ended (onto file []) names)
complete tokens file i =
    let names = after_file file [] in
    let goal = ended (onto file []) names in
    let k : Arrives goal goal = (0, refl) in
    let r : Arrives goal (begun (spell_file file [])) = read_file (arrives_back goal) file [] i.0 [] [] [] k in
    let q : Arrives goal (begun tokens) = subst (λ (ts : List TokenMark). Arrives goal (begun ts)) (sym i.1) r in
    (q.0, names, q.1)

-- ---- a step behind a run

pub run_next : (turns : ℕ) (s t : ParserState) → step (run turns s) ≡ Some t → run (suc turns) s ≡ t
run_next zero s t e = subst (λ (r : Option ParserState). (elim r [ None ↦ s | Some u ↦ u ]) ≡ t) (sym e) refl
run_next (suc turns) s t e = go (λ u k. run_next turns u t k) (step s) refl e
  where
    go : ((u : ParserState) → step (run turns u) ≡ Some t → run (suc turns) u ≡ t) → (r : Option ParserState) → step s ≡ r → step (elim r [ None ↦ s | Some u ↦ run turns u ]) ≡ Some t → elim r [ None ↦ s | Some u ↦ run (suc turns) u ] ≡ t
    go f None k e = cc
    go f (Some u) k e = f u e

-- ---- what every run keeps

step_holds : (s : ParserState) → Holds s → Then (step s)
step_holds (state d s names ts) h = holds d s names ts h

step_keeps : (s : ParserState) → Keeps (tokens_of s) (step s)
step_keeps (state d s names ts) = keeps d s names ts

pub run_holds : (turns : ℕ) (s : ParserState) → Holds s → Holds (run turns s)
run_holds zero s h = h
run_holds (suc turns) s h = go (λ t k. run_holds turns t k) (step s) (step_holds s h)
  where
    go : ((t : ParserState) → Holds t → Holds (run turns t)) → (r : Option ParserState) → Then r → Holds (elim r [ None ↦ s | Some t ↦ run turns t ])
    go f None k = h
    go f (Some t) k = f t k

pub run_keeps : (turns : ℕ) (s : ParserState) → tokens_of (run turns s) ≡ tokens_of s
run_keeps zero s = refl
run_keeps (suc turns) s = go (λ t. run_keeps turns t) (step s) (step_keeps s)
  where
    go : ((t : ParserState) → tokens_of (run turns t) ≡ tokens_of t) → (r : Option ParserState) → Keeps (tokens_of s) r → tokens_of (elim r [ None ↦ s | Some t ↦ run turns t ]) ≡ tokens_of s
    go f None k = refl
    go f (Some t) k = f t ∙ k

pub stands : (tokens : List TokenMark) (turns : ℕ) → Holds (run turns (begun tokens))
stands tokens turns = run_holds turns (begun tokens) (refl, tt, tt)

pub sound : (tokens : List TokenMark) (turns : ℕ) (before : List External) (names : Names) → run turns (begun tokens) ≡ ended before names → IsTreeOf tokens (onto before [])
sound tokens turns before names e =
    let h : Holds (ended before names) = subst Holds e (stands tokens turns) in
    let t : tokens_of (ended before names) ≡ tokens = subst (λ (s : ParserState). tokens_of s ≡ tokens) e (run_keeps turns (begun tokens)) in
    (externals_hold [] before [] h.1 tt, sym t ∙ sym (externals_spelled before [] []))

-- ---- every run ends alike

stays : (turns : ℕ) (s : ParserState) → step s ≡ None → run turns s ≡ s
stays zero s e = refl
stays (suc turns) s e = subst (λ (r : Option ParserState). (elim r [ None ↦ s | Some u ↦ run turns u ]) ≡ s) (sym e) refl

pub same_end : (n m : ℕ) (s a b : ParserState) → run n s ≡ a → run m s ≡ b → step a ≡ None → step b ≡ None → a ≡ b
same_end zero m s a b p q x y = sym p ∙ sym (stays m s (ap step p ∙ x)) ∙ q
same_end (suc n) zero s a b p q x y = sym p ∙ stays (suc n) s (ap step q ∙ y) ∙ q
same_end (suc n) (suc m) s a b p q x y = go (λ t p q. same_end n m t a b p q x y) (step s) p q
  where
    go : ((t : ParserState) → run n t ≡ a → run m t ≡ b → a ≡ b) → (r : Option ParserState) → elim r [ None ↦ s | Some t ↦ run n t ] ≡ a → elim r [ None ↦ s | Some t ↦ run m t ] ≡ b → a ≡ b
    go f None p q = sym p ∙ q
    go f (Some t) p q = f t p q

file_of : ParserState → List External
file_of (state (externals before) s names ts) = before
file_of _ = []

same_file : (a b : List External) (n m : Names) → ended a n ≡ ended b m → a ≡ b
unfolding file_of
same_file a b n m e = ap file_of e

pub unique : (tokens : List TokenMark) (a b : List External) → IsTreeOf tokens a → IsTreeOf tokens b → a ≡ b
unique tokens a b i j =
    let p = complete tokens a i in
    let q = complete tokens b j in
    let e = same_end p.0 q.0 (begun tokens) (ended (onto a []) p.1) (ended (onto b []) q.1) p.2 q.2 refl refl in
    sym (there_and_back a) ∙ ap (λ (xs : List External). onto xs []) (same_file (onto a []) (onto b []) p.1 q.1 e) ∙ there_and_back b

pub stopped : (tokens : List TokenMark) (turns : ℕ) (s : ParserState) → run turns (begun tokens) ≡ s → step s ≡ None → (file : List External) → IsTreeOf tokens file
    → (names : Names) × (s ≡ ended (onto file []) names)
stopped tokens turns s e h file i =
    let p = complete tokens file i in
    (p.1, same_end turns p.0 (begun tokens) s (ended (onto file []) p.1) e p.2 h refl)

-- ---- a run is no longer than the tokens allow

falls_by : (m : ℕ) (r : Option ParserState) (t : ParserState) → r ≡ Some t → Falls m r → measure t < m
falls_by m r t e h = subst (λ (q : Option ParserState). Falls m q) e h

pub step_falls : (s t : ParserState) → step s ≡ Some t → measure t < measure s
step_falls (state d s names ts) t e = falls_by (measure (state d s names ts)) (step (state d s names ts)) t e (falls d s names ts)

pub stops : (turns : ℕ) (s : ParserState) → measure s ≤ turns → step (run turns s) ≡ None
stops zero s h = go (step s) refl
  where
    go : (r : Option ParserState) → step s ≡ r → r ≡ None
    go None e = refl
    go (Some t) e = absurd (omega (arith, step_falls s t e))
stops (suc turns) s h = go (λ t k. stops turns t k) (step s) refl
  where
    go : ((t : ParserState) → measure t ≤ turns → step (run turns t) ≡ None) → (r : Option ParserState) → step s ≡ r → step (elim r [ None ↦ s | Some t ↦ run turns t ]) ≡ None
    go f None e = e
    go f (Some t) e = f t (omega (arith, step_falls s t e))

pub bounded : (tokens : List TokenMark) (turns : ℕ) → 12 * length tokens + 9 ≤ turns → step (run turns (begun tokens)) ≡ None
bounded tokens turns h = stops turns (begun tokens) (omega arith)
