-- A list of instructions does a deed, from each processor that shows these contents where the list stands.
use Rattle.std.proofs.Common.{◌≡◌, ℕ, suc, ◌+◌, ◌^◌, ◌<◌, ◌≤◌, Bool, true, false, List, [], ◌∷◌, ◌++◌, length, refl, subst, arith, length-append, append-nil}
use Rattle.std.specs.Prelude.{nat_eq, if◌then◌else◌, slice_get, Some}
use Rattle.std.proofs.lemmas.Bool.Decides.{nat_tests}
use Rattle.dae_encode.specs.declared.QueueUse.TheVariants.{Nothing, Take as Takes, Push as Pushes, Load, StoreAddress}
use Rattle.dae_encode.specs.declared.Inst.{Inst}
use Rattle.dae_encode.specs.Spelling.{decode}
use Rattle.dae_encode.specs.Processor.{Processor, is_within}
use Rattle.dae_base.specs.Words.{width_of}
use Rattle.dae_base.specs.declared.Width.{Width}
use Rattle.dae_base.specs.declared.LoadKind.{LoadKind}
use Rattle.dae_base.specs.declared.Queue.{Queue}
use Rattle.dae_meaning.specs.Variables.{Env}
use Rattle.dae_ir.specs.Deeds.{Quit, Deed, Went, Take, Push, Reserve, Send, Say, Halts}
use Rattle.dae_select_walks.specs.Walks.{WalkSetting, QueueEvent, Acts}
use Rattle.dae_select_walks.specs.Does.{Does, event, halt_of}
use Rattle.dae_select_walks.specs.Homes.{Contents}
use Rattle.dae_select_walks.specs.Agrees.{Shows}
use Rattle.dae_select_walks.proofs.LawsOfWalks.{comes_here, nears_here, does_map, acts_map, acts_does}
use Rattle.dae_select_walks.specs.Layout.{CodeAt}

-- the code behind a part
pub code_drop : (code : List ℕ) (k : ℕ) (is js : List Inst) → CodeAt code k (is ++ js) → CodeAt code (k + length is) js
code_drop code k [] js h = subst (λ (n : ℕ). CodeAt code n js) (omega arith) h
code_drop code k (i ∷ is) js h = subst (λ (n : ℕ). CodeAt code n js) (omega arith) (code_drop code (k + 1) is js h.3)

pub code_take : (code : List ℕ) (k : ℕ) (is js : List Inst) → CodeAt code k (is ++ js) → CodeAt code k is
code_take code k [] js h = tt
code_take code k (i ∷ is) js h = (h.0, h.1, h.2, code_take code (k + 1) is js h.3)

module _ (s : WalkSetting) (private : ℕ) (to : ℕ → Env → Processor → Type 0) where
  -- to says what it must be at a word of the code
  pub record Runs (is : List Inst) (c : Contents) (d : Deed) : Type 0 where
    pub from : (k : ℕ) → k + length is < 2 ^ 29 → CodeAt s.code k is → (p : Processor) → Shows private c k p → Does s (length is) d (to (k + length is)) p

  -- an instruction here: what it does to each processor that shows these contents
  abbrev pub Here : Inst → Contents → (ℕ → Processor → Type 0) → Type 0
  Here i c Q = (k w : ℕ) → k < 2 ^ 29 → slice_get s.code k ≡ Some w → decode w ≡ Some i → (p : Processor) → Shows private c k p → Q k p

  abbrev pub Quiet : Inst → Contents → Contents → Type 0
  Quiet i c c' = Here i c (λ k p. (v : ℕ) × Acts s p (event Nothing v 0 []) (Shows private c' (k + 1)))

  pub runs_nothing : {c : Contents} {env : Env} → ((k : ℕ) (p : Processor) → Shows private c k p → to k env p) → Runs [] c (Went env)
  runs_nothing {c} f = record { from = λ k small at p h. comes_here s (f (k + 0) p (subst (λ (n : ℕ). Shows private c n p) (omega arith) h)) }

  -- what runs with nothing behind it
  pub runs_alone : {c : Contents} {d : Deed} (is : List Inst) → Runs (is ++ []) c d → Runs is c d
  runs_alone is run = rw append-nil at run

  -- what runs from the next word on
  later : {n : ℕ} (i : Inst) (is : List Inst) (k : ℕ) (d : Deed) (p : Processor) → n ≤ length (i ∷ is) → Does s n d (to (k + 1 + length is)) p → Does s (length (i ∷ is)) d (to (k + length (i ∷ is))) p
  later {n} i is k d p l h =
      let same : k + 1 + length is ≡ k + length (i ∷ is) = omega arith in
      does_map s (to (k + 1 + length is)) (to (k + length (i ∷ is))) n (length (i ∷ is)) l (λ env q t. subst (λ (j : ℕ). to j env q) same t) d p h

  -- what acts here, and what then runs
  next_runs : {i : Inst} {is : List Inst} {c : Contents} {d : Deed} {e : QueueEvent} (k : ℕ) {p : Processor} → Runs is c d → k + length (i ∷ is) < 2 ^ 29 → CodeAt s.code k (i ∷ is) → Acts s p e (Shows private c (k + 1)) → Acts s p e (Does s (length is) d (to (k + length (i ∷ is))))
  next_runs {i} {is} {d = d} k r small at a =
      let n : ℕ = length is in
      let same : k + 1 + length is ≡ k + length (i ∷ is) = omega arith in
      acts_map s (λ q h. does_map s (to (k + 1 + length is)) (to (k + length (i ∷ is))) n n (omega arith) (λ env q t. subst (λ (j : ℕ). to j env q) same t) d q (r.from (k + 1) (omega arith) at.3 q h)) a

  pub runs_quiet : {i : Inst} {is : List Inst} {c c' : Contents} {d : Deed} → Quiet i c c' → Runs is c' d → Runs (i ∷ is) c d
  runs_quiet {i} {is} {d = d} does r = record {
    from = λ k small at p h.
        let a = does k at.0 (omega arith) at.1 at.2 p h in
        let n : ℕ = length is in
        later i is k d p (omega arith) (acts_does s (to (k + 1 + length is)) n d a.1 (λ q g. r.from (k + 1) (omega arith) at.3 q g));
  }

  pub runs_push : {i : Inst} {is : List Inst} {c : Contents} {queue : Queue} {x : ℕ} {d : Deed} → Here i c (λ k p. Acts s p (event (Pushes queue) x 0 []) (Shows private c (k + 1))) → x < 2 ^ 32 → Runs is c d → Runs (i ∷ is) c (Push queue x d)
  runs_push {is = is} does fits r = record { from = λ k small at p h. (fits, nears_here s (length is) (omega arith) (next_runs k r small at (does k at.0 (omega arith) at.1 at.2 p h))) }

  pub runs_take : {i : Inst} {is : List Inst} {c : Contents} {queue : Queue} {go : ℕ → Deed} (got : ℕ → Contents) → ((x : ℕ) → x < 2 ^ 32 → Here i c (λ k p. (put : ℕ) × Acts s p (event (Takes queue) put x []) (Shows private (got x) (k + 1)))) → ((x : ℕ) → x < 2 ^ 32 → Runs is (got x) (go x)) → Runs (i ∷ is) c (Take queue go)
  runs_take {is = is} got does r = record { from = λ k small at p h. nears_here s (length is) (omega arith) (λ x fits. let a = does x fits k at.0 (omega arith) at.1 at.2 p h in (a.0, next_runs k (r x fits) small at a.1)) }

  -- a branch that takes a word: where it is 0 over what stands behind it, and else on to that
  pub runs_hear : {i : Inst} {c : Contents} {queue : Queue} (d : Deed) (go : ℕ → Deed) (skipped : List Inst) → Here i c (λ k p. (put : ℕ) × Acts s p (event (Takes queue) put 0 []) (Shows private c (k + 1 + length skipped))) → ((x : ℕ) → nat_eq x 0 ≡ false → Here i c (λ k p. (put : ℕ) × Acts s p (event (Takes queue) put x []) (Shows private c (k + 1)))) → Runs [] c d → ((x : ℕ) → nat_eq x 0 ≡ false → Runs skipped c (go x)) → Runs (i ∷ skipped) c (Take queue (λ y. if nat_eq y 0 then d else go y))
  runs_hear {i} {c} {queue} d go skipped over on none some = record { from = λ k small at p h. nears_here s (length skipped) (omega arith) (λ x fits. by k small at p h x (nat_eq x 0) refl) }
    where
      by : (k : ℕ) → k + length (i ∷ skipped) < 2 ^ 29 → CodeAt s.code k (i ∷ skipped) → (p : Processor) → Shows private c k p → (x : ℕ) (b : Bool) → nat_eq x 0 ≡ b → (put : ℕ) × Acts s p (event (Takes queue) put x []) (Does s (length skipped) (if b then d else go x) (to (k + length (i ∷ skipped))))
      by k small at p h x true e =
          let zero : x ≡ 0 = grind (arith, nat_tests) in
          let a = over k at.0 (omega arith) at.1 at.2 p h in
          let there : ℕ = k + 1 + length skipped in
          let same : there + 0 ≡ k + length (i ∷ skipped) = omega arith in
          rw zero (a.0, acts_map s (λ q g. does_map s (to (there + 0)) (to (k + length (i ∷ skipped))) 0 (length skipped) (omega arith) (λ env r t. subst (λ (j : ℕ). to j env r) same t) d q (none.from there (omega arith) tt q g)) a.1)
      by k small at p h x false e = let a = on x e k at.0 (omega arith) at.1 at.2 p h in (a.0, next_runs k (some x e) small at a.1)

  pub runs_reserve : {i : Inst} {is : List Inst} {c : Contents} {queue : Queue} {kind : LoadKind} {a : ℕ} {d : Deed} → (is_within 16 s.memory (width_of kind) a ≡ true → Here i c (λ k p. Acts s p (event (Load queue kind) a 0 []) (Shows private c (k + 1)))) → Runs is c d → Runs (i ∷ is) c (Reserve queue kind a d)
  runs_reserve {is = is} does r = record { from = λ k small at p h good. nears_here s (length is) (omega arith) (next_runs k r small at (does good k at.0 (omega arith) at.1 at.2 p h)) }

  pub runs_send : {i : Inst} {is : List Inst} {c : Contents} {width : Width} {a : ℕ} {d : Deed} → (is_within 16 s.memory width a ≡ true → Here i c (λ k p. Acts s p (event (StoreAddress width) a 0 []) (Shows private c (k + 1)))) → Runs is c d → Runs (i ∷ is) c (Send width a d)
  runs_send {is = is} does r = record { from = λ k small at p h good. nears_here s (length is) (omega arith) (next_runs k r small at (does good k at.0 (omega arith) at.1 at.2 p h)) }

  pub runs_say : {i : Inst} {is : List Inst} {c : Contents} {text : List ℕ} {d : Deed} → Here i c (λ k p. Acts s p (event Nothing 0 0 text) (Shows private c (k + 1))) → Runs is c d → Runs (i ∷ is) c (Say text d)
  runs_say {is = is} does r = record { from = λ k small at p h. nears_here s (length is) (omega arith) (next_runs k r small at (does k at.0 (omega arith) at.1 at.2 p h)) }

  pub runs_halt : {i : Inst} {is : List Inst} {c : Contents} {quit : Quit} → Here i c (λ k p. Acts s p (event Nothing 0 0 []) (λ q. q.halt ≡ Some (halt_of quit))) → Runs (i ∷ is) c (Halts quit)
  runs_halt does = record { from = λ k small at p h. nears_here s 0 (omega arith) (does k at.0 (omega arith) at.1 at.2 p h) }

  -- a branch over instructions that are skipped
  pub runs_over : {i : Inst} {c : Contents} {d : Deed} (skipped rest : List Inst) → Here i c (λ k p. (v : ℕ) × Acts s p (event Nothing v 0 []) (Shows private c (k + 1 + length skipped))) → Runs rest c d → Runs (i ∷ (skipped ++ rest)) c d
  runs_over {i} {c} {d} skipped rest does r = record {
    from = λ k small at p h.
        let a = does k at.0 (omega arith) at.1 at.2 p h in
        let both = length-append skipped rest in
        let n : ℕ = length rest in
        let there : ℕ = k + 1 + length skipped in
        let same : there + length rest ≡ k + length (i ∷ (skipped ++ rest)) = omega arith in
        let l : suc (length rest) ≤ length (i ∷ (skipped ++ rest)) = omega arith in
        does_map s (to (there + length rest)) (to (k + length (i ∷ (skipped ++ rest)))) (suc (length rest)) (length (i ∷ (skipped ++ rest))) l (λ env q t. subst (λ (j : ℕ). to j env q) same t) d p
        (acts_does s (to (there + length rest)) n d a.1 (λ q g. r.from there (omega arith) (code_drop s.code (k + 1) skipped rest at.3) q g));
  }
