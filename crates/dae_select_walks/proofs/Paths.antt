-- What is live by the pass over the code is what some path reads before it sets it.
use Rattle.std.proofs.Common.{◌≡◌, ℕ, true, false, not, ◌&&◌, ◌||◌, inl, inr, refl}
use Rattle.std.proofs.lemmas.Bool.{or_left, or_right, or_cases}
use Rattle.dae_base.proofs.Laws.{and_not}
use Rattle.dae_ir.specs.Code.{Done, Do, If, Loop}
use Rattle.dae_meaning.specs.Results.{Way, Next, Leaves, Skips, Returns}
use Rattle.dae_ir.specs.Classes.{VariableSet}
use Rattle.dae_ir.specs.Streams.{Actions}
use Rattle.dae_ir.specs.declared.stream.Mark.{Mark}
use Rattle.dae_ir.specs.declared.stream.Branch.{Branch}
use Rattle.dae_ir.specs.declared.stream.Action.{Action}
use Rattle.dae_ir.specs.declared.stream.Action.TheVariants.{Stop, Break, Continue, Return}
use Rattle.dae_select_walks.specs.Live.{LiveWays, ways, behind, none, reads, sets, decided, after, live, turn}
use Rattle.dae_select_walks.specs.Paths.{way_of, IsInner, IsOut, Passes, Ends, Goes, Jumps, First, Second, OutFirst, OutSecond, Turns, Rounds, OutOfBody, OutOfStep, Again, Reads, Here, Later, Decides, InFirst, InSecond, BehindFirst, BehindSecond, InBody, InStep, NextTurn, BehindLoop, at_way, IsLive, Inside, Outside}

-- what is live behind an action that goes on, and where one jumps
next_after : (a : Action) (k : VariableSet) (x : LiveWays) (u : ℕ) → way_of a ≡ Next → after a k x u ≡ k u
next_after Break k x u e = absurd cc
next_after Continue k x u e = absurd cc
next_after (Stop y) k x u e = absurd cc
next_after (Return y) k x u e = absurd cc
next_after a k x u e = refl

jump_after : (a : Action) (k : VariableSet) (x : LiveWays) (u : ℕ) (way : Way) → way_of a ≡ way → IsOut way → (after a k x u ≡ at_way x way u) × (sets a u ≡ false)
jump_after Break k x u way e out = rw (← e) (refl, refl)
jump_after Continue k x u way e out = rw (← e) (refl, refl)
jump_after a k x u way e out = absurd (rw (← e) at out)

at_out : (x : LiveWays) (k : VariableSet) (way : Way) (u : ℕ) → IsOut way → at_way x way u ≡ true → at_way (behind k x) way u ≡ true
at_out x k Leaves u out h = h
at_out x k Skips u out h = h
at_out x k Next u out h = absurd out
at_out x k Returns u out h = absurd out

at_inner : (s k : VariableSet) (way : Way) (u : ℕ) → IsInner way → s u ≡ true → at_way (ways s k s) way u ≡ true
at_inner s k Next u i h = h
at_inner s k Skips u i h = h
at_inner s k Leaves u i h = absurd i
at_inner s k Returns u i h = absurd i

-- ---- a path shows what is live

mutual
  passes_live : {u : ℕ} {code : Actions} {way : Way} (x : LiveWays) → Passes u code way → at_way x way u ≡ true → live code x u ≡ true
  passes_live x Ends h = h
  passes_live {u} x (Goes {a = a} {k = k} e n p) h = rw (next_after a (live k x) x u e, passes_live x p h, n) (or_right (reads a u) true refl)
  passes_live {u} x (Jumps {a = a} {k = k} {way = way} e out) h = (let j = jump_after a (live k x) x u way e out in rw (j.0, j.1, h) (or_right (reads a u) true refl))
  passes_live {u} x (First {b = b} {p = p} {q = q} {k = k} f g) h = or_right (decided b u) _ (or_left _ (live q (behind (live k x) x) u) (passes_live (behind (live k x) x) f (passes_live x g h)))
  passes_live {u} x (Second {b = b} {p = p} {q = q} {k = k} f g) h = or_right (decided b u) _ (or_right (live p (behind (live k x) x) u) _ (passes_live (behind (live k x) x) f (passes_live x g h)))
  passes_live {u} x (OutFirst {b = b} {p = p} {q = q} {k = k} {way = way} out f) h = or_right (decided b u) _ (or_left _ (live q (behind (live k x) x) u) (passes_live (behind (live k x) x) f (at_out x (live k x) way u out h)))
  passes_live {u} x (OutSecond {b = b} {p = p} {q = q} {k = k} {way = way} out f) h = or_right (decided b u) _ (or_right (live p (behind (live k x) x) u) _ (passes_live (behind (live k x) x) f (at_out x (live k x) way u out h)))
  passes_live {u} x (Turns {k = k} r f) h = rounds_live (live k x) r (passes_live x f h)

  rounds_live : {u : ℕ} {body step : Actions} (k : VariableSet) → Rounds u body step → k u ≡ true → turn body step k u ≡ true
  rounds_live k (OutOfBody {step = step} p) h = passes_live (ways (live step (ways none k none)) k (live step (ways none k none))) p h
  rounds_live {u} k (OutOfStep {step = step} {way = way} i p q) h =
      passes_live (ways (live step (ways none k none)) k (live step (ways none k none))) p (at_inner (live step (ways none k none)) k way u i (passes_live (ways none k none) q h))
  rounds_live k (Again i j p q r) h = rounds_live k r h

reads_live : {u : ℕ} {code : Actions} (x : LiveWays) → Reads u code → live code x u ≡ true
reads_live x (Here {a = a} {k = k} e) = rw e refl
reads_live {u} x (Later {a = a} {k = k} e n r) = rw (next_after a (live k x) x u e, reads_live x r, n) (or_right (reads a u) true refl)
reads_live x (Decides e) = rw e refl
reads_live {u} x (InFirst {b = b} {q = q} {k = k} r) = or_right (decided b u) _ (or_left _ (live q (behind (live k x) x) u) (reads_live (behind (live k x) x) r))
reads_live {u} x (InSecond {b = b} {p = p} {k = k} r) = or_right (decided b u) _ (or_right (live p (behind (live k x) x) u) _ (reads_live (behind (live k x) x) r))
reads_live {u} x (BehindFirst {b = b} {q = q} {k = k} f r) = or_right (decided b u) _ (or_left _ (live q (behind (live k x) x) u) (passes_live (behind (live k x) x) f (reads_live x r)))
reads_live {u} x (BehindSecond {b = b} {p = p} {k = k} f r) = or_right (decided b u) _ (or_right (live p (behind (live k x) x) u) _ (passes_live (behind (live k x) x) f (reads_live x r)))
reads_live x (InBody {step = step} {k = k} r) = reads_live (ways (live step (ways none (live k x) none)) (live k x) (live step (ways none (live k x) none))) r
reads_live {u} x (InStep {step = step} {k = k} {way = way} i f r) =
    passes_live (ways (live step (ways none (live k x) none)) (live k x) (live step (ways none (live k x) none))) f (at_inner (live step (ways none (live k x) none)) (live k x) way u i (reads_live (ways none (live k x) none) r))
reads_live x (NextTurn i j f g r) = reads_live x r
reads_live x (BehindLoop {k = k} r s) = rounds_live (live k x) r (reads_live x s)

pub path_live : {u : ℕ} {code : Actions} (x : LiveWays) → IsLive u code x → live code x u ≡ true
path_live x (Inside r) = reads_live x r
path_live x (Outside way p h) = passes_live x p h

-- ---- what is live has a path

-- behind an action that goes on
goes_on : {u : ℕ} {k : Actions} {x : LiveWays} (m : Mark) (a : Action) → way_of a ≡ Next → sets a u ≡ false → IsLive u k x → IsLive u (Do m a k) x
goes_on m a e n (Inside r) = Inside (Later e n r)
goes_on m a e n (Outside way p h) = Outside way (Goes e n p) h

acted : {u : ℕ} {k : Actions} {x : LiveWays} (m : Mark) (a : Action) → sets a u ≡ false → after a (live k x) x u ≡ true → (live k x u ≡ true → IsLive u k x) → IsLive u (Do m a k) x
acted m Break n h later = Outside Leaves (Jumps refl tt) h
acted m Continue n h later = Outside Skips (Jumps refl tt) h
acted m (Stop y) n h later = absurd cc
acted m (Return y) n h later = absurd cc
acted m a n h later = goes_on m a refl n (later h)

behind_first : {u : ℕ} {p q k : Actions} {x : LiveWays} (m : Mark) (b : Branch) → Passes u p Next → IsLive u k x → IsLive u (If m b p q k) x
behind_first m b f (Inside r) = Inside (BehindFirst f r)
behind_first m b f (Outside way g h) = Outside way (First f g) h

behind_second : {u : ℕ} {p q k : Actions} {x : LiveWays} (m : Mark) (b : Branch) → Passes u q Next → IsLive u k x → IsLive u (If m b p q k) x
behind_second m b f (Inside r) = Inside (BehindSecond f r)
behind_second m b f (Outside way g h) = Outside way (Second f g) h

in_first : {u : ℕ} {p q k : Actions} {x : LiveWays} (m : Mark) (b : Branch) → IsLive u p (behind (live k x) x) → (live k x u ≡ true → IsLive u k x) → IsLive u (If m b p q k) x
in_first m b (Inside r) later = Inside (InFirst r)
in_first m b (Outside Next f h) later = behind_first m b f (later h)
in_first m b (Outside Leaves f h) later = Outside Leaves (OutFirst tt f) h
in_first m b (Outside Skips f h) later = Outside Skips (OutFirst tt f) h
in_first m b (Outside Returns f h) later = absurd cc

in_second : {u : ℕ} {p q k : Actions} {x : LiveWays} (m : Mark) (b : Branch) → IsLive u q (behind (live k x) x) → (live k x u ≡ true → IsLive u k x) → IsLive u (If m b p q k) x
in_second m b (Inside r) later = Inside (InSecond r)
in_second m b (Outside Next f h) later = behind_second m b f (later h)
in_second m b (Outside Leaves f h) later = Outside Leaves (OutSecond tt f) h
in_second m b (Outside Skips f h) later = Outside Skips (OutSecond tt f) h
in_second m b (Outside Returns f h) later = absurd cc

behind_loop : {u : ℕ} {body step k : Actions} {x : LiveWays} (m : Mark) → Rounds u body step → IsLive u k x → IsLive u (Loop m body step k) x
behind_loop m r (Inside s) = Inside (BehindLoop r s)
behind_loop m r (Outside way g h) = Outside way (Turns r g) h

in_step : {u : ℕ} {body step k : Actions} {x : LiveWays} (m : Mark) (way : Way) → IsInner way → Passes u body way → IsLive u step (ways none (live k x) none) → (live k x u ≡ true → IsLive u k x) → IsLive u (Loop m body step k) x
in_step m way i f (Inside r) later = Inside (InStep i f r)
in_step m way i f (Outside Next g h) later = absurd cc
in_step m way i f (Outside Skips g h) later = absurd cc
in_step m way i f (Outside Leaves g h) later = behind_loop m (OutOfStep i f g) (later h)
in_step m way i f (Outside Returns g h) later = absurd cc

in_body : {u : ℕ} {body step k : Actions} {x : LiveWays} (m : Mark) → IsLive u body (ways (live step (ways none (live k x) none)) (live k x) (live step (ways none (live k x) none))) → (live step (ways none (live k x) none) u ≡ true → IsLive u step (ways none (live k x) none)) → (live k x u ≡ true → IsLive u k x) → IsLive u (Loop m body step k) x
in_body m (Inside r) again later = Inside (InBody r)
in_body m (Outside Next f h) again later = in_step m Next tt f (again h) later
in_body m (Outside Skips f h) again later = in_step m Skips tt f (again h) later
in_body m (Outside Leaves f h) again later = behind_loop m (OutOfBody f) (later h)
in_body m (Outside Returns f h) again later = absurd cc

pub live_path : (code : Actions) (x : LiveWays) (u : ℕ) → live code x u ≡ true → IsLive u code x
live_path Done x u h = Outside Next Ends h
live_path (Do m a k) x u h = elim (or_cases (reads a u) (after a (live k x) x u && not (sets a u)) h) [
  | inl e ↦ Inside (Here e)
  | inr e ↦ (let z = and_not (after a (live k x) x u) (sets a u) e in acted m a z.1 z.0 (live_path k x u))
]
live_path (If m b p q k) x u h = elim (or_cases (decided b u) (live p (behind (live k x) x) u || live q (behind (live k x) x) u) h) [
  | inl e ↦ Inside (Decides e)
  | inr e ↦ elim (or_cases (live p (behind (live k x) x) u) (live q (behind (live k x) x) u) e) [
    | inl e ↦ in_first m b (live_path p (behind (live k x) x) u e) (live_path k x u)
    | inr e ↦ in_second m b (live_path q (behind (live k x) x) u e) (live_path k x u)
  ]
]
live_path (Loop m body step k) x u h =
    in_body m (live_path body (ways (live step (ways none (live k x) none)) (live k x) (live step (ways none (live k x) none))) u h) (live_path step (ways none (live k x) none) u) (live_path k x u)
