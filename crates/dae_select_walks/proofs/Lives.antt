-- What is live grows with what is live behind, and each variable by itself. So round a loop one pass finds all.
use Rattle.std.proofs.Common.{◌≡◌, ℕ, Bool, true, false, not, ◌&&◌, ◌||◌, refl, inl, inr}
use Rattle.std.proofs.Math.Path.{fun_ext}
use Rattle.std.proofs.lemmas.Bool.{or_left, or_right, or_cases}
use Rattle.dae_base.proofs.Laws.{same_tests}
use Rattle.dae_ir.specs.Code.{Done, Do, If, Loop}
use Rattle.dae_ir.specs.Classes.{VariableSet}
use Rattle.dae_ir.specs.Streams.{Actions}
use Rattle.dae_ir.specs.declared.stream.Action.{Action}
use Rattle.dae_ir.specs.declared.stream.Action.TheVariants.{Stop, Break, Continue, Return}
use Rattle.dae_select_walks.specs.Live.{none, reads, sets, decided, LiveWays, ways, behind, after, live, turn, step_ways, body_ways, with_all}

or_map : (a b c d : Bool) → (a ≡ true → c ≡ true) → (b ≡ true → d ≡ true) → (a || b) ≡ true → (c || d) ≡ true
or_map true b c d f g h = or_left c d (f refl)
or_map false b c d f g h = or_right c d (g h)

and_map : (a b c : Bool) → (a ≡ true → b ≡ true) → (a && c) ≡ true → (b && c) ≡ true
and_map true b c f h = (let e = f refl in cc)
and_map false b c f h = absurd cc

-- at one variable: what is live behind by the one is so by the other
pub record Within (u : ℕ) (x y : LiveWays) : Type 0 where
  pub next : x.next u ≡ true → y.next u ≡ true
  pub leaves : x.leaves u ≡ true → y.leaves u ≡ true
  pub skips : x.skips u ≡ true → y.skips u ≡ true

after_grows : (a : Action) (u : ℕ) (k k' : VariableSet) (x y : LiveWays) → (k u ≡ true → k' u ≡ true) → Within u x y → after a k x u ≡ true → after a k' y u ≡ true
after_grows Break u k k' x y f w h = w.leaves h
after_grows Continue u k k' x y f w h = w.skips h
after_grows (Stop z) u k k' x y f w h = h
after_grows (Return z) u k k' x y f w h = h
after_grows a u k k' x y f w h = f h

-- the same of what is live before
pub live_grows : (code : Actions) (u : ℕ) (x y : LiveWays) → Within u x y → live code x u ≡ true → live code y u ≡ true
live_grows Done u x y w h = w.next h
live_grows (Do m a k) u x y w h =
    or_map (reads a u) (after a (live k x) x u && not (sets a u)) (reads a u) (after a (live k y) y u && not (sets a u)) (λ e. e)
    (and_map (after a (live k x) x u) (after a (live k y) y u) (not (sets a u)) (after_grows a u (live k x) (live k y) x y (live_grows k u x y w) w)) h
live_grows (If m b p q k) u x y w h =
    let inner : Within u (behind (live k x) x) (behind (live k y) y) = record { next = live_grows k u x y w; leaves = w.leaves; skips = w.skips } in
    or_map (decided b u) _ (decided b u) _ (λ e. e)
    (or_map (live p (behind (live k x) x) u) (live q (behind (live k x) x) u) (live p (behind (live k y) y) u) (live q (behind (live k y) y) u) (live_grows p u _ _ inner) (live_grows q u _ _ inner)) h
live_grows (Loop m body step k) u x y w h =
    let leave = live_grows k u x y w in
    let again : live step (ways none (live k x) none) u ≡ true → live step (ways none (live k y) none) u ≡ true = live_grows step u (ways none (live k x) none) (ways none (live k y) none) (record { next = λ e. e; leaves = leave; skips = λ e. e }) in
    live_grows body u (ways (live step (ways none (live k x) none)) (live k x) (live step (ways none (live k x) none))) (ways (live step (ways none (live k y) none)) (live k y) (live step (ways none (live k y) none))) (record { next = again; leaves = leave; skips = again }) h

-- round the loop nothing more comes in
pub turn_again : (body step : Actions) (k : VariableSet) → live body (body_ways body step k) ≡ turn body step k
turn_again body step k = fun_ext (λ u. same_tests (live body (body_ways body step k) u) (turn body step k u) (found u (turn body step k u) refl) (more u))
  where
    lose : (u : ℕ) → turn body step k u ≡ false → live step (step_ways body step k) u ≡ true → live step (ways none k none) u ≡ true
    lose u e = live_grows step u (step_ways body step k) (ways none k none) (record { next = (λ h. absurd cc); leaves = (λ h. h); skips = (λ h. absurd cc) })

    found : (u : ℕ) (b : Bool) → turn body step k u ≡ b → live body (body_ways body step k) u ≡ true → turn body step k u ≡ true
    found u true e h = e
    found u false e h = live_grows body u (body_ways body step k) (ways (live step (ways none k none)) k (live step (ways none k none))) (record { next = lose u e; leaves = (λ h. h); skips = lose u e }) h

    gain : (u : ℕ) → live step (ways none k none) u ≡ true → live step (step_ways body step k) u ≡ true
    gain u = live_grows step u (ways none k none) (step_ways body step k) (record { next = (λ h. absurd cc); leaves = (λ h. h); skips = (λ h. absurd cc) })

    more : (u : ℕ) → turn body step k u ≡ true → live body (body_ways body step k) u ≡ true
    more u h = live_grows body u (ways (live step (ways none k none)) k (live step (ways none k none))) (body_ways body step k) (record { next = gain u; leaves = (λ h. h); skips = gain u }) h

-- what is live behind a loop comes in where a turn begins, if it is live there at all: besides it what is so with nothing behind
pub turn_adds : (body step : Actions) → ((n : VariableSet) (u : ℕ) → n u ≡ true → turn body step n u ≡ true) → (n : VariableSet) → turn body step n ≡ with_all (turn body step none) n
turn_adds body step stays n = fun_ext (λ u. same_tests (turn body step n u) (turn body step none u || n u) (apart u (n u) refl) (joined u))
  where
    lost : (u : ℕ) → n u ≡ false → live step (ways none n none) u ≡ true → live step (ways none none none) u ≡ true
    lost u e = live_grows step u (ways none n none) (ways none none none) (record { next = (λ h. h); leaves = (λ h. absurd cc); skips = (λ h. h) })

    apart : (u : ℕ) (b : Bool) → n u ≡ b → turn body step n u ≡ true → (turn body step none u || n u) ≡ true
    apart u true e h = or_right (turn body step none u) (n u) e
    apart u false e h =
        or_left (turn body step none u) (n u)
        (live_grows body u (ways (live step (ways none n none)) n (live step (ways none n none))) (ways (live step (ways none none none)) none (live step (ways none none none))) (record { next = lost u e; leaves = (λ h. absurd cc); skips = lost u e }) h)

    gained : (u : ℕ) → live step (ways none none none) u ≡ true → live step (ways none n none) u ≡ true
    gained u = live_grows step u (ways none none none) (ways none n none) (record { next = (λ h. h); leaves = (λ h. absurd cc); skips = (λ h. h) })

    joined : (u : ℕ) → (turn body step none u || n u) ≡ true → turn body step n u ≡ true
    joined u h = elim (or_cases (turn body step none u) (n u) h) [
      | inl e ↦ live_grows body u (ways (live step (ways none none none)) none (live step (ways none none none))) (ways (live step (ways none n none)) n (live step (ways none n none))) (record { next = gained u; leaves = (λ h. absurd cc); skips = gained u }) e
      | inr e ↦ stays n u e
    ]
