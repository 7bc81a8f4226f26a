-- Steps of loops over words.
use Rattle.std.proofs.Common.{◌≡◌, ℕ, ◌+◌, Bool, true, false, cond, arith}

pub stops_here : (b : Bool) (k n all : ℕ) → b ≡ false → k + cond b (1 + n) 0 ≡ all → k ≡ all
stops_here true k n all e h = absurd (cc)
stops_here false k n all e h = omega (arith, h)

pub goes_on : (b : Bool) (k n all : ℕ) → b ≡ true → k + cond b (1 + n) 0 ≡ all → (k + 1) + n ≡ all
goes_on true k n all e h = omega (arith, h)
goes_on false k n all e h = absurd (cc)
