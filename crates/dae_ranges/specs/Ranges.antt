-- Sets of words that a checker keeps in place of one word: every so many words from a least to a greatest one.
use Rattle.std.specs.Prelude.{◌≡◌, ℕ, zero, suc, ◌+◌, ◌-◌, ◌*◌, ◌/◌, ◌%◌, ◌^◌, ◌<◌, ◌≤◌, Bool, true, false, not, ◌&&◌, nat_lt, nat_le, nat_eq, ◌==◌, min, if◌then◌else◌, Option, Some, None}
use Rattle.dae_ranges.specs.declared.Range.{Range}
use Rattle.dae_base.specs.declared.Width.{Width}
use Rattle.dae_base.specs.declared.LoadKind.{LoadKind}
use Rattle.dae_base.specs.declared.LoadKind.TheVariants.{I8, U8, I16, U16, I32}
use Rattle.dae_base.specs.Words.{size}

abbrev pub single : ℕ → Range
single n = record { lo = n; step = 1; count = 0 }

abbrev pub any_word : Range
any_word = record { lo = 0; step = 1; count = 2 ^ 32 - 1 }

abbrev pub highest : Range → ℕ
highest r = r.lo + r.count * r.step

abbrev pub is_single : Range → Bool
is_single r = nat_eq r.count 0

-- the word is one of them
pub record Has (r : Range) (w : ℕ) : Type 0 where
  pub at : ℕ
  pub fits : at ≤ r.count
  pub is : w ≡ r.lo + at * r.step
  pub small : w < 2 ^ 32

-- the same as a test
abbrev pub has : Range → ℕ → Bool
has r w = nat_le r.lo w && (nat_eq ((w - r.lo) % r.step) 0 && nat_le ((w - r.lo) / r.step) r.count)

-- ---- what holds of all words of a range

unfoldable pub all_from : (ℕ → Bool) → ℕ → ℕ → ℕ → Bool
all_from test lo step zero = test lo
all_from test lo step (suc n) = test lo && all_from test (lo + step) step n

abbrev pub each : (ℕ → Bool) → Range → Bool
each test r = all_from test r.lo r.step r.count

-- each word of the one is one of the other
abbrev pub within : Range → Range → Bool
within outer r = each (has outer) r

-- whether a test holds for all words of two ranges, for none, or else None
abbrev pub decided : (ℕ → ℕ → Bool) → Range → Range → Option Bool
decided test x y =
    if each (λ v. each (test v) y) x then Some true
    else (if each (λ v. each (λ w. not (test v w)) y) x then Some false else None)

-- ---- ranges that move

-- each word moved up by a number, where no end leaves the words
abbrev pub raised : ℕ → Range → Option Range
raised n r = if nat_lt (highest r + n) (2 ^ 32) then Some (record r { lo = r.lo + n }) else None

abbrev pub lowered : ℕ → Range → Option Range
lowered n r = if nat_le n r.lo then Some (record r { lo = r.lo - n }) else None

-- moved by a word that stands for a signed number
abbrev pub shifted : ℕ → Range → Option Range
shifted offset r = if nat_lt offset (2 ^ 31) then raised offset r else lowered (2 ^ 32 - offset) r

-- each word times a number, where the greatest stays a word
abbrev pub scaled : ℕ → Range → Option Range
scaled n r =
    if nat_lt (highest r * n) (2 ^ 32)
    then Some (record { lo = r.lo * n; step = r.step * n; count = r.count }) else None

-- ---- parts of ranges

-- the words below a number, where the least is
abbrev pub below : ℕ → Range → Range
below n r = record r { count = min r.count ((n - 1 - r.lo) / r.step) }

-- how many words are below a number
abbrev pub skipped : ℕ → Range → ℕ
skipped n r = (n - r.lo + (r.step - 1)) / r.step

-- the words from a number on
abbrev pub from : ℕ → Range → Range
from n r = record { lo = r.lo + skipped n r * r.step; step = r.step; count = r.count - skipped n r }

-- ---- bytes

-- an address that is a multiple of n, and whose n bytes lie from low to just below high
abbrev pub fits_at : ℕ → ℕ → ℕ → ℕ → Bool
fits_at low high n w = w % n == 0 && (nat_le low w && nat_le (w + n) high)

-- the bytes from the least address on to the last byte at the greatest
abbrev pub meet : Range → Width → Range → Width → Bool
meet x wx y wy = nat_lt x.lo (highest y + size wy) && nat_lt y.lo (highest x + size wx)

-- what a load of this kind gives
abbrev pub loaded_range : LoadKind → Range
loaded_range U8 = record { lo = 0; step = 1; count = 255 }
loaded_range U16 = record { lo = 0; step = 1; count = 65535 }
loaded_range I8 = any_word
loaded_range I16 = any_word
loaded_range I32 = any_word

-- ---- two ranges

-- some word of the one is a word of the other
abbrev pub shares : Range → Range → Bool
shares x y = not (each (λ v. not (has y v)) x)
