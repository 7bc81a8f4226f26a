-- A word is the sum of its upper and its lower part, and the lower part alone where it can be an immediate.
use Rattle.std.proofs.Common.{◌≡◌, ℕ, ◌+◌, ◌-◌, ◌*◌, ◌/◌, ◌%◌, ◌^◌, ◌<◌, Bool, true, false, refl, ◌∙◌, arith, ◌≤◌}
use Rattle.std.specs.Prelude.{suc, pos, negsuc, nat_lt, if◌then◌else◌}
use Rattle.std.specs.Int.{w32}
use Rattle.std.proofs.lemmas.Int.{of_z-to_z}
use Rattle.std.proofs.lemmas.Bool.Decides.{nat_tests}
use Rattle.dae_base.specs.Words.{plus, word, signed}
use Rattle.dae_select_blocks.specs.Blocks.{upper, lower, is_immediate, near_offset}

pub word_upper : (w : ℕ) → word (upper w) ≡ (w + 2 ^ 11) / 2 ^ 12 * 2 ^ 12 % 2 ^ 32
unfolding upper
word_upper w = of_z-to_z w32 ((w + 2 ^ 11) / 2 ^ 12 * 2 ^ 12 % 2 ^ 32) (omega arith)

pub word_whole : (w : ℕ) → w < 2 ^ 32 → w % 2 ^ 12 ≡ 0 → word (upper w) ≡ w
word_whole w h whole = word_upper w ∙ (omega arith)

lower_by : (n : ℕ) → n < 2 ^ 12 → (b : Bool) → word (if b then pos n else negsuc (2 ^ 12 - 1 - n)) ≡ (if b then n else 2 ^ 32 - 2 ^ 12 + n)
lower_by n h true = refl
lower_by n h false = omega arith

pub word_lower : (w : ℕ) → word (lower w) ≡ (if nat_lt (w % 2 ^ 12) (2 ^ 11) then w % 2 ^ 12 else 2 ^ 32 - 2 ^ 12 + w % 2 ^ 12)
unfolding lower
word_lower w = lower_by (w % 2 ^ 12) (omega arith) (nat_lt (w % 2 ^ 12) (2 ^ 11))

sum_by : (w : ℕ) → w < 2 ^ 32 → (b : Bool) → nat_lt (w % 2 ^ 12) (2 ^ 11) ≡ b → plus ((w + 2 ^ 11) / 2 ^ 12 * 2 ^ 12 % 2 ^ 32) (if b then w % 2 ^ 12 else 2 ^ 32 - 2 ^ 12 + w % 2 ^ 12) ≡ w
sum_by w h true t = grind (arith, nat_tests)
sum_by w h false t = grind (arith, nat_tests)

-- LUI and the immediate after it make the word
pub halves : (w : ℕ) → w < 2 ^ 32 → plus (word (upper w)) (word (lower w)) ≡ w
halves w h = rw (word_upper w, word_lower w) (sum_by w h (nat_lt (w % 2 ^ 12) (2 ^ 11)) refl)

-- the same, with something added between the two
pub halves_to : (w x : ℕ) → w < 2 ^ 32 → plus (plus (word (upper w)) x) (word (lower w)) ≡ plus x w
halves_to w x h = (let e = halves w h in let f : plus (plus (word (upper w)) x) (word (lower w)) ≡ plus x (plus (word (upper w)) (word (lower w))) = omega arith in rw e at f)

-- ---- immediates

immediate_by : (n : ℕ) → n < 2 ^ 32 → nat_lt ((n + 2 ^ 11) % 2 ^ 32) (2 ^ 12) ≡ true → (b : Bool) → nat_lt (n % 2 ^ 12) (2 ^ 11) ≡ b → (if b then n % 2 ^ 12 else 2 ^ 32 - 2 ^ 12 + n % 2 ^ 12) ≡ n
immediate_by n h e true t = grind (arith, nat_tests)
immediate_by n h e false t = grind (arith, nat_tests)

-- the word of an immediate is its number
pub immediate_word : (n : ℕ) → n < 2 ^ 32 → is_immediate n ≡ true → word (lower n) ≡ n
unfolding is_immediate
immediate_word n h e = rw (word_lower n) (immediate_by n h e (nat_lt (n % 2 ^ 12) (2 ^ 11)) refl)

signed_by : (n : ℕ) → n < 2 ^ 32 → nat_lt ((n + 2 ^ 11) % 2 ^ 32) (2 ^ 12) ≡ true → (b : Bool) → nat_lt (n % 2 ^ 12) (2 ^ 11) ≡ b → (if b then pos (n % 2 ^ 12) else negsuc (2 ^ 12 - 1 - n % 2 ^ 12)) ≡ signed n
signed_by n h e true t =
    let low : n < 2 ^ 31 = grind (arith, nat_tests) in
    let same : n % 2 ^ 12 ≡ n = grind (arith, nat_tests) in
    let is : nat_lt n (2 ^ 31) ≡ true = grind (arith, nat_tests) in
    rw (is, same) refl
signed_by n h e false t =
    let is : nat_lt n (2 ^ 31) ≡ false = grind (arith, nat_tests) in
    let same : 2 ^ 12 - 1 - n % 2 ^ 12 ≡ 2 ^ 32 - suc n = grind (arith, nat_tests) in
    rw (is, same) refl

-- and the immediate is its signed number
pub immediate_signed : (n : ℕ) → n < 2 ^ 32 → is_immediate n ≡ true → lower n ≡ signed n
unfolding is_immediate lower
immediate_signed n h e = signed_by n h e (nat_lt (n % 2 ^ 12) (2 ^ 11)) refl

-- ---- near offsets

near_by : (n : ℕ) → n < 2 ^ 21 → (b : Bool) → word (if b then pos n else negsuc (2 ^ 21 - 1 - n)) ≡ (if b then n else 2 ^ 32 - 2 ^ 21 + n)
near_by n h true = refl
near_by n h false = omega arith

word_near : (w : ℕ) → word (near_offset w) ≡ (if nat_lt (w % 2 ^ 21) (2 ^ 20) then w % 2 ^ 21 else 2 ^ 32 - 2 ^ 21 + w % 2 ^ 21)
unfolding near_offset
word_near w = near_by (w % 2 ^ 21) (omega arith) (nat_lt (w % 2 ^ 21) (2 ^ 20))

ahead_by : (n : ℕ) → n < 2 ^ 18 → (b : Bool) → nat_lt (4 * n % 2 ^ 21) (2 ^ 20) ≡ b → (if b then 4 * n % 2 ^ 21 else 2 ^ 32 - 2 ^ 21 + 4 * n % 2 ^ 21) ≡ 4 * n
ahead_by n h true e = omega arith
ahead_by n h false e = grind (arith, nat_tests)

-- so many words ahead
pub near_ahead : (n : ℕ) → n < 2 ^ 18 → word (near_offset (4 * n)) ≡ 4 * n
near_ahead n h = word_near (4 * n) ∙ ahead_by n h (nat_lt (4 * n % 2 ^ 21) (2 ^ 20)) refl

behind_by : (n w : ℕ) → n ≤ 2 ^ 18 → w ≡ (2 ^ 32 - 4 * n % 2 ^ 32) % 2 ^ 32 → (b : Bool) → nat_lt (w % 2 ^ 21) (2 ^ 20) ≡ b → (if b then w % 2 ^ 21 else 2 ^ 32 - 2 ^ 21 + w % 2 ^ 21) ≡ w
behind_by n w h is true e = grind (arith, nat_tests)
behind_by n w h is false e = grind (arith, nat_tests)

-- so many words back
pub near_back : (n : ℕ) → n ≤ 2 ^ 18 → word (near_offset ((2 ^ 32 - 4 * n % 2 ^ 32) % 2 ^ 32)) ≡ (2 ^ 32 - 4 * n % 2 ^ 32) % 2 ^ 32
near_back n h =
    let w : ℕ = (2 ^ 32 - 4 * n % 2 ^ 32) % 2 ^ 32 in
    word_near w ∙ behind_by n w h refl (nat_lt (w % 2 ^ 21) (2 ^ 20)) refl
