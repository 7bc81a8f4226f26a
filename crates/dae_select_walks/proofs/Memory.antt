-- The words of a private memory: a store changes the one that it writes.
use Rattle.std.proofs.Common.{◌≡◌, ◌≢◌, ℕ, ◌+◌, ◌*◌, ◌^◌, ◌<◌, ◌≤◌, Bool, true, false, List, [], ◌∷◌, length, refl, ap, ◌∙◌, arith, get_or-set_same, get_or-set_other, length-set}
use Rattle.std.specs.Prelude.{slice_set, slice_index, nat_eq, if◌then◌else◌}
use Rattle.std.proofs.lemmas.Bool.Decides.{nat_tests}
use Rattle.dae_base.specs.declared.Width.TheVariants.{B4}
use Rattle.dae_base.specs.declared.LoadKind.TheVariants.{I32}
use Rattle.dae_base.specs.Words.{bytes_at, from_bytes, low_bytes, written, loaded, stored}
use Rattle.dae_queues.proofs.LawsOfLists.{loaded_other}

-- what is written from an address on leaves what is below it
below_stays : (bs : List ℕ) (i a : ℕ) (m : List ℕ) → i < a → slice_index (written a bs m) i ≡ slice_index m i
below_stays [] i a m h = refl
below_stays (b ∷ bs) i a m h =
    let ne : i ≢ a = omega arith in
    below_stays bs i (a + 1) (slice_set m a b) (omega arith) ∙ get_or-set_other m a i b 0 ne

pub bytes_same : (bs : List ℕ) (a : ℕ) (m : List ℕ) → a + length bs ≤ length m → bytes_at (length bs) a (written a bs m) ≡ bs
bytes_same [] a m h = refl
bytes_same (b ∷ bs) a m h =
    let here : a < length m = omega arith in
    rw (below_stays bs a (a + 1) (slice_set m a b) (omega arith), get_or-set_same m a b 0 here, bytes_same bs (a + 1) (slice_set m a b) (rw length-set (omega arith))) refl

pub length-written : (bs : List ℕ) (a : ℕ) (m : List ℕ) → length (written a bs m) ≡ length m
length-written [] a m = refl
length-written (b ∷ bs) a m = length-written bs (a + 1) (slice_set m a b) ∙ length-set m a b

pub four_bytes : (w : ℕ) → w < 2 ^ 32 → from_bytes (low_bytes 4 w) ≡ w
four_bytes w h = omega arith

pub word_same : (a w : ℕ) (m : List ℕ) → w < 2 ^ 32 → a + 4 ≤ length m → loaded I32 a (stored B4 a w m) ≡ w
word_same a w m h l = ap from_bytes (bytes_same (low_bytes 4 w) a m l) ∙ four_bytes w h

pub word_other : (i j w : ℕ) (m : List ℕ) → i ≢ j → loaded I32 (4 * i) (stored B4 (4 * j) w m) ≡ loaded I32 (4 * i) m
word_other i j w m h = loaded_other I32 (4 * i) (4 * j) w B4 m (grind (arith, nat_tests))

-- the word i after a store to the word j
pub word_after : (i j w : ℕ) (m : List ℕ) → w < 2 ^ 32 → 4 * j + 4 ≤ length m → loaded I32 (4 * i) (stored B4 (4 * j) w m) ≡ (if nat_eq i j then w else loaded I32 (4 * i) m)
word_after i j w m h l = by (nat_eq i j) refl
  where
    by : (b : Bool) → nat_eq i j ≡ b → loaded I32 (4 * i) (stored B4 (4 * j) w m) ≡ (if b then w else loaded I32 (4 * i) m)
    by true e = let same : i ≡ j = grind (arith, nat_tests) in rw same (word_same (4 * j) w m h l)
    by false e = let other : i ≢ j = grind (arith, nat_tests) in word_other i j w m other
