-- Bytes: of a word, of a memory, and of texts that lack one.
use Rattle.std.proofs.Common.{◌≡◌, ℕ, zero, suc, ◌/◌, length, refl, ap, Bool, true, not, ◌&&◌, nat_eq, List, [], ◌∷◌, ◌≢◌, ◌<◌, get_or, arith, ◌+◌, ◌^◌, ◌∙◌, ◌++◌, replicate}
use Rattle.std.proofs.lemmas.Bool.Decides.{nat_tests}
use Rattle.std.proofs.lemmas.Bool.{and_parts}
use Rattle.std.specs.Prelude.{slice_index, slice_set}
use Rattle.dae_base.specs.Words.{low_bytes, AreBytes, loaded, written, size, stored}
use Rattle.dae_base.specs.declared.LoadKind.{LoadKind}
use Rattle.dae_base.specs.declared.LoadKind.TheVariants.{I8, U8, I16, U16, I32}
use Rattle.dae_base.specs.declared.Width.{Width}

pub length-low_bytes : (n w : ℕ) → length (low_bytes n w) ≡ n
length-low_bytes zero w = refl
length-low_bytes (suc n) w = ap suc (length-low_bytes n (w / 256))

-- the byte stands nowhere in the text: as a test, and at each place
abbrev pub lacks : ℕ → List ℕ → Bool
lacks c [] = true
lacks c (b ∷ bs) = not (nat_eq b c) && lacks c bs

abbrev pub Lacks : ℕ → List ℕ → Type 0
Lacks c xs = (i : ℕ) → i < length xs → get_or xs i 0 ≢ c

not_this : (x c : ℕ) → not (nat_eq x c) ≡ true → x ≢ c
not_this x c h = grind (arith, nat_tests)

pub lacks_at : (c : ℕ) (xs : List ℕ) → lacks c xs ≡ true → Lacks c xs
lacks_at c [] h i k = absurd (omega arith)
lacks_at c (x ∷ xs) h zero k = not_this x c (and_parts (not (nat_eq x c)) (lacks c xs) h).0
lacks_at c (x ∷ xs) h (suc i) k = lacks_at c xs (and_parts (not (nat_eq x c)) (lacks c xs) h).1 i (omega arith)

pub byte_at : (m : List ℕ) (i : ℕ) → AreBytes m → slice_index m i < 256
byte_at [] i h = omega arith
byte_at (b ∷ m) zero h = h.0
byte_at (b ∷ m) (suc i) h = byte_at m i h.1

pub loads_are_words : (kind : LoadKind) (address : ℕ) (m : List ℕ) → AreBytes m → loaded kind address m < 2 ^ 32
loads_are_words I8 a m h = let b0 = byte_at m a h in grind arith
loads_are_words U8 a m h = let b0 = byte_at m a h in omega arith
loads_are_words I16 a m h = let b0 = byte_at m a h in let b1 = byte_at m (a + 1) h in grind arith
loads_are_words U16 a m h = let b0 = byte_at m a h in let b1 = byte_at m (a + 1) h in omega arith
loads_are_words I32 a m h =
    let b0 = byte_at m a h in
    let b1 = byte_at m (a + 1) h in
    let b2 = byte_at m (a + 1 + 1) h in
    let b3 = byte_at m (a + 1 + 1 + 1) h in
    omega arith

set_bytes : (m : List ℕ) (i b : ℕ) → AreBytes m → b < 256 → AreBytes (slice_set m i b)
set_bytes [] i b h k = tt
set_bytes (c ∷ m) zero b h k = (k, h.1)
set_bytes (c ∷ m) (suc i) b h k = (h.0, set_bytes m i b h.1 k)

written_bytes : (bs : List ℕ) (i : ℕ) (m : List ℕ) → AreBytes bs → AreBytes m → AreBytes (written i bs m)
written_bytes [] i m h k = k
written_bytes (b ∷ bs) i m h k = written_bytes bs (i + 1) (slice_set m i b) h.1 (set_bytes m i b k h.0)

low_bytes_are : (n w : ℕ) → AreBytes (low_bytes n w)
low_bytes_are zero w = tt
low_bytes_are (suc n) w = (omega arith, low_bytes_are n (w / 256))

pub stored_bytes : (width : Width) (address x : ℕ) (m : List ℕ) → AreBytes m → AreBytes (stored width address x m)
stored_bytes width address x m h = written_bytes (low_bytes (size width) x) address m (low_bytes_are (size width) x) h

set_length : (m : List ℕ) (i b : ℕ) → length (slice_set m i b) ≡ length m
set_length [] i b = refl
set_length (c ∷ m) zero b = refl
set_length (c ∷ m) (suc i) b = ap suc (set_length m i b)

pub written_length : (bs : List ℕ) (i : ℕ) (m : List ℕ) → length (written i bs m) ≡ length m
written_length [] i m = refl
written_length (b ∷ bs) i m = written_length bs (i + 1) (slice_set m i b) ∙ set_length m i b

pub stored_length : (width : Width) (address x : ℕ) (m : List ℕ) → length (stored width address x m) ≡ length m
stored_length width address x m = written_length (low_bytes (size width) x) address m

pub bytes-append : (xs ys : List ℕ) → AreBytes xs → AreBytes ys → AreBytes (xs ++ ys)
bytes-append [] ys h k = k
bytes-append (x ∷ xs) ys h k = (h.0, bytes-append xs ys h.1 k)

pub zero_bytes : (n : ℕ) → AreBytes (replicate n 0)
zero_bytes zero = tt
zero_bytes (suc n) = (omega arith, zero_bytes n)
