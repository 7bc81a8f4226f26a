-- A store leaves what a load finds elsewhere.
use Rattle.std.proofs.Common.{◌≡◌, ◌≢◌, ℕ, zero, suc, ◌+◌, ◌<◌, ◌≤◌, ◌⊎◌, inl, inr, false, ◌&&◌, List, [], ◌∷◌, length, refl, ap, ◌∙◌, arith, get_or-set_other}
use Rattle.std.specs.Prelude.{nat_lt, slice_index, slice_set}
use Rattle.std.proofs.lemmas.Bool.Decides.{nat_tests}
use Rattle.dae_base.specs.declared.Width.{Width}
use Rattle.dae_base.specs.declared.LoadKind.{LoadKind}
use Rattle.dae_base.specs.Words.{size, width_of, overlap, bytes_at, from_bytes, low_bytes, written, extended, loaded, stored}
use Rattle.dae_base.proofs.Laws.{length-low_bytes}

-- the address i is not among the written ones
pub index_other : (bs : List ℕ) (i a : ℕ) (m : List ℕ) → (i < a) ⊎ (a + length bs ≤ i) → slice_index (written a bs m) i ≡ slice_index m i
index_other [] i a m h = refl
index_other (b ∷ bs) i a m h =
    let next : (i < a + 1) ⊎ ((a + 1) + length bs ≤ i) = elim h [ inl l ↦ inl (omega arith) | inr l ↦ inr (omega arith) ] in
    let ne : i ≢ a = elim h [ inl l ↦ (omega arith) | inr l ↦ (omega arith) ] in
    index_other bs i (a + 1) (slice_set m a b) next ∙ get_or-set_other m a i b 0 ne

pub bytes_other : (n i a : ℕ) (bs m : List ℕ) → (i + n ≤ a) ⊎ (a + length bs ≤ i) → bytes_at n i (written a bs m) ≡ bytes_at n i m
bytes_other zero i a bs m h = refl
bytes_other (suc n) i a bs m h =
    let here : (i < a) ⊎ (a + length bs ≤ i) = elim h [ inl l ↦ inl (omega arith) | inr l ↦ inr l ] in
    let next : (i + 1 + n ≤ a) ⊎ (a + length bs ≤ i + 1) = elim h [ inl l ↦ inl (omega arith) | inr l ↦ inr (omega arith) ] in
    rw (index_other bs i a m here, bytes_other n (i + 1) a bs m next)

pub apart_from : (x n y k : ℕ) → (nat_lt x (y + k) && nat_lt y (x + n)) ≡ false → (y + k ≤ x) ⊎ (x + n ≤ y)
apart_from x n y k h = grind (arith, nat_tests)

pub loaded_other : (kind : LoadKind) (y x w : ℕ) (wx : Width) (m : List ℕ) → overlap x wx y (width_of kind) ≡ false → loaded kind y (stored wx x w m) ≡ loaded kind y m
loaded_other kind y x w wx m h =
    let far : (y + size (width_of kind) ≤ x) ⊎ (x + length (low_bytes (size wx) w) ≤ y) = rw (length-low_bytes (size wx) w) (apart_from x (size wx) y (size (width_of kind)) h) in
    ap (λ bs. extended kind (from_bytes bs)) (bytes_other (size (width_of kind)) y x (low_bytes (size wx) w) m far)
