-- The slots of a load queue by their places.
use Rattle.std.proofs.Common.{◌≡◌, ℕ, zero, suc, ◌+◌, ◌-◌, ◌<◌, ◌≤◌, Bool, true, false, cond, List, [], ◌∷◌, ◌++◌, map, refl, ap, sym, ◌∙◌, arith}
use Rattle.std.specs.Prelude.{Option, Some, None, is_none, nat_lt, nat_eq, slice_get, slice_set, option_and_then}
use Rattle.std.proofs.lemmas.Bool.Decides.{nat_tests}
use Rattle.dae_queues.specs.declared.Slot.{Slot}
use Rattle.dae_queues.specs.Lists.{is_waiting, waiting, with_value}
use Rattle.dae_queues.specs.Numbers.{CountsUp}
use Rattle.dae_queues.proofs.CountLaws.{numbers_given}
use Rattle.dae_queues.specs.Rings.{unfilled, at_place}

abbrev pub SlotsNumbered : ℕ → List Slot → ℕ → Type 0
SlotsNumbered low ss high = CountsUp low (map (λ (s : Slot). s.number) ss) high

pub none_below : (n low high : ℕ) (ss : List Slot) → SlotsNumbered low ss high → n < low → waiting n ss ≡ None
none_below n low high [] c l = refl
none_below n low high (s ∷ ss) c l =
    let e : s.number ≡ low = c.0 in
    let no : is_waiting n s ≡ false = grind (arith, nat_tests) in
    rw (no, none_below n (low + 1) high ss c.1 (omega arith))

pub waiting_at : (low high k : ℕ) (ss : List Slot) → SlotsNumbered low ss high → waiting (low + k) ss ≡ option_and_then unfilled (slice_get ss k)
waiting_at low high k [] c = refl
waiting_at low high zero (s ∷ ss) c =
    let e : s.number ≡ low = c.0 in
    let same : nat_eq s.number (low + 0) ≡ true = grind (arith, nat_tests) in
    rw (same, none_below (low + 0) (low + 1) high ss c.1 (omega arith))
waiting_at low high (suc k) (s ∷ ss) c =
    let e : s.number ≡ low = c.0 in
    let no : is_waiting (low + suc k) s ≡ false = grind (arith, nat_tests) in
    let shift : low + suc k ≡ (low + 1) + k = omega arith in
    rw no (ap (λ m. waiting m ss) shift ∙ waiting_at (low + 1) high k ss c.1)

pub waiting_is : (n low high : ℕ) (ss : List Slot) → SlotsNumbered low ss high → waiting n ss ≡ at_place ss low n
waiting_is n low high ss c = by (nat_lt n low) refl where
  by : (b : Bool) → nat_lt n low ≡ b → waiting n ss ≡ cond b None (option_and_then unfilled (slice_get ss (n - low)))
  by true h = none_below n low high ss c (grind (arith, nat_tests))
  by false h =
      let l : low ≤ n = grind (arith, nat_tests) in
      let e : low + (n - low) ≡ n = omega arith in
      ap (λ m. waiting m ss) (sym e) ∙ waiting_at low high (n - low) ss c

-- where no slot of the number waits nothing changes, and else one place does
pub given_none : (n w : ℕ) (ss : List Slot) → waiting n ss ≡ None → with_value n w ss ≡ ss
given_none n w [] h = refl
given_none n w (s ∷ ss) h = go (is_waiting n s) refl h (given_none n w ss) where
  go : (b : Bool) → is_waiting n s ≡ b → cond b (Some s) (waiting n ss) ≡ None → (waiting n ss ≡ None → with_value n w ss ≡ ss) → with_value n w (s ∷ ss) ≡ s ∷ ss
  go true e k rest = cc
  go false e k rest = rw (e, rest k)

pub given_at : (low high k w : ℕ) (ss : List Slot) (s : Slot) → SlotsNumbered low ss high → slice_get ss k ≡ Some s → is_none s.value ≡ true → with_value (low + k) w ss ≡ slice_set ss k (record s { value = Some w })
given_at low high k w [] s c g v = cc
given_at low high zero w (z ∷ ss) s c g v =
    let e : z.number ≡ low = c.0 in
    let same : z ≡ s = cc in
    let num : nat_eq z.number (low + 0) ≡ true = grind (arith, nat_tests) in
    let empty : is_none z.value ≡ true = ap (λ (t : Slot). is_none t.value) same ∙ v in
    rw (num, empty, given_none (low + 0) w ss (none_below (low + 0) (low + 1) high ss c.1 (omega arith))) (ap (λ (t : Slot). record t { value = Some w } ∷ ss) same)
given_at low high (suc k) w (z ∷ ss) s c g v =
    let e : z.number ≡ low = c.0 in
    let no : is_waiting (low + suc k) z ≡ false = grind (arith, nat_tests) in
    let shift : low + suc k ≡ (low + 1) + k = omega arith in
    rw no (ap (λ (t : List Slot). z ∷ t) (ap (λ m. with_value m w ss) shift ∙ given_at (low + 1) high k w ss s c.1 g v))

pub numbered_more : (low high : ℕ) (ss : List Slot) (s : Slot) → SlotsNumbered low ss high → s.number ≡ high → SlotsNumbered low (ss ++ s ∷ []) (high + 1)
numbered_more low high [] s c e = (e ∙ sym c, ap (λ n. n + 1) c)
numbered_more low high (z ∷ ss) s c e = (c.0, numbered_more (low + 1) high ss s c.1 e)

pub unfilled_is : (o : Option Slot) (s : Slot) → option_and_then unfilled o ≡ Some s → (o ≡ Some s) × (is_none s.value ≡ true)
unfilled_is None s h = cc
unfilled_is (Some z) s h = go (is_none z.value) refl h where
  go : (b : Bool) → is_none z.value ≡ b → cond b (Some z) None ≡ Some s → (Some z ≡ Some s) × (is_none s.value ≡ true)
  go true e k = let same : z ≡ s = cc in (k, sym (ap (λ (t : Slot). is_none t.value) same) ∙ e)
  go false e k = cc

pub given_is : (n low high w : ℕ) (ss : List Slot) (s : Slot) → SlotsNumbered low ss high → at_place ss low n ≡ Some s → with_value n w ss ≡ slice_set ss (n - low) (record s { value = Some w })
given_is n low high w ss s c h = by (nat_lt n low) refl h where
  by : (b : Bool) → nat_lt n low ≡ b → cond b None (option_and_then unfilled (slice_get ss (n - low))) ≡ Some s → with_value n w ss ≡ slice_set ss (n - low) (record s { value = Some w })
  by true e k = cc
  by false e k =
      let l : low ≤ n = grind (arith, nat_tests) in
      let m : low + (n - low) ≡ n = omega arith in
      let u = unfilled_is (slice_get ss (n - low)) s k in
      ap (λ i. with_value i w ss) (sym m) ∙ given_at low high (n - low) w ss s c u.0 u.1

pub numbered_given : (n low high w : ℕ) (ss : List Slot) → SlotsNumbered low ss high → SlotsNumbered low (with_value n w ss) high
numbered_given n low high w ss c = rw (numbers_given n w ss) c
