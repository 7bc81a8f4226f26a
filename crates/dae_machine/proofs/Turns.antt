-- A word selects an enabled pick, exactly where there is one.
use Rattle.std.proofs.Common.{◌≡◌, ℕ, zero, suc, ◌+◌, ◌-◌, ◌%◌, ◌/◌, ◌<◌, ◌≤◌, Bool, true, false, cond, not, List, [], ◌∷◌, ◌++◌, length, map, refl, ap, sym, ◌∙◌, subst, arith}
use Rattle.std.specs.Prelude.{Option, Some, None, IfSome, IsSome, is_some, is_none, nat_eq, ◌==◌, if◌then◌else◌, filter, slice_get}
use Rattle.std.specs.List.{AllByRecursion, list_any}
use Rattle.std.proofs.lemmas.Nat.{mod_below}
use Rattle.std.proofs.lemmas.Option.{slice_get-get_or}
use Rattle.std.proofs.lemmas.Bool.Decides.{nat_tests}
use Rattle.std.proofs.lemmas.List.{length-append, nil_from_length}
use Rattle.std.proofs.lemmas.Bool.{and_parts, not-true}
use Rattle.dae_base.proofs.Laws.{some_map, all_at}
use Rattle.dae_base.specs.declared.Side.{Side}
use Rattle.dae_base.specs.declared.Side.TheVariants.{A, E}
use Rattle.dae_queues.specs.declared.Slot.{Slot}
use Rattle.dae_queues.specs.declared.StoreAt.{StoreAt}
use Rattle.dae_queues.specs.Lists.{bars, can_be_filled, filling_of, is_waiting, waiting, with_value}
use Rattle.dae_queues.specs.Numbers.{CountsUp}
use Rattle.dae_core.specs.Queues.{loads_of, with_loads_of}
use Rattle.dae_machine.specs.declared.Pick.{Pick}
use Rattle.dae_machine.specs.declared.Pick.TheVariants.{A as MoveA, E as MoveE, Fill, Drain}
use Rattle.dae_machine.specs.Memory.{fill, filling}
use Rattle.dae_machine.specs.Machine.{Setup, State, filled, step, IsCounted, IsQuiet}
use Rattle.dae_machine.specs.Turns.{alone, chosen, fills_of, is_enabled, kind_at, kind_of, or_next, pick_of}

-- ---- choosing from a list

chosen_some : (n : ℕ) (p : Pick) (ps : List Pick) → (q : Pick) × (chosen n (p ∷ ps) ≡ Some q)
chosen_some n p ps = let below = mod_below n (length (p ∷ ps)) (omega arith) in (_, slice_get-get_or (p ∷ ps) (n % length (p ∷ ps)) p below)

-- the first one
pub chosen_first : (ps : List Pick) → chosen 0 ps ≡ slice_get ps 0
chosen_first [] = refl
chosen_first (p ∷ ps) = let z : 0 % length (p ∷ ps) ≡ 0 = omega arith in ap (slice_get (p ∷ ps)) z

pub first_left : (ps qs : List Pick) (p : Pick) → slice_get ps 0 ≡ Some p → slice_get (ps ++ qs) 0 ≡ Some p
first_left [] qs p h = cc
first_left (q ∷ ps) qs p h = h

pub first_right : (ps qs : List Pick) → slice_get ps 0 ≡ None → slice_get (ps ++ qs) 0 ≡ slice_get qs 0
first_right [] qs h = refl
first_right (q ∷ ps) qs h = cc

-- where no slot may be filled no fill is chosen
pub chosen_of_none : (n : ℕ) (s : State) → filter (can_be_filled s.queues.stores.sa) s.queues.al.slots ≡ [] → filter (can_be_filled s.queues.stores.sa) s.queues.ld.slots ≡ [] → chosen n (fills_of A s ++ fills_of E s) ≡ None
chosen_of_none n s a e = rw (a, e) refl

pub chosen_none : (n : ℕ) (ps : List Pick) → chosen n ps ≡ None → ps ≡ []
chosen_none n [] h = refl
chosen_none n (p ∷ ps) h = let some = chosen_some n p ps in absurd (cc (h, some.1))

pub chosen_alone : (n : ℕ) (b : Bool) (p : Pick) → chosen n (if b then p ∷ [] else []) ≡ (if b then Some p else None)
chosen_alone n false p = refl
chosen_alone n true p = let z : n % 1 ≡ 0 = omega arith in ap (slice_get (p ∷ [])) z

all_chosen : (P : Pick → Type 0) (n : ℕ) (ps : List Pick) (p : Pick) → AllByRecursion P ps → chosen n ps ≡ Some p → P p
all_chosen P n [] p h g = cc
all_chosen P n (q ∷ ps) p h g = all_at P (q ∷ ps) (n % length (q ∷ ps)) p h g

all_or : (P : Pick → Type 0) (ps qs : List Pick) → AllByRecursion P ps → AllByRecursion P qs → AllByRecursion P (or_next ps qs)
all_or P [] qs h k = k
all_or P (p ∷ ps) qs h k = h

all_append : (P : Pick → Type 0) (ps qs : List Pick) → AllByRecursion P ps → AllByRecursion P qs → AllByRecursion P (ps ++ qs)
all_append P [] qs h k = k
all_append P (p ∷ ps) qs h k = (h.0, all_append P ps qs h.1 k)

pub get_left : {X : Type 0} (xs ys : List X) (i : ℕ) → i < length xs → slice_get (xs ++ ys) i ≡ slice_get xs i
get_left [] ys i h = absurd (omega arith)
get_left (x ∷ xs) ys zero h = refl
get_left (x ∷ xs) ys (suc i) h = get_left xs ys i (omega arith)

pub get_right : {X : Type 0} (xs ys : List X) (i j : ℕ) → j ≡ length xs + i → slice_get (xs ++ ys) j ≡ slice_get ys i
get_right [] ys i j h = ap (slice_get ys) (omega (arith, h))
get_right (x ∷ xs) ys i zero h = absurd (omega arith)
get_right (x ∷ xs) ys i (suc j) h = get_right xs ys i j (omega arith)

-- ---- the slots that may be filled

abbrev fillable : List StoreAt → List Slot → List ℕ → Slot → Type 0
fillable sa ss memory slot = is_some (filling_of sa slot.number ss memory) ≡ true

fill_found : (sa : List StoreAt) (ss : List Slot) (memory : List ℕ) (slot : Slot) → waiting slot.number ss ≡ Some slot → list_any (bars slot) sa ≡ false → fillable sa ss memory slot
fill_found sa ss memory slot found free = rw (found, free)

pub number_skips : (n low : ℕ) (z : Slot) → z.number ≡ low → low + 1 ≤ n → is_waiting n z ≡ false
number_skips n low z e h = grind (arith, nat_tests)

waits_here : (z : Slot) → is_none z.value ≡ true → is_waiting z.number z ≡ true
waits_here z h = grind (arith, nat_tests)

all_fillable_by : (sa : List StoreAt) (whole ss : List Slot) (memory : List ℕ) (z : Slot) → waiting z.number whole ≡ waiting z.number (z ∷ ss) → AllByRecursion (fillable sa whole memory) (filter (can_be_filled sa) ss) → (b : Bool) → can_be_filled sa z ≡ b → AllByRecursion (fillable sa whole memory) (cond b (z ∷ filter (can_be_filled sa) ss) (filter (can_be_filled sa) ss))
all_fillable_by sa whole ss memory z same later false h = later
all_fillable_by sa whole ss memory z same later true h =
    let parts = and_parts (is_none z.value) (not (list_any (bars z) sa)) h in
    let found : waiting z.number whole ≡ Some z = same ∙ rw (waits_here z parts.0) in
    (fill_found sa whole memory z found (not-true (list_any (bars z) sa) parts.1), later)

all_fillable : (sa : List StoreAt) (whole ss : List Slot) (memory : List ℕ) (low high : ℕ) → CountsUp low (map (λ (s : Slot). s.number) ss) high → ((n : ℕ) → low ≤ n → waiting n whole ≡ waiting n ss) → AllByRecursion (fillable sa whole memory) (filter (can_be_filled sa) ss)
all_fillable sa whole [] memory low high c same = tt
all_fillable sa whole (z ∷ ss) memory low high c same =
    let here : z.number ≡ low = c.0 in
    let later = all_fillable sa whole ss memory (low + 1) high c.1 (λ n h. same n (omega arith) ∙ rw (number_skips n low z here h)) in
    all_fillable_by sa whole ss memory z (same z.number (omega (arith, here))) later (can_be_filled sa z) refl

none_fillable_by : (sa : List StoreAt) (ss : List Slot) (memory : List ℕ) (n : ℕ) (z : Slot) (w b : Bool) → is_waiting n z ≡ w → can_be_filled sa z ≡ b → cond b (z ∷ filter (can_be_filled sa) ss) (filter (can_be_filled sa) ss) ≡ [] → (filter (can_be_filled sa) ss ≡ [] → filling_of sa n ss memory ≡ None) → filling_of sa n (z ∷ ss) memory ≡ None
none_fillable_by sa ss memory n z w true f e h later = cc
none_fillable_by sa ss memory n z true false f e h later =
    let waits : is_none z.value ≡ true = (and_parts (nat_eq z.number n) (is_none z.value) f).1 in
    let barred : not (list_any (bars z) sa) ≡ false = rw waits at e in
    rw (f, barred)
none_fillable_by sa ss memory n z false false f e h later = rw f (later h)

none_fillable : (sa : List StoreAt) (ss : List Slot) (memory : List ℕ) (n : ℕ) → filter (can_be_filled sa) ss ≡ [] → filling_of sa n ss memory ≡ None
none_fillable sa [] memory n h = refl
none_fillable sa (z ∷ ss) memory n h = none_fillable_by sa ss memory n z (is_waiting n z) (can_be_filled sa z) refl refl h (none_fillable sa ss memory n)

-- ---- the enabled picks of a kind

fill_is_enabled : (setup : Setup) (s : State) (side : Side) (n : ℕ) → is_enabled setup s (Fill side n) ≡ is_some (filling side n s.queues s.memory)
fill_is_enabled setup s side n =
    some_map (filled s) (fill side n s.queues s.memory)
    ∙ some_map (λ (w : ℕ). with_loads_of side (with_value n w (loads_of side s.queues).slots) s.queues) (filling side n s.queues s.memory)

module _ (setup : Setup) (s : State) where
  abbrev goes : Pick → Type 0
  goes p = is_enabled setup s p ≡ true

  all_if : (b : Bool) (ps qs : List Pick) → AllByRecursion goes ps → AllByRecursion goes qs → AllByRecursion goes (if b then ps else qs)
  all_if true ps qs h k = h
  all_if false ps qs h k = k

  all_alone_by : (p : Pick) (b : Bool) → is_enabled setup s p ≡ b → AllByRecursion goes (if b then p ∷ [] else [])
  all_alone_by p true h = (h, tt)
  all_alone_by p false h = tt

  all_alone : (p : Pick) → AllByRecursion goes (alone setup s p)
  all_alone p = all_alone_by p (is_enabled setup s p) refl

  all_mapped : (side : Side) (ss : List Slot) → AllByRecursion (fillable s.queues.stores.sa (loads_of side s.queues).slots s.memory) ss → AllByRecursion goes (map (λ (slot : Slot). Fill side slot.number) ss)
  all_mapped side [] h = tt
  all_mapped side (z ∷ ss) h = (fill_is_enabled setup s side z.number ∙ h.0, all_mapped side ss h.1)

  all_fills : IsCounted s → (side : Side) → AllByRecursion goes (fills_of side s)
  all_fills c A = all_mapped A _ (all_fillable s.queues.stores.sa s.queues.al.slots s.queues.al.slots s.memory s.queues.al.taken s.queues.al.reserved c.al.numbers (λ n h. refl))
  all_fills c E = all_mapped E _ (all_fillable s.queues.stores.sa s.queues.ld.slots s.queues.ld.slots s.memory s.queues.ld.taken s.queues.ld.reserved c.ld.numbers (λ n h. refl))

  all_kind : IsCounted s → (place : ℕ) → AllByRecursion goes (kind_at setup s place)
  all_kind c place =
      all_if (place % 4 == 0) _ _ (all_alone MoveA)
      (all_if (place % 4 == 1) _ _ (all_alone MoveE)
      (all_if (place % 4 == 2) _ _ (all_append goes (fills_of A s) (fills_of E s) (all_fills c A) (all_fills c E)) (all_alone Drain)))

  -- the pick that a word selects is enabled
  pub picked_goes : IsCounted s → (word : ℕ) (p : Pick) → pick_of setup s word ≡ Some p → is_enabled setup s p ≡ true
  picked_goes c word p h =
      all_chosen goes (word / 4) (kind_of setup s word) p
      (all_or goes (kind_at setup s word) _ (all_kind c word)
      (all_or goes (kind_at setup s (word + 1)) _ (all_kind c (word + 1))
      (all_or goes (kind_at setup s (word + 2)) (kind_at setup s (word + 3)) (all_kind c (word + 2)) (all_kind c (word + 3)))))
      h

  -- ---- where no pick is selected

  none_is : {X : Type 0} (o : Option X) → is_some o ≡ false → o ≡ None
  none_is None h = refl
  none_is (Some x) h = cc

  alone_none_by : (p : Pick) (b : Bool) → is_enabled setup s p ≡ b → (if b then p ∷ [] else []) ≡ [] → step setup s p ≡ None
  alone_none_by p true h k = cc
  alone_none_by p false h k = none_is (step setup s p) h

  alone_none : (p : Pick) → alone setup s p ≡ [] → step setup s p ≡ None
  alone_none p h = alone_none_by p (is_enabled setup s p) refl h

  map_none : {X Y : Type 0} (f : X → Y) (xs : List X) → map f xs ≡ [] → xs ≡ []
  map_none f [] h = refl
  map_none f (x ∷ xs) h = cc

  fills_none : (side : Side) (n : ℕ) → fills_of side s ≡ [] → step setup s (Fill side n) ≡ None
  fills_none side n h =
      let none = map_none (λ (slot : Slot). Fill side slot.number) (filter (can_be_filled s.queues.stores.sa) (loads_of side s.queues).slots) h in
      let e = none_fillable s.queues.stores.sa (loads_of side s.queues).slots s.memory n none in
      none_is (step setup s (Fill side n)) (fill_is_enabled setup s side n ∙ ap is_some e)

  append_none : (ps qs : List Pick) → ps ++ qs ≡ [] → (ps ≡ []) × (qs ≡ [])
  append_none [] qs h = (refl, h)
  append_none (p ∷ ps) qs h = cc

  or_none : (ps qs : List Pick) → or_next ps qs ≡ [] → (ps ≡ []) × (qs ≡ [])
  or_none [] qs h = (refl, h)
  or_none (p ∷ ps) qs h = cc

  -- a kind by its number in the cycle
  abbrev kind_by : ℕ → List Pick
  kind_by r = if r == 0 then alone setup s MoveA else (if r == 1 then alone setup s MoveE else (if r == 2 then fills_of A s ++ fills_of E s else alone setup s Drain))

  at_four : (P : ℕ → Type 0) → P 0 → P 1 → P 2 → P 3 → (i : ℕ) → i < 4 → P i
  at_four P a b c d zero h = a
  at_four P a b c d (suc zero) h = b
  at_four P a b c d (suc (suc zero)) h = c
  at_four P a b c d (suc (suc (suc zero))) h = d
  at_four P a b c d (suc (suc (suc (suc i)))) h = absurd (omega arith)

  kind_none : (word : ℕ) → kind_of setup s word ≡ [] → (r : ℕ) → r < 4 → kind_by r ≡ []
  kind_none word h r below =
      let first = or_none (kind_at setup s word) _ h in
      let second = or_none (kind_at setup s (word + 1)) _ first.1 in
      let third = or_none (kind_at setup s (word + 2)) (kind_at setup s (word + 3)) second.1 in
      let same : word ≡ word + 0 = omega arith in
      let zeroth : kind_by ((word + 0) % 4) ≡ [] = subst (λ (n : ℕ). kind_by (n % 4) ≡ []) same first.0 in
      let i : ℕ = (r + 4 - word % 4) % 4 in
      let found = at_four (λ (i : ℕ). kind_by ((word + i) % 4) ≡ []) zeroth second.0 third.0 third.1 i (omega arith) in
      let back : (word + i) % 4 ≡ r = omega arith in
      subst (λ (n : ℕ). kind_by n ≡ []) back found

  pub quiet_where_none : (word : ℕ) → pick_of setup s word ≡ None → IsQuiet setup s
  quiet_where_none word h = by where
    none : kind_of setup s word ≡ []
    none = chosen_none (word / 4) (kind_of setup s word) h

    by : (p : Pick) → step setup s p ≡ None
    by MoveA = alone_none MoveA (kind_none word none 0 (omega arith))
    by MoveE = alone_none MoveE (kind_none word none 1 (omega arith))
    by (Fill A n) = fills_none A n (append_none (fills_of A s) (fills_of E s) (kind_none word none 2 (omega arith))).0
    by (Fill E n) = fills_none E n (append_none (fills_of A s) (fills_of E s) (kind_none word none 2 (omega arith))).1
    by Drain = alone_none Drain (kind_none word none 3 (omega arith))

  -- ---- a word's pick, kind by kind

  abbrev pub or_first : Option Pick → Option Pick → Option Pick
  or_first None o = o
  or_first (Some p) o = Some p

  chosen_or : (n : ℕ) (ps qs : List Pick) → chosen n (or_next ps qs) ≡ or_first (chosen n ps) (chosen n qs)
  chosen_or n [] qs = refl
  chosen_or n (p ∷ ps) qs = let some = chosen_some n p ps in rw some.1

  kind_place : (word i : ℕ) → kind_at setup s (word % 4 + i) ≡ kind_at setup s (word + i)
  kind_place word i = let e : (word % 4 + i) % 4 ≡ (word + i) % 4 = omega arith in ap kind_by e

  kind_start : (word : ℕ) → kind_at setup s (word % 4) ≡ kind_at setup s word
  kind_start word = let e : word % 4 % 4 ≡ word % 4 = omega arith in ap kind_by e

  pub pick_by : (word : ℕ) → pick_of setup s word ≡ or_first (chosen (word / 4) (kind_at setup s (word % 4))) (or_first (chosen (word / 4) (kind_at setup s (word % 4 + 1))) (or_first (chosen (word / 4) (kind_at setup s (word % 4 + 2))) (chosen (word / 4) (kind_at setup s (word % 4 + 3)))))
  pick_by word =
      rw (kind_start word, kind_place word 1, kind_place word 2, kind_place word 3)
      (chosen_or (word / 4) (kind_at setup s word) _
      ∙ ap (or_first (chosen (word / 4) (kind_at setup s word))) (chosen_or (word / 4) (kind_at setup s (word + 1)) _
      ∙ ap (or_first (chosen (word / 4) (kind_at setup s (word + 1)))) (chosen_or (word / 4) (kind_at setup s (word + 2)) (kind_at setup s (word + 3)))))

-- ---- a pick of two lists, by its number

chosen_in : (n : ℕ) (ps : List Pick) (l : ℕ) → l ≡ length ps → 0 < l → chosen n ps ≡ slice_get ps (n % l)
chosen_in n [] l e h = absurd (omega (arith, e, h))
chosen_in n (p ∷ ps) l e h = ap (λ (k : ℕ). slice_get (p ∷ ps) (n % k)) (sym e)

lengths : (ps qs : List Pick) (a e : ℕ) → a ≡ length ps → e ≡ length qs → a + e ≡ length (ps ++ qs)
lengths ps qs a e h k = rw (h, k) (sym (length-append ps qs))

pub chosen_neither : (n : ℕ) (ps qs : List Pick) (a e : ℕ) → a ≡ length ps → e ≡ length qs → a + e ≡ 0 → chosen n (ps ++ qs) ≡ None
chosen_neither n ps qs a e h k none = ap (chosen n) (nil_from_length (ps ++ qs) (sym (lengths ps qs a e h k) ∙ none))

pub chosen_left : (n : ℕ) (ps qs : List Pick) (a e : ℕ) → a ≡ length ps → e ≡ length qs → n % (a + e) < a → chosen n (ps ++ qs) ≡ slice_get ps (n % (a + e))
chosen_left n ps qs a e h k below = chosen_in n (ps ++ qs) (a + e) (lengths ps qs a e h k) (omega (arith, below)) ∙ get_left ps qs (n % (a + e)) (rw (← h) below)

pub chosen_right : (n : ℕ) (ps qs : List Pick) (a e : ℕ) → a ≡ length ps → e ≡ length qs → 0 < a + e → a ≤ n % (a + e) → chosen n (ps ++ qs) ≡ slice_get qs (n % (a + e) - a)
chosen_right n ps qs a e h k some above = chosen_in n (ps ++ qs) (a + e) (lengths ps qs a e h k) some ∙ get_right ps qs (n % (a + e) - a) (n % (a + e)) (rw (← h) (omega (arith, above)))

-- ---- the pick of a word is enabled

pub picked_if : (setup : Setup) (s : State) (word : ℕ) (o : Option Pick) → IsCounted s → o ≡ pick_of setup s word → IfSome o (λ p. IsSome (step setup s p))
picked_if setup s word None c h = tt
picked_if setup s word (Some p) c h = picked_goes setup s c word p (sym h)

-- so is a chosen fill
pub fill_if : (setup : Setup) (s : State) (n : ℕ) (o : Option Pick) → IsCounted s → o ≡ chosen n (fills_of A s ++ fills_of E s) → IfSome o (λ p. IsSome (step setup s p))
fill_if setup s n None c h = tt
fill_if setup s n (Some p) c h =
    all_chosen (goes setup s) n _ p (all_append (goes setup s) (fills_of A s) (fills_of E s) (all_fills setup s c A) (all_fills setup s c E)) (sym h)
