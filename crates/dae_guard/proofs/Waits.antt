-- Accesses, fills and drains of what waits, beside those of the queues that it stands for.
use Rattle.std.proofs.Common.{◌≡◌, ℕ, suc, ◌+◌, Bool, true, false, ◌&&◌, List, [], ◌∷◌, ◌++◌, length, map, refl, ap, sym, ◌∙◌, subst, arith}
use Rattle.std.specs.Prelude.{Option, Some, None, nat_le, nat_eq, is_none, is_some}
use Rattle.std.specs.List.{list_any}
use Rattle.std.proofs.lemmas.Bool.Decides.{nat_tests}
use Rattle.dae_base.proofs.Laws.{and_false, or_false}
use Rattle.dae_base.specs.declared.Queue.{Queue}
use Rattle.dae_base.specs.declared.Queue.TheVariants.{Ld, Al, Sa, Sd, Ab, Eb, Cq}
use Rattle.dae_base.specs.declared.Depths.{Depths}
use Rattle.dae_base.specs.declared.LoadKind.{LoadKind}
use Rattle.dae_base.specs.Words.{width_of, overlap}
use Rattle.dae_encode.specs.declared.QueueUse.{QueueUse}
use Rattle.dae_encode.specs.declared.QueueUse.TheVariants.{Nothing, Take, Push, Load, StoreAddress}
use Rattle.dae_queues.specs.declared.Slot.{Slot}
use Rattle.dae_queues.specs.declared.StoreAt.{StoreAt}
use Rattle.dae_queues.specs.Lists.{first, rest, first_value, holds, new_slot}
use Rattle.dae_queues.specs.Numbers.{CountsUp}
use Rattle.dae_core.specs.Queues.{Queues, possible, peek, commit, count, front}
use Rattle.dae_ranges.specs.declared.Range.{Range}
use Rattle.dae_ranges.specs.Ranges.{Has}
use Rattle.dae_ranges.proofs.Laws.{meet_where, has_single}
use Rattle.dae_guard.specs.Sets.{Cell}
use Rattle.dae_guard.specs.declared.StoreCell.{StoreCell}
use Rattle.dae_guard.specs.Sets.{Waiting}
use Rattle.dae_guard.specs.Waiting.{length_of, front_cell, front_of, allows, given, after_use, touches, delays, new_cell}
use Rattle.dae_guard.specs.StandsFor.{Pairs, HasMaybe, IsSlot, IsStore, Wait}

-- ---- lists side by side

module _ {X Y : Type 0} (R : X → Y → Type 0) where
  pub same_length : (xs : List X) (ys : List Y) → Pairs R xs ys → length xs ≡ length ys
  same_length [] [] h = refl
  same_length [] (y ∷ ys) h = absurd h
  same_length (x ∷ xs) [] h = absurd h
  same_length (x ∷ xs) (y ∷ ys) h = ap suc (same_length xs ys h.1)

  pub pairs-append : (xs : List X) (ys : List Y) (x : X) (y : Y) → Pairs R xs ys → R x y → Pairs R (xs ++ x ∷ []) (ys ++ y ∷ [])
  pairs-append [] [] x y h r = (r, tt)
  pairs-append [] (z ∷ ys) x y h r = absurd h
  pairs-append (z ∷ xs) [] x y h r = absurd h
  pairs-append (w ∷ xs) (z ∷ ys) x y h r = (h.0, pairs-append xs ys x y h.1 r)

  pub pairs_rest : (xs : List X) (ys : List Y) → Pairs R xs ys → Pairs R (rest xs) (rest ys)
  pairs_rest [] [] h = tt
  pairs_rest [] (y ∷ ys) h = absurd h
  pairs_rest (x ∷ xs) [] h = absurd h
  pairs_rest (x ∷ xs) (y ∷ ys) h = h.1

  -- where no item passes the one test, no item passes the other
  pub none_pass : (f : X → Bool) (g : Y → Bool) → ((x : X) (y : Y) → R x y → f x ≡ false → g y ≡ false) → (xs : List X) (ys : List Y) → Pairs R xs ys → list_any f xs ≡ false → list_any g ys ≡ false
  none_pass f g k [] [] h e = refl
  none_pass f g k [] (y ∷ ys) h e = absurd h
  none_pass f g k (x ∷ xs) [] h e = absurd h
  none_pass f g k (x ∷ xs) (y ∷ ys) h e =
      let o = or_false (f x) (list_any f xs) e in
      rw (k x y h.0 o.0, none_pass f g k xs ys h.1 o.1) refl

pub pairs_mapped : {X Y : Type 0} (R S : X → Y → Type 0) (f : X → X) → ((x : X) (y : Y) → R x y → S (f x) y) → (xs : List X) (ys : List Y) → Pairs R xs ys → Pairs S (map f xs) ys
pairs_mapped R S f k [] [] h = tt
pairs_mapped R S f k [] (y ∷ ys) h = absurd h
pairs_mapped R S f k (x ∷ xs) [] h = absurd h
pairs_mapped R S f k (x ∷ xs) (y ∷ ys) h = (k x y h.0, pairs_mapped R S f k xs ys h.1)

-- ---- accesses

front_slot : (d : ℕ) (cs : List Cell) (ss : List Slot) (r : Range) → Pairs (IsSlot d) cs ss → front_cell cs ≡ Some r → (w : ℕ) × (first_value ss ≡ Some w) × Has r w
front_slot d [] ss r h e = cc
front_slot d (c ∷ cs) [] r h e = absurd h
front_slot d (c ∷ cs) (s ∷ ss) r h e = by c.value s.value e refl h.0.value where
  by : (o : Option Range) (v : Option ℕ) → o ≡ Some r → s.value ≡ v → HasMaybe o v → (w : ℕ) × (s.value ≡ Some w) × Has r w
  by None v e f x = cc
  by (Some q) None e f x = absurd x
  by (Some q) (Some w) e f x = let same : q ≡ r = cc in (w, f, subst (λ (z : Range). Has z w) same x)

front_word : (rs : List Range) (ws : List ℕ) (r : Range) → Pairs Has rs ws → first rs ≡ Some r → (w : ℕ) × (first ws ≡ Some w) × Has r w
front_word [] ws r h e = cc
front_word (q ∷ rs) [] r h e = absurd h
front_word (q ∷ rs) (w ∷ ws) r h e = let same : q ≡ r = cc in (w, refl, subst (λ (z : Range). Has z w) same h.0)

pub front_has : (k : Queue) (q : Waiting) (qs : Queues) (r : Range) → Wait q qs → front_of k q ≡ Some r → (w : ℕ) × (front k qs ≡ Some w) × Has r w
front_has Ld q qs r h e = front_slot qs.stores.drained q.ld qs.ld.slots r h.ld e
front_has Al q qs r h e = front_slot qs.stores.drained q.al qs.al.slots r h.al e
front_has Ab q qs r h e = front_word q.ab qs.ab r h.ab e
front_has Eb q qs r h e = front_word q.eb qs.eb r h.eb e
front_has Cq q qs r h e = front_word q.cq qs.cq r h.cq e
front_has Sa q qs r h e = cc
front_has Sd q qs r h e = cc

pub count_is : (k : Queue) (q : Waiting) (qs : Queues) → Wait q qs → length_of k q ≡ count k qs
count_is Ld q qs h = same_length (IsSlot qs.stores.drained) q.ld qs.ld.slots h.ld
count_is Al q qs h = same_length (IsSlot qs.stores.drained) q.al qs.al.slots h.al
count_is Sa q qs h = same_length IsStore q.sa qs.stores.sa h.sa
count_is Sd q qs h = same_length Has q.sd qs.stores.sd h.sd
count_is Ab q qs h = same_length Has q.ab qs.ab h.ab
count_is Eb q qs h = same_length Has q.eb qs.eb h.eb
count_is Cq q qs h = same_length Has q.cq qs.cq h.cq

some_there : (o : Option Range) → is_some o ≡ true → (r : Range) × (o ≡ Some r)
some_there None h = cc
some_there (Some r) h = (r, refl)

pub allowed : (d : Depths) (u : QueueUse) (q : Waiting) (qs : Queues) → Wait q qs → allows d u q ≡ true → possible d u qs ≡ true
allowed d Nothing q qs h e = refl
allowed d (Take k) q qs h e =
    let r = some_there (front_of k q) e in
    let f = front_has k q qs r.0 h r.1 in
    ap is_some f.1
allowed d (Push k) q qs h e = rw (count_is k q qs h) at e
allowed d (Load k kind) q qs h e = rw (count_is k q qs h) at e
allowed d (StoreAddress width) q qs h e = rw (count_is Sa q qs h) at e

-- what the access gives is a word of its range
pub given_has : (d : Depths) (u : QueueUse) (q : Waiting) (qs : Queues) → Wait q qs → allows d u q ≡ true → Has (given u q) (peek u qs)
given_has d Nothing q qs h e = has_single 0 (omega arith)
given_has d (Take k) q qs h e =
    let r = some_there (front_of k q) e in
    let f = front_has k q qs r.0 h r.1 in
    rw (r.1, f.1) f.2
given_has d (Push k) q qs h e = has_single 0 (omega arith)
given_has d (Load k kind) q qs h e = has_single 0 (omega arith)
given_has d (StoreAddress width) q qs h e = has_single 0 (omega arith)

-- so many numbers are counted
pub how_many : (low high : ℕ) (ns : List ℕ) → CountsUp low ns high → low + length ns ≡ high
how_many low high [] c = let e : low ≡ high = c in omega arith
how_many low high (n ∷ ns) c = let r = how_many (low + 1) high ns c.1 in omega arith

length_of_map : {X Y : Type 0} (f : X → Y) (xs : List X) → length (map f xs) ≡ length xs
length_of_map f [] = refl
length_of_map f (x ∷ xs) = ap suc (length_of_map f xs)

abbrev pub StoresCounted : Queues → Type 0
StoresCounted qs = CountsUp qs.stores.drained (map (λ (a : StoreAt). a.number) qs.stores.sa) qs.stores.issued

new_is : (q : Waiting) (qs : Queues) (kind : LoadKind) (r : Range) (x n : ℕ) → Wait q qs → StoresCounted qs → Has r x → IsSlot qs.stores.drained (new_cell kind r q) (new_slot n kind x qs.stores.issued)
new_is q qs kind r x n h c p =
    let m = how_many qs.stores.drained qs.stores.issued (map (λ (a : StoreAt). a.number) qs.stores.sa) c in
    let l = length_of_map (λ (a : StoreAt). a.number) qs.stores.sa in
    let k = same_length IsStore q.sa qs.stores.sa h.sa in
    record { value = tt; addr = p; kind = refl; older = (omega arith) }

-- what goes in is a word of the range, where the access puts one in
abbrev pub PutsIn : QueueUse → Range → ℕ → Type 0
PutsIn Nothing r x = Unit {0}
PutsIn (Take k) r x = Unit {0}
PutsIn (Push k) r x = Has r x
PutsIn (Load k kind) r x = Has r x
PutsIn (StoreAddress width) r x = Has r x

pub used : (u : QueueUse) (q : Waiting) (qs : Queues) (r : Range) (x : ℕ) → Wait q qs → StoresCounted qs → PutsIn u r x → Wait (after_use u r q) (commit u x qs)
used Nothing q qs r x h c p = h
used (Take Ld) q qs r x h c p = record { ld = pairs_rest (IsSlot qs.stores.drained) q.ld qs.ld.slots h.ld; al = h.al; sa = h.sa; sd = h.sd; ab = h.ab; eb = h.eb; cq = h.cq }
used (Take Al) q qs r x h c p = record { ld = h.ld; al = pairs_rest (IsSlot qs.stores.drained) q.al qs.al.slots h.al; sa = h.sa; sd = h.sd; ab = h.ab; eb = h.eb; cq = h.cq }
used (Take Sa) q qs r x h c p = h
used (Take Sd) q qs r x h c p = h
used (Take Ab) q qs r x h c p = record { ld = h.ld; al = h.al; sa = h.sa; sd = h.sd; ab = pairs_rest Has q.ab qs.ab h.ab; eb = h.eb; cq = h.cq }
used (Take Eb) q qs r x h c p = record { ld = h.ld; al = h.al; sa = h.sa; sd = h.sd; ab = h.ab; eb = pairs_rest Has q.eb qs.eb h.eb; cq = h.cq }
used (Take Cq) q qs r x h c p = record { ld = h.ld; al = h.al; sa = h.sa; sd = h.sd; ab = h.ab; eb = h.eb; cq = pairs_rest Has q.cq qs.cq h.cq }
used (Push Ld) q qs r x h c p = h
used (Push Al) q qs r x h c p = h
used (Push Sa) q qs r x h c p = h
used (Push Sd) q qs r x h c p = record { ld = h.ld; al = h.al; sa = h.sa; sd = pairs-append Has q.sd qs.stores.sd r x h.sd p; ab = h.ab; eb = h.eb; cq = h.cq }
used (Push Ab) q qs r x h c p = record { ld = h.ld; al = h.al; sa = h.sa; sd = h.sd; ab = pairs-append Has q.ab qs.ab r x h.ab p; eb = h.eb; cq = h.cq }
used (Push Eb) q qs r x h c p = record { ld = h.ld; al = h.al; sa = h.sa; sd = h.sd; ab = h.ab; eb = pairs-append Has q.eb qs.eb r x h.eb p; cq = h.cq }
used (Push Cq) q qs r x h c p = record { ld = h.ld; al = h.al; sa = h.sa; sd = h.sd; ab = h.ab; eb = h.eb; cq = pairs-append Has q.cq qs.cq r x h.cq p }
used (Load Ld kind) q qs r x h c p = record { ld = pairs-append (IsSlot qs.stores.drained) q.ld qs.ld.slots (new_cell kind r q) (new_slot qs.ld.reserved kind x qs.stores.issued) h.ld (new_is q qs kind r x qs.ld.reserved h c p); al = h.al; sa = h.sa; sd = h.sd; ab = h.ab; eb = h.eb; cq = h.cq }
used (Load Al kind) q qs r x h c p = record { ld = h.ld; al = pairs-append (IsSlot qs.stores.drained) q.al qs.al.slots (new_cell kind r q) (new_slot qs.al.reserved kind x qs.stores.issued) h.al (new_is q qs kind r x qs.al.reserved h c p); sa = h.sa; sd = h.sd; ab = h.ab; eb = h.eb; cq = h.cq }
used (Load Sa kind) q qs r x h c p = h
used (Load Sd kind) q qs r x h c p = h
used (Load Ab kind) q qs r x h c p = h
used (Load Eb kind) q qs r x h c p = h
used (Load Cq kind) q qs r x h c p = h
used (StoreAddress width) q qs r x h c p = record { ld = h.ld; al = h.al; sa = pairs-append IsStore q.sa qs.stores.sa (record { addr = r; width = width }) (record { number = qs.stores.issued; addr = x; width = width }) h.sa (record { addr = p; width = refl }); sd = h.sd; ab = h.ab; eb = h.eb; cq = h.cq }

-- ---- a store against a slot

pub no_touch : (d : ℕ) (c : Cell) (s : Slot) (k : StoreCell) (a : StoreAt) → IsSlot d c s → IsStore k a → touches c k ≡ false → overlap a.addr a.width s.addr (width_of s.kind) ≡ false
no_touch d c s k a h i e = rw (← h.kind, ← i.width) (meet_where k.addr c.addr k.width (width_of c.kind) a.addr s.addr e i.addr h.addr)

pub same_none : (o : Option Range) (v : Option ℕ) → HasMaybe o v → is_none o ≡ is_none v
same_none None None h = refl
same_none None (Some w) h = absurd h
same_none (Some r) None h = absurd h
same_none (Some r) (Some w) h = refl

pub not_held : (d : ℕ) (k : StoreCell) (a : StoreAt) → IsStore k a → a.number ≡ d → (c : Cell) (s : Slot) → IsSlot d c s → delays k c ≡ false → holds a s ≡ false
not_held d k a i n c s h e = by (is_none c.value) refl (nat_eq c.older 0) refl (touches c k) refl e where
  by : (x : Bool) → is_none c.value ≡ x → (y : Bool) → nat_eq c.older 0 ≡ y → (z : Bool) → touches c k ≡ z → (x && (y && z)) ≡ false → holds a s ≡ false
  by false f y g z t e = let v : is_none s.value ≡ false = sym (same_none c.value s.value h.value) ∙ f in rw v refl
  by true f false g z t e =
      let o = h.older in
      let late : nat_le s.stamp a.number ≡ false = grind (arith, nat_tests) in
      ap (λ b. is_none s.value && (b && overlap a.addr a.width s.addr (width_of s.kind))) late ∙ and_false (is_none s.value)
  by true f true g false t e =
      let o = no_touch d c s k a h i t in
      ap (λ b. is_none s.value && (nat_le s.stamp a.number && b)) o ∙ ap (λ b. is_none s.value && b) (and_false (nat_le s.stamp a.number)) ∙ and_false (is_none s.value)
  by true f true g true t e = cc
