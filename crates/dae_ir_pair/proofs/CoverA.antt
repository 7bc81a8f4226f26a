-- Where each action of A's stream is within a budget, so is what A does in each round.
use Rattle.std.proofs.Common.{◌≡◌, ℕ, ◌+◌, ◌≤◌, Bool, true, false, not, ◌&&◌, ◌||◌, List, [], ◌∷◌, ◌++◌, if◌then◌else◌, refl}
use Rattle.std.proofs.lemmas.Bool.{or_left, or_right}
use Rattle.dae_base.specs.declared.Depths.{Depths}
use Rattle.dae_base.specs.declared.Place.{Place}
use Rattle.dae_base.proofs.Laws.{no_true}
use Rattle.dae_ir.specs.Code.{Done, Do, If, Loop, Each}
use Rattle.dae_ir.specs.Form.{Form}
use Rattle.dae_ir.specs.Classes.{Classes, has_check}
use Rattle.dae_ir.specs.Rounds.{Jump, Breaks, Continues, Enters, Gives, Halts, Group, Alone, Region, Rounds, Joins, Closes, stand, closed, is_full, placed, rounds}
use Rattle.dae_ir.specs.Streams.{Actions, mark, when, a_part, parts, message, gives_address, hears_check, a_group, inside_of, side_of, has_loop, branch_of}
use Rattle.dae_ir.specs.Budgets.{is_own_load, is_address, is_message, is_told}
use Rattle.dae_ir_pair.specs.Budget.{is_own_part, is_test, is_store, any_part, OwnWithin, AWithin}
use Rattle.dae_ir_pair.proofs.Tails.{IsTail, tail_each, tail_when, tail_address, tail_a_parts, tail_a_group, tail_inside}
use Rattle.dae_ir.specs.declared.form.Operand.TheVariants.{Number}
use Rattle.dae_ir.specs.declared.form.Item.{Item}
use Rattle.dae_ir.specs.declared.form.Item.TheVariants.{Assign, Load, Store, Print, Expect, Break, Continue, Call, Return, Halt}
use Rattle.dae_ir.specs.declared.stream.Part.{Part}
use Rattle.dae_ir.specs.declared.stream.Part.TheVariants.{Sets, Loads, Tests}
use Rattle.dae_ir.specs.declared.stream.Last.{Last}
use Rattle.dae_ir.specs.declared.stream.Last.TheVariants.{Nothing, Stores, Prints, Decides}
use Rattle.dae_ir.specs.declared.stream.Mark.{Mark}
use Rattle.dae_ir.specs.declared.stream.Action.{Action}
use Rattle.dae_ir.specs.declared.stream.Action.TheVariants.{Issue, Own, Tell}

-- within the budget
abbrev pub AFits : Depths → Action → Type 0
AFits d x = (is_own_load x ≡ true → 1 ≤ d.al) × (is_address x ≡ true → 1 ≤ d.sa) × (is_message x ≡ true → 1 ≤ d.ab)

abbrev pub AllA : Depths → Actions → Type 0
AllA d code = Each (AFits d) (λ b. is_told b ≡ true → 1 ≤ d.ab) code

or_so : {X : Type 0} (a b : Bool) → (a ≡ true → X) → (b ≡ true → X) → a || b ≡ true → X
or_so true b f g h = f refl
or_so false b f g h = g h

pub any_left : (f : Part → Bool) (g : List Part) (p : Part) → any_part f g ≡ true → any_part f (g ++ p ∷ []) ≡ true
any_left f [] p h = no_true h
any_left f (q ∷ g) p h = or_so (f q) (any_part f g) (λ e. or_left (f q) _ e) (λ e. or_right (f q) _ (any_left f g p e)) h

pub any_last : (f : Part → Bool) (g : List Part) (p : Part) → f p ≡ true → any_part f (g ++ p ∷ []) ≡ true
any_last f [] p h = or_left (f p) false h
any_last f (q ∷ g) p h = or_right (f q) _ (any_last f g p h)

module _ (c : Classes) (d : Depths) where
  abbrev All : Actions → Type 0
  All code = AllA d code

  tail : (k code : Actions) → IsTail k code → All code → All k
  tail k code t h = tail_each (AFits d) (λ b. is_told b ≡ true → 1 ≤ d.ab) k code t h

  first : (b : Bool) (m : Mark) (x : Action) (k : Actions) → All (when b m x k) → b ≡ true → AFits d x
  first true m x k h e = h.0
  first false m x k h e = no_true e

  own_parts : (n : ℕ) (g : List Part) (k : Actions) → All (parts (a_part c n) g k) → any_part (is_own_part c) g ≡ true → 1 ≤ d.al
  own_parts n [] k h e = no_true e
  own_parts n (Sets place v x ∷ g) k h e = own_parts n g k (tail _ _ (tail_a_parts c n (Sets place v x ∷ []) (parts (a_part c n) g k)) h) e
  own_parts n (Loads place v kind x ∷ g) k h e =
      let l = tail _ _ (tail_when (not (c.s v) && c.needs v) (mark place n) (Issue kind x) _) h in
      or_so (c.s v) (any_part (is_own_part c) g)
      (λ s. (first (c.s v) (mark place n) (Own v kind x) _ l s).0 refl)
      (own_parts n g k (tail _ _ (tail_a_parts c n (Loads place v kind x ∷ []) (parts (a_part c n) g k)) h)) e
  own_parts n (Tests place check ∷ g) k h e = own_parts n g k h.1 e

  tests_told : (n : ℕ) (g : List Part) (k : Actions) → All (message n (Tell (Number 0)) g k) → any_part is_test g ≡ true → 1 ≤ d.ab
  tests_told n [] k h e = no_true e
  tests_told n (Sets place v x ∷ g) k h e = tests_told n g k h e
  tests_told n (Loads place v kind x ∷ g) k h e = tests_told n g k h e
  tests_told n (Tests place check ∷ g) k h e = h.0.2 refl

  store_address : (n : ℕ) (last : Last) (k : Actions) → All (gives_address n last k) → is_store last ≡ true → 1 ≤ d.sa
  store_address n Nothing k h e = no_true e
  store_address n (Stores place width x y) k h e = h.0.1 refl
  store_address n (Prints place spelling x) k h e = no_true e
  store_address n (Decides place check) k h e = no_true e

  group_within : (n : ℕ) (g : List Part) (last : Last) (k : Actions) → All (a_group c n g last k) → AWithin c d (Group g last)
  group_within n g last k h =
      let rest = message n (Tell (Number 0)) g (hears_check n last k) in
      let l = tail (gives_address n last rest) _ (tail_a_parts c n g (gives_address n last rest)) h in
      (own_parts n g (gives_address n last rest) h, store_address n last rest l, tests_told n g (hears_check n last k) (tail rest _ (tail_address n last rest) l))

  -- inside of a region of A
  module _ (of : ℕ → Classes) (cap : ℕ) where
    abbrev Own' : List Part → Type 0
    Own' g = any_part (is_own_part c) g ≡ true → 1 ≤ d.al

    closed_inside : (g : List Part) (n : ℕ) (r : Rounds) (k : Actions) → All (inside_of true of c n (closed g r) k) → Own' g × ((m : ℕ) × All (inside_of true of c m r k))
    closed_inside [] n r k h = ((λ e. no_true e), (n, h))
    closed_inside (p ∷ g) n r k h =
        let rest = inside_of true of c (n + 1) r k in
        ((group_within n (p ∷ g) Nothing rest h).0, (n + 1, tail rest _ (tail_a_group c n (p ∷ g) Nothing rest) h))

    module _ (X : Type 0) (r : List Part → Rounds) (k : Actions) (behind : (g : List Part) (n : ℕ) → All (inside_of true of c n (r g) k) → Own' g × X) where
      join_inside : (place : Place) (p : Part) (g : List Part) (n : ℕ) → All (inside_of true of c n (placed c cap g place (Joins p) r) k) → Own' g × (is_own_part c p ≡ true → 1 ≤ d.al) × X
      join_inside place p g n h = by (is_full c cap g p) h where
        by : (b : Bool) → All (inside_of true of c n (if b then closed g (r (p ∷ [])) else r (g ++ p ∷ [])) k) → Own' g × (is_own_part c p ≡ true → 1 ≤ d.al) × X
        by true h =
            let l = closed_inside g n (r (p ∷ [])) k h in
            let b = behind (p ∷ []) l.1.0 l.1.1 in
            (l.0, (λ e. b.0 (or_left (is_own_part c p) false e)), b.1)
        by false h =
            let b = behind (g ++ p ∷ []) n h in
            ((λ e. b.0 (any_left (is_own_part c) g p e)), (λ e. b.0 (any_last (is_own_part c) g p e)), b.1)

      close_inside : (place : Place) (last : Last) (g : List Part) (n : ℕ) → All (inside_of true of c n (placed c cap g place (Closes last) r) k) → Own' g × X
      close_inside place last g n h =
          let rest = inside_of true of c (n + 1) (r []) k in
          ((group_within n g last rest h).0, (behind [] (n + 1) (tail rest _ (tail_a_group c n g last rest) h)).1)

      apart_inside : (place : Place) (jump : Jump) (g : List Part) (n : ℕ) → All (inside_of true of c n (closed g (Do place (Alone jump) (r []))) k) → Own' g × X
      apart_inside place jump g n h =
          let l = closed_inside g n (Do place (Alone jump) (r [])) k h in
          (l.0, (behind [] l.1.0 l.1.1.1).1)

      item_inside : (place : Place) (item : Item) (g : List Part) (n : ℕ) → All (inside_of true of c n (placed c cap g place (stand c place item) r) k) → Own' g × OwnWithin c d item × X
      item_inside place (Assign v x) g n h = let j = join_inside place (Sets place v x) g n h in (j.0, tt, j.2)
      item_inside place (Load v kind x) g n h = join_inside place (Loads place v kind x) g n h
      item_inside place (Store width x y) g n h = let j = close_inside place (Stores place width x y) g n h in (j.0, tt, j.1)
      item_inside place (Print spelling x) g n h = let j = close_inside place (Prints place spelling x) g n h in (j.0, tt, j.1)
      item_inside place (Expect check) g n h = by (has_check c.s check) h where
        by : (b : Bool) → All (inside_of true of c n (placed c cap g place (if b then Joins (Tests place check) else Closes (Decides place check)) r) k) → Own' g × Unit {0} × X
        by true h = let j = join_inside place (Tests place check) g n h in (j.0, tt, j.2)
        by false h = let j = close_inside place (Decides place check) g n h in (j.0, tt, j.1)
      item_inside place Break g n h = let j = apart_inside place Breaks g n h in (j.0, tt, j.1)
      item_inside place Continue g n h = let j = apart_inside place Continues g n h in (j.0, tt, j.1)
      item_inside place (Call v f xs) g n h = let j = apart_inside place (Enters v f xs) g n h in (j.0, tt, j.1)
      item_inside place (Return x) g n h = let j = apart_inside place (Gives x) g n h in (j.0, tt, j.1)
      item_inside place (Halt x) g n h = let j = apart_inside place (Halts x) g n h in (j.0, tt, j.1)

    inside_within : (code : Form) (g : List Part) (n : ℕ) (k : Actions) → All (inside_of true of c n (rounds c cap false code g) k) → Own' g × Each (OwnWithin c d) (λ t. Unit {0}) code
    inside_within Done g n k h = let l = closed_inside g n Done k h in (l.0, tt)
    inside_within (Do place item code) g n k h =
        let j = item_inside (Each (OwnWithin c d) (λ t. Unit {0}) code) (rounds c cap false code) k (λ g n h. inside_within code g n k h) place item g n h in
        (j.0, (j.1, j.2))
    inside_within (If place t p q code) g n k h =
        let l = closed_inside g n _ k h in
        (l.0, (tt, (inside_within p [] 0 Done l.1.1.1).1, (inside_within q [] 0 Done l.1.1.2).1, (inside_within code [] l.1.0 k l.1.1.3).1))
    inside_within (Loop place p q code) g n k h =
        let l = closed_inside g n _ k h in
        (l.0, ((inside_within p [] 0 Done l.1.1.0).1, (inside_within q [] 0 Done l.1.1.1).1, (inside_within code [] l.1.0 k l.1.1.2).1))

    -- outside of regions
    told_within : (by : Bool) (t : _) → (is_told (branch_of true (record { by_a = by; test = t })) ≡ true → 1 ≤ d.ab) → by ≡ true → 1 ≤ d.ab
    told_within true t h e = h refl
    told_within false t h e = no_true e

    pub side_within : (r : Rounds) (n : ℕ) (k : Actions) → All (side_of true of c cap n r k) → Each (AWithin c d) (λ q. q.by_a ≡ true → 1 ≤ d.ab) r
    side_within Done n k h = tt
    side_within (Do place (Group g last) r) n k h =
        let rest = side_of true of c cap (n + 1) r k in
        (group_within n g last rest h, side_within r (n + 1) k (tail rest _ (tail_a_group c n g last rest) h))
    side_within (Do place (Alone jump) r) n k h = (tt, side_within r n k h.1)
    side_within (Do place (Region true code) r) n k h =
        let rest = side_of true of c cap n r k in
        let end = when (has_loop code) (mark place n) (Tell (Number 0)) rest in
        let l = tail end _ (tail_inside true of c n (rounds c cap false code []) end) h in (
          ((inside_within code [] n end h).1, (λ e. (first (has_loop code) (mark place n) (Tell (Number 0)) rest l e).2 refl)),
          side_within r n k (tail rest _ (tail_when (has_loop code) (mark place n) (Tell (Number 0)) rest) l),
        )
    side_within (Do place (Region false code) r) n k h = (tt, side_within r n k h)
    side_within (If place q x y r) n k h =
        (told_within q.by_a q.test h.0, side_within x 0 Done h.1, side_within y 0 Done h.2, side_within r n k h.3)
    side_within (Loop place x y r) n k h = (side_within x 0 Done h.0, side_within y 0 Done h.1, side_within r n k h.2)
