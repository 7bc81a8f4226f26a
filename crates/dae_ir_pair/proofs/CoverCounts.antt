-- Where no group of A's stream has more than m loads for E, or copies, no group of the rounds has.
use Rattle.std.proofs.Common.{◌≡◌, ℕ, ◌+◌, ◌≤◌, Bool, true, false, not, ◌&&◌, List, [], ◌∷◌, if◌then◌else◌, refl, arith}
use Rattle.dae_base.proofs.Laws.{same_number}
use Rattle.dae_ir.specs.Code.{Done, Do, If, Loop, Each}
use Rattle.dae_ir.specs.Classes.{Classes}
use Rattle.dae_ir.specs.Rounds.{Group, Alone, Region, Rounds, rounds, is_for_e, is_copied, how_many}
use Rattle.dae_ir.specs.Streams.{Actions, mark, when, a_part, parts, message, gives_address, hears_check, side_of, has_loop}
use Rattle.dae_ir.specs.Budgets.{is_load_for_e, is_copy, in_group}
use Rattle.dae_ir_pair.specs.Budget.{AtMost}
use Rattle.dae_ir_pair.proofs.Tails.{Bounded, tail_bounded, tail_when, tail_a_group, tail_inside}
use Rattle.dae_ir.specs.declared.form.Operand.TheVariants.{Number}
use Rattle.dae_ir.specs.declared.stream.Part.{Part}
use Rattle.dae_ir.specs.declared.stream.Part.TheVariants.{Sets, Loads, Tests}
use Rattle.dae_ir.specs.declared.stream.Action.{Action}
use Rattle.dae_ir.specs.declared.stream.Action.TheVariants.{Set, Issue, Own, Offer, Tell}

-- each part counts as its actions do
loads_in : (c : Classes) (n : ℕ) (p : Part) (k : Actions) → in_group is_load_for_e n (a_part c n p k) ≡ (if is_for_e c p then 1 else 0) + in_group is_load_for_e n k
loads_in c n (Sets place v x) k = by (c.s v) (c.needs v) where
  by : (s e : Bool) → in_group is_load_for_e n (when s (mark place n) (Set v x) (when (s && e) (mark place n) (Offer v) k)) ≡ 0 + in_group is_load_for_e n k
  by true true = omega (arith)
  by true false = omega (arith)
  by false e = omega (arith)
loads_in c n (Loads place v kind x) k = by (c.s v) (c.needs v) where
  by : (s e : Bool) → in_group is_load_for_e n (when (not s && e) (mark place n) (Issue kind x) (when s (mark place n) (Own v kind x) (when (s && e) (mark place n) (Offer v) k))) ≡ (if not s && e then 1 else 0) + in_group is_load_for_e n k
  by true true = omega (arith)
  by true false = omega (arith)
  by false true = rw (same_number n) refl
  by false false = omega (arith)
loads_in c n (Tests place check) k = omega (arith)

copies_in : (c : Classes) (n : ℕ) (p : Part) (k : Actions) → in_group is_copy n (a_part c n p k) ≡ (if is_copied c p then 1 else 0) + in_group is_copy n k
copies_in c n (Sets place v x) k = by (c.s v) (c.needs v) where
  by : (s e : Bool) → in_group is_copy n (when s (mark place n) (Set v x) (when (s && e) (mark place n) (Offer v) k)) ≡ (if s && e then 1 else 0) + in_group is_copy n k
  by true true = rw (same_number n) (omega (arith))
  by true false = omega (arith)
  by false e = omega (arith)
copies_in c n (Loads place v kind x) k = by (c.s v) (c.needs v) where
  by : (s e : Bool) → in_group is_copy n (when (not s && e) (mark place n) (Issue kind x) (when s (mark place n) (Own v kind x) (when (s && e) (mark place n) (Offer v) k))) ≡ (if s && e then 1 else 0) + in_group is_copy n k
  by true true = rw (same_number n) (omega (arith))
  by true false = omega (arith)
  by false true = omega (arith)
  by false false = omega (arith)
copies_in c n (Tests place check) k = omega (arith)

module _ (c : Classes) (f : Action → Bool) (kind : Part → Bool)
    (counts : (n : ℕ) (p : Part) (k : Actions) → in_group f n (a_part c n p k) ≡ (if kind p then 1 else 0) + in_group f n k) where
  parts_in : (n : ℕ) (g : List Part) (k : Actions) → in_group f n (parts (a_part c n) g k) ≡ how_many kind g + in_group f n k
  parts_in n [] k = omega (arith)
  parts_in n (p ∷ g) k = omega (arith, counts n p (parts (a_part c n) g k), parts_in n g k)

  few : (n m : ℕ) (g : List Part) (k : Actions) → in_group f n (parts (a_part c n) g k) ≤ m → how_many kind g ≤ m
  few n m g k h = omega (arith, h, parts_in n g k)

  pub side_within : (of : ℕ → Classes) (cap m : ℕ) (r : Rounds) (n : ℕ) (k : Actions) → Bounded f m (side_of true of c cap n r k) → Each (AtMost kind m) (λ q. Unit {0}) r
  side_within of cap m Done n k h = tt
  side_within of cap m (Do place (Group g last) r) n k h =
      let rest = side_of true of c cap (n + 1) r k in
      (few n m g (gives_address n last (message n (Tell (Number 0)) g (hears_check n last rest))) (h.0 n), side_within of cap m r (n + 1) k (tail_bounded f m rest _ (tail_a_group c n g last rest) h))
  side_within of cap m (Do place (Alone jump) r) n k h =
      (tt, side_within of cap m r n k ((λ g. omega (arith, h.0 g)), h.1))
  side_within of cap m (Do place (Region true code) r) n k h =
      let rest = side_of true of c cap n r k in
      let end = when (has_loop code) (mark place n) (Tell (Number 0)) rest in
      let l = tail_bounded f m end _ (tail_inside true of c n (rounds c cap false code []) end) h in
      (tt, side_within of cap m r n k (tail_bounded f m rest _ (tail_when (has_loop code) (mark place n) (Tell (Number 0)) rest) l))
  side_within of cap m (Do place (Region false code) r) n k h = (tt, side_within of cap m r n k h)
  side_within of cap m (If place q x y r) n k h =
      (tt, side_within of cap m x 0 Done h.1.0, side_within of cap m y 0 Done h.1.1, side_within of cap m r n k (h.0, h.1.2))
  side_within of cap m (Loop place x y r) n k h =
      (side_within of cap m x 0 Done h.1.0, side_within of cap m y 0 Done h.1.1, side_within of cap m r n k (h.0, h.1.2))

pub loads_within : (c : Classes) (of : ℕ → Classes) (cap m : ℕ) (r : Rounds) (n : ℕ) (k : Actions) → Bounded is_load_for_e m (side_of true of c cap n r k) → Each (AtMost (is_for_e c) m) (λ q. Unit {0}) r
loads_within c = side_within c is_load_for_e (is_for_e c) (loads_in c)

pub copies_within : (c : Classes) (of : ℕ → Classes) (cap m : ℕ) (r : Rounds) (n : ℕ) (k : Actions) → Bounded is_copy m (side_of true of c cap n r k) → Each (AtMost (is_copied c) m) (λ q. Unit {0}) r
copies_within c = side_within c is_copy (is_copied c) (copies_in c)
