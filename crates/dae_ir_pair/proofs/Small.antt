-- The largest numbers of loads for E and of copies in a group of a pair are at most the cap.
use Rattle.std.proofs.Common.{◌≡◌, ℕ, Bool, true, false, ◌&&◌, List, [], ◌∷◌, ◌++◌, if◌then◌else◌, refl, ◌∙◌, arith}
use Rattle.dae_base.proofs.Laws.{and_true, not_true, no_true}
use Rattle.dae_base.specs.declared.Place.{Place}
use Rattle.dae_ir.specs.Code.{Done, Do, If, Loop, Each, every}
use Rattle.dae_ir.specs.Form.{Form}
use Rattle.dae_ir.specs.Classes.{Classes, is_by_a}
use Rattle.dae_ir.specs.Rounds.{Round, Group, Alone, Region, Rounds, Joins, stand, closed, how_many, is_full, placed, is_a_item, rounds}
use Rattle.dae_ir_pair.proofs.Budget.{how_many_more}
use Rattle.dae_ir.specs.declared.form.Item.{Item}
use Rattle.dae_ir.specs.declared.form.Item.TheVariants.{Assign, Load, Store, Print, Expect, Break, Continue, Call, Return, Halt}
use Rattle.dae_ir.specs.declared.stream.Part.{Part}
use Rattle.dae_ir.specs.declared.stream.Part.TheVariants.{Sets, Loads}

-- ---- regions of A hold no load for E and no copy

-- no part of the kind
abbrev pub NoneOf : (Part → Bool) → Round → Type 0
NoneOf kind (Group g last) = how_many kind g ≡ 0
NoneOf kind (Alone jump) = Unit {0}
NoneOf kind (Region d code) = Unit {0}

module _ (c : Classes) (cap : ℕ) (kind : Part → Bool)
    (sets : (place : Place) (v : ℕ) (x : _) → c.needs v ≡ false → kind (Sets place v x) ≡ false)
    (loads : (place : Place) (v : ℕ) (k : _) (x : _) → c.needs v ≡ false → kind (Loads place v k x) ≡ false) where
  abbrev None' : Rounds → Type 0
  None' r = Each (NoneOf kind) (λ q. Unit {0}) r

  none_more : (g : List Part) (p : Part) → how_many kind g ≡ 0 → kind p ≡ false → how_many kind (g ++ p ∷ []) ≡ 0
  none_more g p h e = how_many_more kind g p ∙ rw (e) (omega (arith, h))

  none_one : (p : Part) → kind p ≡ false → how_many kind (p ∷ []) ≡ 0
  none_one p e = rw (e) refl

  closed_none : (g : List Part) → how_many kind g ≡ 0 → (r : Rounds) → None' r → None' (closed g r)
  closed_none [] h r k = k
  closed_none (p ∷ g) h r k = (h, k)

  join_none : (place : Place) (p : Part) → kind p ≡ false → (g : List Part) → how_many kind g ≡ 0 → (r : List Part → Rounds) → ((g : List Part) → how_many kind g ≡ 0 → None' (r g)) → None' (placed c cap g place (Joins p) r)
  join_none place p e g h r k = by (is_full c cap g p) where
    by : (b : Bool) → None' (if b then closed g (r (p ∷ [])) else r (g ++ p ∷ []))
    by true = closed_none g h _ (k (p ∷ []) (none_one p e))
    by false = k (g ++ p ∷ []) (none_more g p h e)

  item_none : (place : Place) (item : Item) → is_a_item c item ≡ true → (g : List Part) → how_many kind g ≡ 0 → (r : List Part → Rounds) → ((g : List Part) → how_many kind g ≡ 0 → None' (r g)) → None' (placed c cap g place (stand c place item) r)
  item_none place (Assign v x) is g h r k = join_none place (Sets place v x) (sets place v x (not_true (c.needs v) is)) g h r k
  item_none place (Load v kind x) is g h r k = join_none place (Loads place v kind x) (loads place v kind x (not_true (c.needs v) is)) g h r k
  item_none place Break is g h r k = closed_none g h _ (tt, k [] refl)
  item_none place Continue is g h r k = closed_none g h _ (tt, k [] refl)
  item_none place (Store width x y) is g h r k = no_true is
  item_none place (Print spelling x) is g h r k = no_true is
  item_none place (Expect check) is g h r k = no_true is
  item_none place (Call v f xs) is g h r k = no_true is
  item_none place (Return x) is g h r k = no_true is
  item_none place (Halt x) is g h r k = no_true is

  pub region_none : (code : Form) → every (is_a_item c) (is_by_a c.s) code ≡ true → (g : List Part) → how_many kind g ≡ 0 → None' (rounds c cap false code g)
  region_none Done is g h = closed_none g h Done tt
  region_none (Do place item code) is g h =
      let b = and_true (is_a_item c item) (every (is_a_item c) (is_by_a c.s) code) is in
      item_none place item b.0 g h (rounds c cap false code) (region_none code b.1)
  region_none (If place t p q code) is g h =
      let b = and_true (is_by_a c.s t) (every (is_a_item c) (is_by_a c.s) p && (every (is_a_item c) (is_by_a c.s) q && every (is_a_item c) (is_by_a c.s) code)) is in
      let b1 = and_true (every (is_a_item c) (is_by_a c.s) p) (every (is_a_item c) (is_by_a c.s) q && every (is_a_item c) (is_by_a c.s) code) b.1 in
      let b2 = and_true (every (is_a_item c) (is_by_a c.s) q) (every (is_a_item c) (is_by_a c.s) code) b1.1 in
      closed_none g h _ (tt, region_none p b1.0 [] refl, region_none q b2.0 [] refl, region_none code b2.1 [] refl)
  region_none (Loop place p q code) is g h =
      let b1 = and_true (every (is_a_item c) (is_by_a c.s) p) (every (is_a_item c) (is_by_a c.s) q && every (is_a_item c) (is_by_a c.s) code) is in
      let b2 = and_true (every (is_a_item c) (is_by_a c.s) q) (every (is_a_item c) (is_by_a c.s) code) b1.1 in
      closed_none g h _ (region_none p b1.0 [] refl, region_none q b2.0 [] refl, region_none code b2.1 [] refl)
