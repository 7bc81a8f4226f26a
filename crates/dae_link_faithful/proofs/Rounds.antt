-- What a budget covers, round by round, for what a side takes from queues. Inside a region stands what its items say.
use Rattle.std.proofs.Common.{◌≡◌, ℕ, ◌+◌, ◌≤◌, Bool, true, false, not, ◌&&◌, ◌||◌, List, [], ◌∷◌, ◌++◌, Some, None, if◌then◌else◌, refl, arith}
use Rattle.std.specs.List.{AllByRecursion}
use Rattle.dae_base.proofs.Laws.{and_true}
use Rattle.dae_base.specs.declared.Place.{Place}
use Rattle.dae_base.specs.declared.Depths.{Depths}
use Rattle.dae_ir.specs.Code.{Done, Do, If, Loop, Each, every}
use Rattle.dae_ir.specs.Form.{Form}
use Rattle.dae_ir.specs.Classes.{Classes, is_by_a}
use Rattle.dae_ir.specs.Rounds.{Round, Group, Alone, Region, Rounds, Stand, Joins, Closes, Separates, stand, closed, is_for_e, is_copied, how_many, is_full, placed, is_a_item, is_e_item, is_a_region, is_e_region, region, one_sided, stays, rounds}
use Rattle.dae_ir.specs.Streams.{has_loop}
use Rattle.dae_ir.specs.declared.form.Test.{Test}
use Rattle.dae_ir.specs.declared.form.Item.{Item}
use Rattle.dae_ir.specs.declared.stream.Part.{Part}
use Rattle.dae_ir.specs.declared.stream.Last.{Last}
use Rattle.dae_ir.specs.declared.stream.Last.TheVariants.{Nothing}
use Rattle.dae_ir_pair.specs.Budget.{is_test, is_decided, any_part, AWithin, EWithin, AtMost}

-- ---- regions are of items of their side

abbrev pub RegionOk : Classes → Round → Type 0
RegionOk c (Group g last) = Unit {0}
RegionOk c (Alone jump) = Unit {0}
RegionOk c (Region true code) = every (is_a_item c) (is_by_a c.s) code ≡ true
RegionOk c (Region false code) = every (is_e_item c) (λ t. not (is_by_a c.s t)) code ≡ true

module _ (c : Classes) (cap : ℕ) (outside : Bool) where
  abbrev AreOk : Rounds → Type 0
  AreOk r = Each (RegionOk c) (λ q. Unit {0}) r

  closed_ok : (g : List Part) (r : Rounds) → AreOk r → AreOk (closed g r)
  closed_ok [] r k = k
  closed_ok (p ∷ g) r k = (tt, k)

  placed_ok : (place : Place) (st : Stand) (g : List Part) (r : List Part → Rounds) → ((g : List Part) → AreOk (r g)) → AreOk (placed c cap g place st r)
  placed_ok place (Joins p) g r k = by (is_full c cap g p)
    where
      by : (b : Bool) → AreOk (if b then closed g (r (p ∷ [])) else r (g ++ p ∷ []))
      by true = closed_ok g _ (k (p ∷ []))
      by false = k (g ++ p ∷ [])
  placed_ok place (Closes last) g r k = (tt, k [])
  placed_ok place (Separates jump) g r k = closed_ok g _ (tt, k [])

  sided_ok : (place : Place) (code : Form) (k both : Rounds) → AreOk k → AreOk both → AreOk (one_sided (region outside c code) place code k both)
  sided_ok place code k both h b = by (outside && is_a_region c code) refl (outside && is_e_region c code) refl
    where
      by : (x : Bool) → outside && is_a_region c code ≡ x → (y : Bool) → outside && is_e_region c code ≡ y → AreOk (one_sided (if x then Some true else (if y then Some false else None)) place code k both)
      by true e y f = ((and_true (every (is_a_item c) (is_by_a c.s) code) (stays false code) (and_true outside (is_a_region c code) e).1).0, h)
      by false e true f = ((and_true (every (is_e_item c) (λ t. not (is_by_a c.s t)) code) (stays false code) (and_true outside (is_e_region c code) f).1).0, h)
      by false e false f = b

  pub regions_ok : (code : Form) (g : List Part) → AreOk (rounds c cap outside code g)
  regions_ok Done g = closed_ok g Done tt
  regions_ok (Do place item code) g = placed_ok place (stand c place item) g (rounds c cap outside code) (regions_ok code)
  regions_ok (If place t p q code) g =
      closed_ok g _ (sided_ok place (If place t p q Done) _ _ (regions_ok code []) (tt, regions_ok p [], regions_ok q [], regions_ok code []))
  regions_ok (Loop place p q code) g =
      closed_ok g _ (sided_ok place (Loop place p q Done) _ _ (regions_ok code []) (regions_ok p [], regions_ok q [], regions_ok code []))

-- ---- what groups are made of, from what items are

module _ (c : Classes) (cap : ℕ) (P : Part → Type 0) (L : Last → Type 0) where
  abbrev pub Has : Round → Type 0
  Has (Group g last) = AllByRecursion P g × L last
  Has (Alone jump) = Unit {0}
  Has (Region by_a code) = Unit {0}

  abbrev pub StandOk : Stand → Type 0
  StandOk (Joins p) = P p
  StandOk (Closes last) = L last
  StandOk (Separates jump) = Unit {0}

  abbrev AllHave : Rounds → Type 0
  AllHave r = Each Has (λ q. Unit {0}) r

  part_more : (g : List Part) (p : Part) → AllByRecursion P g → P p → AllByRecursion P (g ++ p ∷ [])
  part_more [] p h k = (k, tt)
  part_more (q ∷ g) p h k = (h.0, part_more g p h.1 k)

  module _ (nothing : L Nothing) where
    closed_has : (g : List Part) (r : Rounds) → AllByRecursion P g → AllHave r → AllHave (closed g r)
    closed_has [] r h k = k
    closed_has (p ∷ g) r h k = ((h, nothing), k)

    placed_has : (place : Place) (st : Stand) (g : List Part) (r : List Part → Rounds) → StandOk st → AllByRecursion P g → ((g : List Part) → AllByRecursion P g → AllHave (r g)) → AllHave (placed c cap g place st r)
    placed_has place (Joins p) g r ok h k = by (is_full c cap g p)
      where
        by : (b : Bool) → AllHave (if b then closed g (r (p ∷ [])) else r (g ++ p ∷ []))
        by true = closed_has g _ h (k (p ∷ []) (ok, tt))
        by false = k (g ++ p ∷ []) (part_more g p h ok)
    placed_has place (Closes last) g r ok h k = ((h, ok), k [] tt)
    placed_has place (Separates jump) g r ok h k = closed_has g _ h (tt, k [] tt)

    pub rounds_have : (code : Form) → Each (λ item. (place : Place) → StandOk (stand c place item)) (λ t. Unit {0}) code → (g : List Part) → AllByRecursion P g → AllHave (rounds c cap false code g)
    rounds_have Done is g h = closed_has g Done h tt
    rounds_have (Do place item code) is g h = placed_has place (stand c place item) g (rounds c cap false code) (is.0 place) h (rounds_have code is.1)
    rounds_have (If place t p q code) is g h = closed_has g _ h (tt, rounds_have p is.1 [] tt, rounds_have q is.2 [] tt, rounds_have code is.3 [] tt)
    rounds_have (Loop place p q code) is g h = closed_has g _ h (rounds_have p is.0 [] tt, rounds_have q is.1 [] tt, rounds_have code is.2 [] tt)

-- each item that passes a test is of a kind
pub every_each : (f : Item → Bool) (h : Test → Bool) (I : Item → Type 0) → ((item : Item) → f item ≡ true → I item) → (code : Form) → every f h code ≡ true → Each I (λ t. Unit {0}) code
every_each f h I all Done is = tt
every_each f h I all (Do place item k) is = let b = and_true (f item) (every f h k) is in (all item b.0, every_each f h I all k b.1)
every_each f h I all (If place t p q k) is =
    let a = and_true (h t) (every f h p && (every f h q && every f h k)) is in
    let b = and_true (every f h p) (every f h q && every f h k) a.1 in
    let d = and_true (every f h q) (every f h k) b.1 in
    (tt, every_each f h I all p b.0, every_each f h I all q d.0, every_each f h I all k d.1)
every_each f h I all (Loop place p q k) is =
    let b = and_true (every f h p) (every f h q && every f h k) is in
    let d = and_true (every f h q) (every f h k) b.1 in
    (every_each f h I all p b.0, every_each f h I all q d.0, every_each f h I all k d.1)

-- ---- what is taken in a round has its place in the budget

module _ (c : Classes) (d : Depths) where
  -- E takes a load, a copy, or hears of a check
  abbrev pub PartTaken : Part → Type 0
  PartTaken p = (is_for_e c p ≡ true → 1 ≤ d.ld) × (is_copied c p ≡ true → 1 ≤ d.cq) × (is_test p ≡ true → 1 ≤ d.ab)

  -- A hears of a check
  abbrev pub LastTaken : Last → Type 0
  LastTaken last = is_decided last ≡ true → 1 ≤ d.eb

  abbrev pub ETakes : Round → Type 0
  ETakes (Group g last) = AllByRecursion PartTaken g
  ETakes (Alone jump) = Unit {0}
  ETakes (Region true code) = has_loop code ≡ true → 1 ≤ d.ab
  ETakes (Region false code) = every (is_e_item c) (λ t. not (is_by_a c.s t)) code ≡ true

  abbrev pub ATakes : Round → Type 0
  ATakes (Group g last) = LastTaken last
  ATakes (Alone jump) = Unit {0}
  ATakes (Region true code) = every (is_a_item c) (is_by_a c.s) code ≡ true
  ATakes (Region false code) = Unit {0}

  head_counts : (b : Bool) (n m : ℕ) → (if b then 1 else 0) + n ≤ m → (b ≡ true → 1 ≤ m) × (n ≤ m)
  head_counts true n m h = ((λ e. omega arith), omega arith)
  head_counts false n m h = ((λ e. absurd (let x : false ≡ true = e in cc)), omega arith)

  head_any : (b rest : Bool) (X : Type 0) → (b || rest ≡ true → X) → (b ≡ true → X) × (rest ≡ true → X)
  head_any true rest X h = ((λ e. h refl), (λ e. h refl))
  head_any false rest X h = ((λ e. absurd (let x : false ≡ true = e in cc)), h)

  parts_taken : (g : List Part) → how_many (is_for_e c) g ≤ d.ld → how_many (is_copied c) g ≤ d.cq → (any_part is_test g ≡ true → 1 ≤ d.ab) → AllByRecursion PartTaken g
  parts_taken [] l k t = tt
  parts_taken (p ∷ g) l k t =
      let a = head_counts (is_for_e c p) (how_many (is_for_e c) g) d.ld l in
      let b = head_counts (is_copied c p) (how_many (is_copied c) g) d.cq k in
      let x = head_any (is_test p) (any_part is_test g) (1 ≤ d.ab) t in
      ((a.0, b.0, x.0), parts_taken g a.1 b.1 x.1)

  one_e : (r : Round) → AWithin c d r → AtMost (is_for_e c) d.ld r → AtMost (is_copied c) d.cq r → RegionOk c r → ETakes r
  one_e (Group g last) a l k ok = parts_taken g l k a.2
  one_e (Alone jump) a l k ok = tt
  one_e (Region true code) a l k ok = a.1
  one_e (Region false code) a l k ok = ok

  one_a : (r : Round) → EWithin d r → RegionOk c r → ATakes r
  one_a (Group g last) e ok = e.1
  one_a (Alone jump) e ok = tt
  one_a (Region true code) e ok = ok
  one_a (Region false code) e ok = tt

  pub e_takes : (r : Rounds) → Each (AWithin c d) (λ q. q.by_a ≡ true → 1 ≤ d.ab) r → Each (AtMost (is_for_e c) d.ld) (λ q. Unit {0}) r → Each (AtMost (is_copied c) d.cq) (λ q. Unit {0}) r → Each (RegionOk c) (λ q. Unit {0}) r
      → Each ETakes (λ q. q.by_a ≡ true → 1 ≤ d.ab) r
  e_takes Done a l k ok = tt
  e_takes (Do place r more) a l k ok = (one_e r a.0 l.0 k.0 ok.0, e_takes more a.1 l.1 k.1 ok.1)
  e_takes (If place q x y more) a l k ok = (a.0, e_takes x a.1 l.1 k.1 ok.1, e_takes y a.2 l.2 k.2 ok.2, e_takes more a.3 l.3 k.3 ok.3)
  e_takes (Loop place x y more) a l k ok = (e_takes x a.0 l.0 k.0 ok.0, e_takes y a.1 l.1 k.1 ok.1, e_takes more a.2 l.2 k.2 ok.2)

  pub a_takes : (r : Rounds) → Each (EWithin d) (λ q. q.by_a ≡ false → 1 ≤ d.eb) r → Each (RegionOk c) (λ q. Unit {0}) r → Each ATakes (λ q. q.by_a ≡ false → 1 ≤ d.eb) r
  a_takes Done e ok = tt
  a_takes (Do place r more) e ok = (one_a r e.0 ok.0, a_takes more e.1 ok.1)
  a_takes (If place q x y more) e ok = (e.0, a_takes x e.1 ok.1, a_takes y e.2 ok.2, a_takes more e.3 ok.3)
  a_takes (Loop place x y more) e ok = (a_takes x e.0 ok.0, a_takes y e.1 ok.1, a_takes more e.2 ok.2)
