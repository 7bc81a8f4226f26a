-- The groups of a form's pair come in order.
use Rattle.std.proofs.Common.{ℕ, ◌+◌, ◌≤◌, Bool, true, false, not, ◌&&◌, List, [], ◌∷◌, ◌++◌, if◌then◌else◌, sym, subst, arith}
use Rattle.std.specs.Prelude.{Some, None}
use Rattle.dae_base.specs.declared.Place.{Place}
use Rattle.dae_ir.specs.Code.{Each, Done, Do, If, Loop}
use Rattle.dae_ir.specs.Form.{Form, form_of}
use Rattle.dae_ir.specs.Classes.{Classes, classes_of}
use Rattle.dae_ir.specs.Rounds.{Round, Group, Alone, Region, Rounds, Stand, Joins, Closes, Separates, stand, closed, is_full, placed, is_a_region, is_e_region, region, one_sided, rounds}
use Rattle.dae_ir.specs.Streams.{Actions, mark, when, a_part, parts, message, gives_address, hears_check, group_of, inside_of, has_loop, region_of, side_of, stream_of}
use Rattle.dae_ir.specs.Budgets.{AllInside, AllLists}
use Rattle.dae_ir.specs.Programs.{AreFunctionsOf, IsPairOf}
use Rattle.dae_ir.specs.declared.form.Function.{Function}
use Rattle.dae_ir.specs.declared.form.Ir.{Ir}
use Rattle.dae_ir.specs.declared.stream.Class.{Class}
use Rattle.dae_ir.specs.declared.stream.Action.{Action}
use Rattle.dae_ir.specs.declared.stream.Action.TheVariants.{Set, Issue, Own, Offer, Tell}
use Rattle.dae_ir.specs.declared.form.Operand.TheVariants.{Number}
use Rattle.dae_ir.specs.declared.stream.Part.{Part}
use Rattle.dae_ir.specs.declared.stream.Part.TheVariants.{Sets, Loads, Tests}
use Rattle.dae_ir.specs.declared.stream.Last.{Last}
use Rattle.dae_ir.specs.declared.stream.Last.TheVariants.{Nothing, Stores, Prints, Decides}
use Rattle.dae_ir.specs.declared.stream.StreamFunction.{StreamFunction}
use Rattle.dae_ir.specs.declared.stream.Pair.{Pair}
use Rattle.dae_split_pair.specs.Tallies.{IsOrdered}

-- a list and all lists inside it
abbrev Good : ℕ → Actions → Type 0
Good n code = IsOrdered n code × AllInside (IsOrdered 0) code

earlier : (code : Actions) (g n : ℕ) → g ≤ n → IsOrdered n code → IsOrdered g code
earlier Done g n le o = tt
earlier (Do m x k) g n le o = (let a = o.0 in omega arith, o.1)
earlier (If m b p q k) g n le o = earlier k g n le o
earlier (Loop m p q k) g n le o = earlier k g n le o

good_earlier : (code : Actions) (g n : ℕ) → g ≤ n → Good n code → Good g code
good_earlier code g n le h = (earlier code g n le h.0, h.1)

good_do : (place : Place) (n : ℕ) (x : Action) (k : Actions) → Good n k → Good n (Do (mark place n) x k)
good_do place n x k h = ((omega arith, h.0), h.1)

good_when : (b : Bool) (place : Place) (n : ℕ) (x : Action) (k : Actions) → Good n k → Good n (when b (mark place n) x k)
good_when true place n x k h = good_do place n x k h
good_when false place n x k h = h

-- ---- groups

module _ (c : Classes) (n : ℕ) where
  good_a_part : (p : Part) (k : Actions) → Good n k → Good n (a_part c n p k)
  good_a_part (Sets place v x) k h =
      let copy = c.s v && c.needs v in
      good_when (c.s v) place n (Set v x) (when copy (mark place n) (Offer v) k) (good_when copy place n (Offer v) k h)
  good_a_part (Loads place v kind x) k h =
      let copy = c.s v && c.needs v in
      good_when (not (c.s v) && c.needs v) place n (Issue kind x) (when (c.s v) (mark place n) (Own v kind x) (when copy (mark place n) (Offer v) k))
      (good_when (c.s v) place n (Own v kind x) (when copy (mark place n) (Offer v) k) (good_when copy place n (Offer v) k h))
  good_a_part (Tests place check) k h = ((omega arith, h.0), h.1)

  good_a_parts : (g : List Part) (k : Actions) → Good n k → Good n (parts (a_part c n) g k)
  good_a_parts [] k h = h
  good_a_parts (p ∷ g) k h = good_a_part p (parts (a_part c n) g k) (good_a_parts g k h)

  good_message : (x : Action) (g : List Part) (k : Actions) → Good n k → Good n (message n x g k)
  good_message x [] k h = h
  good_message x (Sets place v y ∷ g) k h = good_message x g k h
  good_message x (Loads place v kind y ∷ g) k h = good_message x g k h
  good_message x (Tests place check ∷ g) k h = good_do place n x k h

  good_address : (last : Last) (k : Actions) → Good n k → Good n (gives_address n last k)
  good_address Nothing k h = h
  good_address (Stores place width x y) k h = ((omega arith, h.0), h.1)
  good_address (Prints place spelling x) k h = h
  good_address (Decides place check) k h = h

  good_hears : (last : Last) (k : Actions) → Good n k → Good n (hears_check n last k)
  good_hears Nothing k h = h
  good_hears (Stores place width x y) k h = h
  good_hears (Prints place spelling x) k h = h
  good_hears (Decides place check) k h = ((omega arith, h.0), h.1)

  good_group : (g : List Part) (last : Last) (k : Actions) → Good n k → Good n (group_of true c n g last k)
  good_group g last k h =
      let heard = hears_check n last k in
      let told = message n (Tell (Number 0)) g heard in
      good_a_parts g (gives_address n last told) (good_address last told (good_message (Tell (Number 0)) g heard (good_hears last k h)))

-- ---- rounds

-- no group is in the list itself
abbrev Flat : Rounds → Type 0
Flat Done = Unit {0}
Flat (Do place (Group g last) r) = ⊥
Flat (Do place (Alone jump) r) = Flat r
Flat (Do place (Region d code) r) = Flat r
Flat (If place d p q r) = Flat r
Flat (Loop place p q r) = Flat r

module _ (of : ℕ → Classes) (c : Classes) (cap : ℕ) where
  good_inside : (r : Rounds) (n : ℕ) (k : Actions) → ((m : ℕ) → n ≤ m → Good m k) → Good n (inside_of true of c n r k)
  good_inside Done n k h = h n (omega arith)
  good_inside (Do place (Group g last) r) n k h =
      good_group c n g last (inside_of true of c (n + 1) r k) (good_earlier (inside_of true of c (n + 1) r k) n (n + 1) (omega arith) (good_inside r (n + 1) k (λ m le. h m (omega arith))))
  good_inside (Do place (Alone jump) r) n k h = let rest = good_inside r n k h in ((omega arith, rest.0), rest.1)
  good_inside (Do place (Region d code) r) n k h = good_inside r n k h
  good_inside (If place d p q r) n k h =
      let rest = good_inside r n k h in
      (rest.0, (good_inside p 0 Done (λ m le. (tt, tt)), good_inside q 0 Done (λ m le. (tt, tt)), rest.1))
  good_inside (Loop place p q r) n k h =
      let rest = good_inside r n k h in
      (rest.0, (good_inside p 0 Done (λ m le. (tt, tt)), good_inside q 0 Done (λ m le. (tt, tt)), rest.1))

  good_flat : (r : Rounds) (n : ℕ) (k : Actions) → Flat r → Good n k → Good n (inside_of true of c n r k)
  good_flat Done n k f h = h
  good_flat (Do place (Group g last) r) n k f h = absurd f
  good_flat (Do place (Alone jump) r) n k f h = let rest = good_flat r n k f h in ((omega arith, rest.0), rest.1)
  good_flat (Do place (Region d code) r) n k f h = good_flat r n k f h
  good_flat (If place d p q r) n k f h =
      let rest = good_flat r n k f h in
      (rest.0, (good_inside p 0 Done (λ m le. (tt, tt)), good_inside q 0 Done (λ m le. (tt, tt)), rest.1))
  good_flat (Loop place p q r) n k f h =
      let rest = good_flat r n k f h in
      (rest.0, (good_inside p 0 Done (λ m le. (tt, tt)), good_inside q 0 Done (λ m le. (tt, tt)), rest.1))

  -- each region is an If or a Loop alone
  abbrev RegionFlat : Round → Type 0
  RegionFlat (Group g last) = Unit {0}
  RegionFlat (Alone jump) = Unit {0}
  RegionFlat (Region d code) = Flat (rounds c cap false code [])

  abbrev AllFlat : Rounds → Type 0
  AllFlat r = Each RegionFlat (λ q. Unit {0}) r

  good_region : (d : Bool) (n : ℕ) (place : Place) (code : Form) (k : Actions) → RegionFlat (Region d code) → Good n k → Good n (region_of true of c cap n place d code k)
  good_region true n place code k f h = good_flat (rounds c cap false code []) n (when (has_loop code) (mark place n) (Tell (Number 0)) k) f (good_when (has_loop code) place n (Tell (Number 0)) k h)
  good_region false n place code k f h = h

  good_side : (r : Rounds) → AllFlat r → (n : ℕ) (k : Actions) → ((m : ℕ) → n ≤ m → Good m k) → Good n (side_of true of c cap n r k)
  good_side Done f n k h = h n (omega arith)
  good_side (Do place (Group g last) r) f n k h =
      good_group c n g last (side_of true of c cap (n + 1) r k) (good_earlier (side_of true of c cap (n + 1) r k) n (n + 1) (omega arith) (good_side r f.1 (n + 1) k (λ m le. h m (omega arith))))
  good_side (Do place (Alone jump) r) f n k h = let rest = good_side r f.1 n k h in ((omega arith, rest.0), rest.1)
  good_side (Do place (Region d code) r) f n k h = good_region d n place code (side_of true of c cap n r k) f.0 (good_side r f.1 n k h)
  good_side (If place d p q r) f n k h =
      let rest = good_side r f.3 n k h in
      (rest.0, (good_side p f.1 0 Done (λ m le. (tt, tt)), good_side q f.2 0 Done (λ m le. (tt, tt)), rest.1))
  good_side (Loop place p q r) f n k h =
      let rest = good_side r f.2 n k h in
      (rest.0, (good_side p f.0 0 Done (λ m le. (tt, tt)), good_side q f.1 0 Done (λ m le. (tt, tt)), rest.1))

  -- ---- the rounds of a form have such regions

  module _ (outside : Bool) where
    closed_flat : (g : List Part) (r : Rounds) → AllFlat r → AllFlat (closed g r)
    closed_flat [] r h = h
    closed_flat (p ∷ g) r h = (tt, h)

    placed_flat : (place : Place) (st : Stand) (g : List Part) (r : List Part → Rounds) → ((g : List Part) → AllFlat (r g)) → AllFlat (placed c cap g place st r)
    placed_flat place (Joins p) g r h = by_room (is_full c cap g p)
      where
        by_room : (b : Bool) → AllFlat (if b then closed g (r (p ∷ [])) else r (g ++ p ∷ []))
        by_room true = closed_flat g (r (p ∷ [])) (h (p ∷ []))
        by_room false = h (g ++ p ∷ [])
    placed_flat place (Closes last) g r h = (tt, h [])
    placed_flat place (Separates jump) g r h = closed_flat g (Do place (Alone jump) (r [])) (tt, h [])

    sided_flat : (place : Place) (code : Form) (k both : Rounds) → Flat (rounds c cap false code []) → AllFlat k → AllFlat both → AllFlat (one_sided (region outside c code) place code k both)
    sided_flat place code k both f h b = by_side (outside && is_a_region c code) (outside && is_e_region c code)
      where
        by_side : (x y : Bool) → AllFlat (one_sided (if x then Some true else (if y then Some false else None)) place code k both)
        by_side true y = (f, h)
        by_side false true = (f, h)
        by_side false false = b

    rounds_flat : (code : Form) (g : List Part) → AllFlat (rounds c cap outside code g)
    rounds_flat Done g = closed_flat g Done tt
    rounds_flat (Do place item code) g = placed_flat place (stand c place item) g (rounds c cap outside code) (rounds_flat code)
    rounds_flat (If place t p q code) g =
        closed_flat g _ (sided_flat place (If place t p q Done) _ _ tt (rounds_flat code []) (tt, rounds_flat p [], rounds_flat q [], rounds_flat code []))
    rounds_flat (Loop place p q code) g =
        closed_flat g _ (sided_flat place (Loop place p q Done) _ _ tt (rounds_flat code []) (rounds_flat p [], rounds_flat q [], rounds_flat code []))

  good_stream : (form : Form) → Good 0 (stream_of true of c cap form)
  good_stream form = good_side (rounds c cap true form []) (rounds_flat true form []) 0 Done (λ m le. (tt, tt))

-- ---- whole pairs

functions_ordered : (of : ℕ → Classes) (cap k : ℕ) (fs : List Function) (gs : List StreamFunction) → AreFunctionsOf true of cap k fs gs → AllLists (IsOrdered 0) gs
functions_ordered of cap k [] [] h = tt
functions_ordered of cap k [] (g ∷ gs) h = absurd h
functions_ordered of cap k (f ∷ fs) [] h = absurd h
functions_ordered of cap k (f ∷ fs) (g ∷ gs) h = (
  subst (λ (code : Actions). Good 0 code) (sym h.0.body) (good_stream of (of k) cap (form_of f.body)),
  functions_ordered of cap (k + 1) fs gs h.1,
)

pub pair_ordered : (ir : Ir) (tables : List (List Class)) (cap : ℕ) (pair : Pair) → IsPairOf ir tables cap pair → AllLists (IsOrdered 0) pair.a.functions
pair_ordered ir tables cap pair h = functions_ordered (classes_of tables) cap 0 ir.functions pair.a.functions h.a.functions
