-- No group of a side's actions has more loads for E, nor more copies, than the cap.
use Rattle.std.proofs.Common.{◌≡◌, ℕ, ◌+◌, ◌<◌, ◌≤◌, Bool, true, false, not, ◌&&◌, ◌||◌, nat_eq, List, [], ◌∷◌, ◌++◌, Some, None, if◌then◌else◌, refl, ap, ◌∙◌, arith}
use Rattle.std.proofs.lemmas.Bool.Decides.{nat_tests}
use Rattle.dae_base.proofs.Laws.{and_true}
use Rattle.dae_base.specs.declared.Place.{Place}
use Rattle.dae_ir.specs.Code.{Done, Do, If, Loop, Each, every}
use Rattle.dae_ir.specs.Form.{Form}
use Rattle.dae_ir.specs.Classes.{Classes, is_by_a}
use Rattle.dae_ir.specs.Rounds.{Jump, Breaks, Continues, Enters, Gives, Halts, Round, Group, Alone, Region, Rounds, Stand, Joins, Closes, Separates, stand, closed, is_for_e, is_copied, how_many, is_full, placed, is_a_item, is_a_region, is_e_region, region, one_sided, stays, rounds}
use Rattle.dae_ir.specs.Streams.{Actions, mark, when, a_part, parts, message, gives_address, hears_check, a_group, jump_action, inside_of, side_of, has_loop}
use Rattle.dae_ir.specs.Budgets.{is_load_for_e, is_copy, in_group, AllInside}
use Rattle.dae_ir_pair.proofs.Small.{NoneOf}
use Rattle.dae_ir_pair.proofs.Tails.{Bounded}
use Rattle.dae_ir.specs.declared.form.Operand.TheVariants.{Number}
use Rattle.dae_ir.specs.declared.stream.Part.{Part}
use Rattle.dae_ir.specs.declared.stream.Part.TheVariants.{Sets, Loads, Tests}
use Rattle.dae_ir.specs.declared.stream.Last.{Last}
use Rattle.dae_ir.specs.declared.stream.Last.TheVariants.{Nothing, Stores, Prints, Decides}
use Rattle.dae_ir.specs.declared.stream.Mark.{Mark}
use Rattle.dae_ir.specs.declared.stream.Action.{Action}
use Rattle.dae_ir.specs.declared.stream.Action.TheVariants.{Set, Issue, Own, Offer, Tell, Hear, Address}

-- ---- each region of A is one

abbrev pub RegionOk : Classes → Round → Type 0
RegionOk c (Group g last) = Unit {0}
RegionOk c (Alone jump) = Unit {0}
RegionOk c (Region true code) = every (is_a_item c) (is_by_a c.s) code ≡ true
RegionOk c (Region false code) = Unit {0}

module _ (c : Classes) (cap : ℕ) (outside : Bool) where
  abbrev Regions' : Rounds → Type 0
  Regions' r = Each (RegionOk c) (λ q. Unit {0}) r

  closed_ok : (g : List Part) (r : Rounds) → Regions' r → Regions' (closed g r)
  closed_ok [] r k = k
  closed_ok (p ∷ g) r k = (tt, k)

  placed_ok : (place : Place) (st : Stand) (g : List Part) (r : List Part → Rounds) → ((g : List Part) → Regions' (r g)) → Regions' (placed c cap g place st r)
  placed_ok place (Joins p) g r k = by (is_full c cap g p) where
    by : (b : Bool) → Regions' (if b then closed g (r (p ∷ [])) else r (g ++ p ∷ []))
    by true = closed_ok g _ (k (p ∷ []))
    by false = k (g ++ p ∷ [])
  placed_ok place (Closes last) g r k = (tt, k [])
  placed_ok place (Separates jump) g r k = closed_ok g _ (tt, k [])

  sided_ok : (place : Place) (code : Form) (k both : Rounds) → Regions' k → Regions' both → Regions' (one_sided (region outside c code) place code k both)
  sided_ok place code k both h b = by (outside && is_a_region c code) refl (outside && is_e_region c code) where
    by : (x : Bool) → outside && is_a_region c code ≡ x → (y : Bool) → Regions' (one_sided (if x then Some true else (if y then Some false else None)) place code k both)
    by true e y = ((and_true (every (is_a_item c) (is_by_a c.s) code) (stays false code) (and_true outside (is_a_region c code) e).1).0, h)
    by false e true = (tt, h)
    by false e false = b

  pub regions_ok : (code : Form) (g : List Part) → Regions' (rounds c cap outside code g)
  regions_ok Done g = closed_ok g Done tt
  regions_ok (Do place item code) g = placed_ok place (stand c place item) g (rounds c cap outside code) (regions_ok code)
  regions_ok (If place t p q code) g =
      closed_ok g _ (sided_ok place (If place t p q Done) _ _ (regions_ok code []) (tt, regions_ok p [], regions_ok q [], regions_ok code []))
  regions_ok (Loop place p q code) g =
      closed_ok g _ (sided_ok place (Loop place p q Done) _ _ (regions_ok code []) (regions_ok p [], regions_ok q [], regions_ok code []))

-- ---- counts of a group's actions

pub loads_at : (c : Classes) (n g : ℕ) (p : Part) (k : Actions) → in_group is_load_for_e g (a_part c n p k) ≡ (if is_for_e c p && nat_eq n g then 1 else 0) + in_group is_load_for_e g k
loads_at c n g (Sets place v x) k = by (c.s v) (c.needs v) where
  by : (s e : Bool) → in_group is_load_for_e g (when s (mark place n) (Set v x) (when (s && e) (mark place n) (Offer v) k)) ≡ 0 + in_group is_load_for_e g k
  by true true = omega (arith)
  by true false = omega (arith)
  by false e = omega (arith)
loads_at c n g (Loads place v kind x) k = by (c.s v) (c.needs v) where
  by : (s e : Bool) → in_group is_load_for_e g (when (not s && e) (mark place n) (Issue kind x) (when s (mark place n) (Own v kind x) (when (s && e) (mark place n) (Offer v) k))) ≡ (if (not s && e) && nat_eq n g then 1 else 0) + in_group is_load_for_e g k
  by true true = omega (arith)
  by true false = omega (arith)
  by false true = refl
  by false false = omega (arith)
loads_at c n g (Tests place check) k = omega (arith)

pub copies_at : (c : Classes) (n g : ℕ) (p : Part) (k : Actions) → in_group is_copy g (a_part c n p k) ≡ (if is_copied c p && nat_eq n g then 1 else 0) + in_group is_copy g k
copies_at c n g (Sets place v x) k = by (c.s v) (c.needs v) where
  by : (s e : Bool) → in_group is_copy g (when s (mark place n) (Set v x) (when (s && e) (mark place n) (Offer v) k)) ≡ (if (s && e) && nat_eq n g then 1 else 0) + in_group is_copy g k
  by true true = omega (arith)
  by true false = omega (arith)
  by false e = omega (arith)
copies_at c n g (Loads place v kind x) k = by (c.s v) (c.needs v) where
  by : (s e : Bool) → in_group is_copy g (when (not s && e) (mark place n) (Issue kind x) (when s (mark place n) (Own v kind x) (when (s && e) (mark place n) (Offer v) k))) ≡ (if (s && e) && nat_eq n g then 1 else 0) + in_group is_copy g k
  by true true = omega (arith)
  by true false = omega (arith)
  by false true = omega (arith)
  by false false = omega (arith)
copies_at c n g (Tests place check) k = omega (arith)

nat_different : (n g : ℕ) → g < n → nat_eq n g ≡ false
nat_different n g h = by (nat_eq n g) refl where
  by : (b : Bool) → nat_eq n g ≡ b → b ≡ false
  by true e = absurd (grind (arith, nat_tests))
  by false e = refl

-- what is no load for E and no copy
abbrev pub is_sent : Action → Bool
is_sent x = is_load_for_e x || is_copy x

module _ (c : Classes) (f : Action → Bool) (kind : Part → Bool) (others : (x : Action) → is_sent x ≡ false → f x ≡ false)
    (counts : (n g : ℕ) (p : Part) (k : Actions) → in_group f g (a_part c n p k) ≡ (if kind p && nat_eq n g then 1 else 0) + in_group f g k) where
  skip : (m : Mark) (x : Action) (k : Actions) (g : ℕ) → is_sent x ≡ false → in_group f g (Do m x k) ≡ in_group f g k
  skip m x k g e = rw (others x e) (omega (arith))

  parts_at : (n g : ℕ) (ps : List Part) (k : Actions) → in_group f g (parts (a_part c n) ps k) ≡ (if nat_eq n g then how_many kind ps else 0) + in_group f g k
  parts_at n g [] k = by (nat_eq n g) where
    by : (b : Bool) → in_group f g k ≡ (if b then 0 else 0) + in_group f g k
    by true = omega (arith)
    by false = omega (arith)
  parts_at n g (p ∷ ps) k = counts n g p (parts (a_part c n) ps k) ∙ ap (λ z. (if kind p && nat_eq n g then 1 else 0) + z) (parts_at n g ps k) ∙ by (kind p) (nat_eq n g) where
    by : (a b : Bool) → (if a && b then 1 else 0) + ((if b then how_many kind ps else 0) + in_group f g k) ≡ (if b then (if a then 1 else 0) + how_many kind ps else 0) + in_group f g k
    by true true = omega (arith)
    by true false = omega (arith)
    by false true = omega (arith)
    by false false = omega (arith)

  message_at : (n g : ℕ) (ps : List Part) (k : Actions) → in_group f g (message n (Tell (Number 0)) ps k) ≡ in_group f g k
  message_at n g [] k = refl
  message_at n g (Sets place v y ∷ ps) k = message_at n g ps k
  message_at n g (Loads place v kind y ∷ ps) k = message_at n g ps k
  message_at n g (Tests place check ∷ ps) k = skip (mark place n) (Tell (Number 0)) k g refl

  address_at : (n g : ℕ) (last : Last) (k : Actions) → in_group f g (gives_address n last k) ≡ in_group f g k
  address_at n g Nothing k = refl
  address_at n g (Stores place width x y) k = skip (mark place n) (Address width x) k g refl
  address_at n g (Prints place spelling x) k = refl
  address_at n g (Decides place check) k = refl

  hears_at : (n g : ℕ) (last : Last) (k : Actions) → in_group f g (hears_check n last k) ≡ in_group f g k
  hears_at n g Nothing k = refl
  hears_at n g (Stores place width x y) k = refl
  hears_at n g (Prints place spelling x) k = refl
  hears_at n g (Decides place check) k = skip (mark place n) (Hear None) k g refl

  group_at : (n g : ℕ) (ps : List Part) (last : Last) (k : Actions) → in_group f g (a_group c n ps last k) ≡ (if nat_eq n g then how_many kind ps else 0) + in_group f g k
  group_at n g ps last k =
      parts_at n g ps _ ∙ ap (λ z. (if nat_eq n g then how_many kind ps else 0) + z)
      (address_at n g last (message n (Tell (Number 0)) ps (hears_check n last k)) ∙ (message_at n g ps (hears_check n last k) ∙ hears_at n g last k))

  jump_is_other : (of : ℕ → Classes) (jump : Jump) → is_sent (jump_action true of c jump) ≡ false
  jump_is_other of Breaks = refl
  jump_is_other of Continues = refl
  jump_is_other of (Enters v h xs) = refl
  jump_is_other of (Gives x) = refl
  jump_is_other of (Halts x) = refl

  -- ---- lists inside

  module _ (P : Actions → Type 0) where
    inside_when : (b : Bool) (m : Mark) (x : Action) (k : Actions) → AllInside P k → AllInside P (when b m x k)
    inside_when true m x k h = h
    inside_when false m x k h = h

    inside_part : (n : ℕ) (p : Part) (k : Actions) → AllInside P k → AllInside P (a_part c n p k)
    inside_part n (Sets place v x) k h =
        inside_when (c.s v) (mark place n) (Set v x) _ (inside_when (c.s v && c.needs v) (mark place n) (Offer v) k h)
    inside_part n (Loads place v kind x) k h =
        inside_when (not (c.s v) && c.needs v) (mark place n) (Issue kind x) _
        (inside_when (c.s v) (mark place n) (Own v kind x) _ (inside_when (c.s v && c.needs v) (mark place n) (Offer v) k h))
    inside_part n (Tests place check) k h = h

    inside_parts : (n : ℕ) (ps : List Part) (k : Actions) → AllInside P k → AllInside P (parts (a_part c n) ps k)
    inside_parts n [] k h = h
    inside_parts n (p ∷ ps) k h = inside_part n p _ (inside_parts n ps k h)

    inside_message : (n : ℕ) (ps : List Part) (k : Actions) → AllInside P k → AllInside P (message n (Tell (Number 0)) ps k)
    inside_message n [] k h = h
    inside_message n (Sets place v y ∷ ps) k h = inside_message n ps k h
    inside_message n (Loads place v kind y ∷ ps) k h = inside_message n ps k h
    inside_message n (Tests place check ∷ ps) k h = h

    inside_address : (n : ℕ) (last : Last) (k : Actions) → AllInside P k → AllInside P (gives_address n last k)
    inside_address n Nothing k h = h
    inside_address n (Stores place width x y) k h = h
    inside_address n (Prints place spelling x) k h = h
    inside_address n (Decides place check) k h = h

    inside_hears : (n : ℕ) (last : Last) (k : Actions) → AllInside P k → AllInside P (hears_check n last k)
    inside_hears n Nothing k h = h
    inside_hears n (Stores place width x y) k h = h
    inside_hears n (Prints place spelling x) k h = h
    inside_hears n (Decides place check) k h = h

    inside_group : (n : ℕ) (ps : List Part) (last : Last) (k : Actions) → AllInside P k → AllInside P (a_group c n ps last k)
    inside_group n ps last k h =
        inside_parts n ps _ (inside_address n last _ (inside_message n ps _ (inside_hears n last k h)))

  -- ---- the cap

  module _ (of : ℕ → Classes) (cap : ℕ) where
    -- no group of a list has more
    abbrev Few : Actions → Type 0
    Few l = (g : ℕ) → in_group f g l ≤ cap

    -- a region of A adds none
    region_at : (r : Rounds) (n : ℕ) (k : Actions) → Each (NoneOf kind) (λ q. Unit {0}) r → (g : ℕ) → in_group f g (inside_of true of c n r k) ≡ in_group f g k
    region_at Done n k h g = refl
    region_at (Do place (Group ps last) r) n k h g =
        group_at n g ps last (inside_of true of c (n + 1) r k) ∙ by (nat_eq n g) (region_at r (n + 1) k h.1 g) where
          by : (b : Bool) → in_group f g (inside_of true of c (n + 1) r k) ≡ in_group f g k → (if b then how_many kind ps else 0) + in_group f g (inside_of true of c (n + 1) r k) ≡ in_group f g k
          by true e = omega (arith, h.0, e)
          by false e = omega (arith, e)
    region_at (Do place (Alone jump) r) n k h g =
        skip (mark place n) (jump_action true of c jump) (inside_of true of c n r k) g (jump_is_other of jump) ∙ region_at r n k h.1 g
    region_at (Do place (Region d code) r) n k h g = region_at r n k h.1 g
    region_at (If place q x y r) n k h g = region_at r n k h.3 g
    region_at (Loop place x y r) n k h g = region_at r n k h.2 g

    few_in_region : (r : Rounds) → Each (NoneOf kind) (λ q. Unit {0}) r → Few (inside_of true of c 0 r Done)
    few_in_region r h g = omega (arith, region_at r 0 Done h g)

    region_inside : (r : Rounds) (n : ℕ) (k : Actions) → Each (NoneOf kind) (λ q. Unit {0}) r → AllInside Few k → AllInside Few (inside_of true of c n r k)
    region_inside Done n k h a = a
    region_inside (Do place (Group ps last) r) n k h a = inside_group Few n ps last _ (region_inside r (n + 1) k h.1 a)
    region_inside (Do place (Alone jump) r) n k h a = region_inside r n k h.1 a
    region_inside (Do place (Region d code) r) n k h a = region_inside r n k h.1 a
    region_inside (If place q x y r) n k h a =
        ((few_in_region x h.1, region_inside x 0 Done h.1 tt), (few_in_region y h.2, region_inside y 0 Done h.2 tt), region_inside r n k h.3 a)
    region_inside (Loop place x y r) n k h a =
        ((few_in_region x h.0, region_inside x 0 Done h.0 tt), (few_in_region y h.1, region_inside y 0 Done h.1 tt), region_inside r n k h.2 a)

    -- what holds of each round
    abbrev pub Capped : Round → Type 0
    Capped (Group ps last) = how_many kind ps ≤ cap
    Capped (Alone jump) = Unit {0}
    Capped (Region true code) = Each (NoneOf kind) (λ q. Unit {0}) (rounds c cap false code [])
    Capped (Region false code) = Unit {0}

    -- a region's message adds none
    tell_at : (b : Bool) (m : Mark) (k : Actions) (g : ℕ) → in_group f g (when b m (Tell (Number 0)) k) ≡ in_group f g k
    tell_at true m k g = skip m (Tell (Number 0)) k g refl
    tell_at false m k g = refl

    -- groups behind n others have numbers from n on
    low : (r : Rounds) (n : ℕ) → Each Capped (λ q. Unit {0}) r → (g : ℕ) → g < n → in_group f g (side_of true of c cap n r Done) ≡ 0
    low Done n h g l = refl
    low (Do place (Group ps last) r) n h g l =
        group_at n g ps last (side_of true of c cap (n + 1) r Done) ∙ rw (nat_different n g l) (omega (arith, low r (n + 1) h.1 g (omega (arith, l))))
    low (Do place (Alone jump) r) n h g l =
        skip (mark place n) (jump_action true of c jump) (side_of true of c cap n r Done) g (jump_is_other of jump) ∙ low r n h.1 g l
    low (Do place (Region true code) r) n h g l =
        region_at (rounds c cap false code []) n _ h.0 g ∙ (tell_at (has_loop code) (mark place n) (side_of true of c cap n r Done) g ∙ low r n h.1 g l)
    low (Do place (Region false code) r) n h g l = low r n h.1 g l
    low (If place q x y r) n h g l = low r n h.3 g l
    low (Loop place x y r) n h g l = low r n h.2 g l

    few : (r : Rounds) (n : ℕ) → Each Capped (λ q. Unit {0}) r → Few (side_of true of c cap n r Done)
    few Done n h g = omega (arith)
    few (Do place (Group ps last) r) n h g = by (nat_eq n g) refl (few r (n + 1) h.1 g) where
      by : (b : Bool) → nat_eq n g ≡ b → in_group f g (side_of true of c cap (n + 1) r Done) ≤ cap → in_group f g (a_group c n ps last (side_of true of c cap (n + 1) r Done)) ≤ cap
      by true e l =
          let same : n ≡ g = grind (arith, nat_tests) in
          let none = low r (n + 1) h.1 g (omega (arith, same)) in
          let all : in_group f g (a_group c n ps last (side_of true of c cap (n + 1) r Done)) ≡ how_many kind ps + in_group f g (side_of true of c cap (n + 1) r Done) =
          group_at n g ps last (side_of true of c cap (n + 1) r Done) ∙ rw (e) refl in
          omega (arith, none, all, h.0)
      by false e l =
          let all : in_group f g (a_group c n ps last (side_of true of c cap (n + 1) r Done)) ≡ 0 + in_group f g (side_of true of c cap (n + 1) r Done) =
          group_at n g ps last (side_of true of c cap (n + 1) r Done) ∙ rw (e) refl in
          omega (arith, all, l)
    few (Do place (Alone jump) r) n h g =
        omega (arith, skip (mark place n) (jump_action true of c jump) (side_of true of c cap n r Done) g (jump_is_other of jump), few r n h.1 g)
    few (Do place (Region true code) r) n h g =
        omega (
          arith,
          region_at (rounds c cap false code []) n (when (has_loop code) (mark place n) (Tell (Number 0)) (side_of true of c cap n r Done)) h.0 g,
          tell_at (has_loop code) (mark place n) (side_of true of c cap n r Done) g,
          few r n h.1 g,
        )
    few (Do place (Region false code) r) n h g = few r n h.1 g
    few (If place q x y r) n h g = few r n h.3 g
    few (Loop place x y r) n h g = few r n h.2 g

    side_inside : (r : Rounds) (n : ℕ) → Each Capped (λ q. Unit {0}) r → AllInside Few (side_of true of c cap n r Done)
    side_inside Done n h = tt
    side_inside (Do place (Group ps last) r) n h = inside_group Few n ps last _ (side_inside r (n + 1) h.1)
    side_inside (Do place (Alone jump) r) n h = side_inside r n h.1
    side_inside (Do place (Region true code) r) n h =
        region_inside (rounds c cap false code []) n _ h.0 (inside_when Few (has_loop code) (mark place n) (Tell (Number 0)) _ (side_inside r n h.1))
    side_inside (Do place (Region false code) r) n h = side_inside r n h.1
    side_inside (If place q x y r) n h =
        ((few x 0 h.1, side_inside x 0 h.1), (few y 0 h.2, side_inside y 0 h.2), side_inside r n h.3)
    side_inside (Loop place x y r) n h =
        ((few x 0 h.0, side_inside x 0 h.0), (few y 0 h.1, side_inside y 0 h.1), side_inside r n h.2)

    pub bounded : (r : Rounds) → Each Capped (λ q. Unit {0}) r → Bounded f cap (side_of true of c cap 0 r Done)
    bounded r h = (few r 0 h, side_inside r 0 h)
