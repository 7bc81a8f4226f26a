-- The streams of a form whose functions end with a return or a halt.
use Rattle.std.proofs.Common.{◌≡◌, ℕ, ◌+◌, ◌<◌, Bool, true, false, not, ◌&&◌, List, [], ◌∷◌, ◌++◌, refl, sym, subst}
use Rattle.std.specs.Prelude.{Option, Some, None, is_some, if◌then◌else◌}
use Rattle.dae_base.specs.declared.Place.{Place}
use Rattle.dae_ir.specs.Code.{Done, Do, If, Loop, Each}
use Rattle.dae_ir.specs.Form.{Form}
use Rattle.dae_ir.specs.Classes.{Classes, has_check}
use Rattle.dae_ir.specs.Rounds.{Jump, Breaks, Continues, Enters, Gives, Halts, Round, Group, Alone, Region, Decision, Rounds, Joins, Closes, is_full, closed, placed, stays, region, one_sided, rounds}
use Rattle.dae_ir.specs.Streams.{Actions, mark, when, a_part, e_part, parts, message, gives_address, hears_check, e_last, group_of, set_of, kept, jump_action, inside_of, has_loop, region_of, side_of, stream_of, only_failure}
use Rattle.dae_ir.specs.declared.form.Item.{Item}
use Rattle.dae_ir.specs.declared.form.Item.TheVariants.{Assign, Load, Store, Print, Expect, Break as Leave, Continue as Skip, Call as Enter, Return as Give, Halt}
use Rattle.dae_ir.specs.declared.form.Operand.TheVariants.{Number}
use Rattle.dae_ir.specs.declared.form.Test.{Test}
use Rattle.dae_ir.specs.declared.stream.Part.{Part}
use Rattle.dae_ir.specs.declared.stream.Part.TheVariants.{Sets, Loads, Tests}
use Rattle.dae_ir.specs.declared.stream.Last.{Last}
use Rattle.dae_ir.specs.declared.stream.Last.TheVariants.{Nothing, Stores, Prints, Decides}
use Rattle.dae_ir.specs.declared.stream.Mark.{Mark}
use Rattle.dae_ir.specs.declared.stream.Action.{Action}
use Rattle.dae_ir.specs.declared.stream.Action.TheVariants.{Set as Compute, Issue, Own, Receive, Address, Datum, Offer, Accept, Emit, Probe, Tell, Hear, Stop, Break, Continue, Call, Return}
use Rattle.dae_link_faithful.specs.Made.{IsFit, AnyBranch, IsTight, IsClosed}
use Rattle.dae_link_faithful.proofs.Usable.{FormCloses}

abbrev is_plain : Action → Bool
is_plain Break = false
is_plain Continue = false
is_plain (Call v f xs) = false
is_plain (Return x) = false
is_plain (Stop x) = false
is_plain a = true

-- ---- what a group in front keeps

module _ (Q : Actions → Type 0) (plain : (m : Mark) (a : Action) (k : Actions) → is_plain a ≡ true → Q k → Q (Do m a k)) where
  when_keeps : (b : Bool) (m : Mark) (a : Action) (k : Actions) → is_plain a ≡ true → Q k → Q (when b m a k)
  when_keeps true m a k e h = plain m a k e h
  when_keeps false m a k e h = h

  a_part_keeps : (c : Classes) (n : ℕ) (p : Part) (k : Actions) → Q k → Q (a_part c n p k)
  a_part_keeps c n (Sets place v x) k h = when_keeps (c.s v) _ _ _ refl (when_keeps (c.s v && c.needs v) _ _ _ refl h)
  a_part_keeps c n (Loads place v kind x) k h = when_keeps (not (c.s v) && c.needs v) _ _ _ refl (when_keeps (c.s v) _ _ _ refl (when_keeps (c.s v && c.needs v) _ _ _ refl h))
  a_part_keeps c n (Tests place check) k h = plain _ _ _ refl h

  e_part_keeps : (c : Classes) (n : ℕ) (p : Part) (k : Actions) → Q k → Q (e_part c n p k)
  e_part_keeps c n (Sets place v x) k h = when_keeps (c.s v && c.needs v) _ _ _ refl (when_keeps (not (c.s v) && c.needs v) _ _ _ refl h)
  e_part_keeps c n (Loads place v kind x) k h = when_keeps (c.s v && c.needs v) _ _ _ refl (when_keeps (not (c.s v) && c.needs v) _ _ _ refl h)
  e_part_keeps c n (Tests place check) k h = h

  parts_keep : (f : Part → Actions → Actions) → ((p : Part) (k : Actions) → Q k → Q (f p k)) → (g : List Part) (k : Actions) → Q k → Q (parts f g k)
  parts_keep f keeps [] k h = h
  parts_keep f keeps (p ∷ g) k h = keeps p (parts f g k) (parts_keep f keeps g k h)

  message_keeps : (n : ℕ) (a : Action) (g : List Part) (k : Actions) → is_plain a ≡ true → Q k → Q (message n a g k)
  message_keeps n a [] k e h = h
  message_keeps n a (Sets place v y ∷ g) k e h = message_keeps n a g k e h
  message_keeps n a (Loads place v kind y ∷ g) k e h = message_keeps n a g k e h
  message_keeps n a (Tests place check ∷ g) k e h = plain _ _ _ e h

  address_keeps : (n : ℕ) (last : Last) (k : Actions) → Q k → Q (gives_address n last k)
  address_keeps n Nothing k h = h
  address_keeps n (Stores place width x y) k h = plain _ _ _ refl h
  address_keeps n (Prints place spelling x) k h = h
  address_keeps n (Decides place check) k h = h

  hears_keeps : (n : ℕ) (last : Last) (k : Actions) → Q k → Q (hears_check n last k)
  hears_keeps n Nothing k h = h
  hears_keeps n (Stores place width x y) k h = h
  hears_keeps n (Prints place spelling x) k h = h
  hears_keeps n (Decides place check) k h = plain _ _ _ refl h

  last_keeps : (n : ℕ) (last : Last) (k : Actions) → Q k → Q (e_last n last k)
  last_keeps n Nothing k h = h
  last_keeps n (Stores place width x y) k h = plain _ _ _ refl h
  last_keeps n (Prints place spelling x) k h = plain _ _ _ refl h
  last_keeps n (Decides place check) k h = plain _ _ _ refl (plain _ _ _ refl h)

  group_keeps : (by_a : Bool) (c : Classes) (n : ℕ) (g : List Part) (last : Last) (k : Actions) → Q k → Q (group_of by_a c n g last k)
  group_keeps true c n g last k h = parts_keep (a_part c n) (a_part_keeps c n) g _ (address_keeps n last _ (message_keeps n (Tell (Number 0)) g _ refl (hears_keeps n last k h)))
  group_keeps false c n g last k h = message_keeps n (Hear (only_failure g)) g _ refl (parts_keep (e_part c n) (e_part_keeps c n) g _ (last_keeps n last k h))

-- ---- the same of rounds

module _ (Q : Rounds → Type 0) (grouped : (place : Place) (g : List Part) (last : Last) (k : Rounds) → Q k → Q (Do place (Group g last) k)) where
  closed_keeps : (g : List Part) (k : Rounds) → Q k → Q (closed g k)
  closed_keeps [] k h = h
  closed_keeps (p ∷ g) k h = grouped _ (p ∷ g) Nothing k h

  joined_keeps : (c : Classes) (cap : ℕ) (g : List Part) (place : Place) (p : Part) (r : List Part → Rounds) → ((g : List Part) → Q (r g)) → Q (placed c cap g place (Joins p) r)
  joined_keeps c cap g place p r h = by (is_full c cap g p)
    where
      by : (b : Bool) → Q (if b then closed g (r (p ∷ [])) else r (g ++ p ∷ []))
      by true = closed_keeps g _ (h (p ∷ []))
      by false = h (g ++ p ∷ [])

  check_keeps : (c : Classes) (cap : ℕ) (g : List Part) (place : Place) (b : Bool) (p : Part) (last : Last) (r : List Part → Rounds) → ((g : List Part) → Q (r g)) → Q (placed c cap g place (if b then Joins p else Closes last) r)
  check_keeps c cap g place true p last r h = joined_keeps c cap g place p r h
  check_keeps c cap g place false p last r h = grouped place g last (r []) (h [])

-- ---- calls and results

some_kept : {X : Type 0} (b : Bool) (x : X) → is_some (kept b x) ≡ true → b ≡ true
some_kept true x h = refl
some_kept false x h = absurd cc

kept_some : {X : Type 0} (b : Bool) (x : X) → b ≡ true → is_some (kept b x) ≡ true
kept_some true x h = refl
kept_some false x h = absurd cc

module _ (by_a : Bool) (of : ℕ → Classes) (cap functions f : ℕ) where
  -- the functions whose result the side has
  abbrev pub answered : ℕ → Bool
  answered g = set_of by_a (of g) 0

  abbrev pub ItemFits : Item → Type 0
  ItemFits (Enter v g xs) = (g < functions) × (set_of by_a (of f) v ≡ true → answered g ≡ true)
  ItemFits item = Unit {0}

  abbrev pub AnyTest : Test → Type 0
  AnyTest t = Unit {0}

  abbrev pub FormFits : Form → Type 0
  FormFits form = Each ItemFits AnyTest form

  abbrev RoundFits : Round → Type 0
  RoundFits (Group g last) = Unit {0}
  RoundFits (Alone (Enters v g xs)) = (g < functions) × (set_of by_a (of f) v ≡ true → answered g ≡ true)
  RoundFits (Alone jump) = Unit {0}
  RoundFits (Region d code) = FormFits code

  abbrev AnyDecision : Decision → Type 0
  AnyDecision d = Unit {0}

  abbrev RoundsFit : Rounds → Type 0
  RoundsFit r = Each RoundFits AnyDecision r

  one_fits : (o : Option Bool) (place : Place) (code : Form) (k both : Rounds) → FormFits code → RoundsFit k → RoundsFit both → RoundsFit (one_sided o place code k both)
  one_fits None place code k both h i j = j
  one_fits (Some d) place code k both h i j = (h, i)

  rounds_fit : (outside : Bool) (form : Form) → FormFits form → (g : List Part) → RoundsFit (rounds (of f) cap outside form g)
  rounds_fit outside Done h g = closed_keeps RoundsFit (λ place g last k i. (tt, i)) g Done tt
  rounds_fit outside (Do place (Assign v x) k) h g = joined_keeps RoundsFit (λ place g last k i. (tt, i)) (of f) cap g place (Sets place v x) (rounds (of f) cap outside k) (rounds_fit outside k h.1)
  rounds_fit outside (Do place (Load v kind x) k) h g = joined_keeps RoundsFit (λ place g last k i. (tt, i)) (of f) cap g place (Loads place v kind x) (rounds (of f) cap outside k) (rounds_fit outside k h.1)
  rounds_fit outside (Do place (Store width x y) k) h g = (tt, rounds_fit outside k h.1 [])
  rounds_fit outside (Do place (Print spelling x) k) h g = (tt, rounds_fit outside k h.1 [])
  rounds_fit outside (Do place (Expect check) k) h g = check_keeps RoundsFit (λ place g last k i. (tt, i)) (of f) cap g place (has_check (of f).s check) (Tests place check) (Decides place check) (rounds (of f) cap outside k) (rounds_fit outside k h.1)
  rounds_fit outside (Do place Leave k) h g = closed_keeps RoundsFit (λ place g last k i. (tt, i)) g _ (tt, rounds_fit outside k h.1 [])
  rounds_fit outside (Do place Skip k) h g = closed_keeps RoundsFit (λ place g last k i. (tt, i)) g _ (tt, rounds_fit outside k h.1 [])
  rounds_fit outside (Do place (Enter v e xs) k) h g = closed_keeps RoundsFit (λ place g last k i. (tt, i)) g _ (h.0, rounds_fit outside k h.1 [])
  rounds_fit outside (Do place (Give x) k) h g = closed_keeps RoundsFit (λ place g last k i. (tt, i)) g _ (tt, rounds_fit outside k h.1 [])
  rounds_fit outside (Do place (Halt x) k) h g = closed_keeps RoundsFit (λ place g last k i. (tt, i)) g _ (tt, rounds_fit outside k h.1 [])
  rounds_fit outside (If place t p q k) h g =
      closed_keeps RoundsFit (λ place g last k i. (tt, i)) g _ (one_fits (region outside (of f) (If place t p q Done)) place (If place t p q Done) _ _ (tt, h.1, h.2, tt) (rounds_fit outside k h.3 [])
      (tt, rounds_fit outside p h.1 [], rounds_fit outside q h.2 [], rounds_fit outside k h.3 []))
  rounds_fit outside (Loop place body step k) h g =
      closed_keeps RoundsFit (λ place g last k i. (tt, i)) g _ (one_fits (region outside (of f) (Loop place body step Done)) place (Loop place body step Done) _ _ (h.0, h.1, tt) (rounds_fit outside k h.2 [])
      (rounds_fit outside body h.0 [], rounds_fit outside step h.1 [], rounds_fit outside k h.2 []))

  abbrev StreamFits : Actions → Type 0
  StreamFits code = Each (IsFit functions answered f) AnyBranch code

  plain_fits : (m : Mark) (a : Action) (k : Actions) → is_plain a ≡ true → StreamFits k → StreamFits (Do m a k)
  plain_fits m (Compute v x) k e h = (tt, h)
  plain_fits m (Issue kind x) k e h = (tt, h)
  plain_fits m (Own v kind x) k e h = (tt, h)
  plain_fits m (Receive v) k e h = (tt, h)
  plain_fits m (Address width x) k e h = (tt, h)
  plain_fits m (Datum x) k e h = (tt, h)
  plain_fits m (Offer v) k e h = (tt, h)
  plain_fits m (Accept v) k e h = (tt, h)
  plain_fits m (Emit spelling x) k e h = (tt, h)
  plain_fits m (Probe check) k e h = (tt, h)
  plain_fits m (Tell x) k e h = (tt, h)
  plain_fits m (Hear only) k e h = (tt, h)
  plain_fits m (Stop x) k e h = absurd cc
  plain_fits m Break k e h = absurd cc
  plain_fits m Continue k e h = absurd cc
  plain_fits m (Call v g xs) k e h = absurd cc
  plain_fits m (Return x) k e h = absurd cc

  jump_fits : (j : Jump) → RoundFits (Alone j) → IsFit functions answered f (jump_action by_a of (of f) j)
  jump_fits Breaks h = tt
  jump_fits Continues h = tt
  jump_fits (Enters v g xs) h = (h.0, λ e. h.1 (some_kept (set_of by_a (of f) v) v e))
  jump_fits (Gives x) h = λ e. kept_some (set_of by_a (of f) 0) x e
  jump_fits (Halts x) h = tt

  inside_fits : (by_a' : Bool) → by_a' ≡ by_a → (n : ℕ) (r : Rounds) (k : Actions) → RoundsFit r → StreamFits k → StreamFits (inside_of by_a' of (of f) n r k)
  inside_fits b e n Done k h i = i
  inside_fits b e n (Do place (Group g last) r) k h i = group_keeps StreamFits plain_fits b (of f) n g last _ (inside_fits b e (n + 1) r k h.1 i)
  inside_fits b e n (Do place (Alone jump) r) k h i = (subst (λ (z : Bool). IsFit functions answered f (jump_action z of (of f) jump)) (sym e) (jump_fits jump h.0), inside_fits b e n r k h.1 i)
  inside_fits b e n (Do place (Region d code) r) k h i = inside_fits b e n r k h.1 i
  inside_fits b e n (If place d p q r) k h i = (tt, inside_fits b e 0 p Done h.1 tt, inside_fits b e 0 q Done h.2 tt, inside_fits b e n r k h.3 i)
  inside_fits b e n (Loop place body step r) k h i = (inside_fits b e 0 body Done h.0 tt, inside_fits b e 0 step Done h.1 tt, inside_fits b e n r k h.2 i)

  region_fits : (b : Bool) → b ≡ by_a → (n : ℕ) (place : Place) (d : Bool) (code : Form) (k : Actions) → FormFits code → StreamFits k → StreamFits (region_of b of (of f) cap n place d code k)
  region_fits true e n place true code k h i = inside_fits true e n (rounds (of f) cap false code []) _ (rounds_fit false code h []) (when_keeps StreamFits plain_fits (has_loop code) (mark place n) (Tell (Number 0)) k refl i)
  region_fits false e n place true code k h i = when_keeps StreamFits plain_fits (has_loop code) (mark place n) (Hear None) k refl i
  region_fits true e n place false code k h i = i
  region_fits false e n place false code k h i = inside_fits false e n (rounds (of f) cap false code []) k (rounds_fit false code h []) i

  side_fits : (n : ℕ) (r : Rounds) (k : Actions) → RoundsFit r → StreamFits k → StreamFits (side_of by_a of (of f) cap n r k)
  side_fits n Done k h i = i
  side_fits n (Do place (Group g last) r) k h i = group_keeps StreamFits plain_fits by_a (of f) n g last _ (side_fits (n + 1) r k h.1 i)
  side_fits n (Do place (Alone jump) r) k h i = (jump_fits jump h.0, side_fits n r k h.1 i)
  side_fits n (Do place (Region d code) r) k h i = region_fits by_a refl n place d code _ h.0 (side_fits n r k h.1 i)
  side_fits n (If place d p q r) k h i = (tt, side_fits 0 p Done h.1 tt, side_fits 0 q Done h.2 tt, side_fits n r k h.3 i)
  side_fits n (Loop place body step r) k h i = (side_fits 0 body Done h.0 tt, side_fits 0 step Done h.1 tt, side_fits n r k h.2 i)

  pub stream_fits : (form : Form) → FormFits form → StreamFits (stream_of by_a of (of f) cap form)
  stream_fits form h = side_fits 0 (rounds (of f) cap true form []) Done (rounds_fit true form h []) tt

  -- ---- no jump leads out, and the last action returns or halts

  abbrev RoundsTight : Rounds → Type 0
  RoundsTight Done = Unit {0}
  RoundsTight (Do place (Group g last) r) = RoundsTight r
  RoundsTight (Do place (Alone Breaks) r) = ⊥
  RoundsTight (Do place (Alone Continues) r) = ⊥
  RoundsTight (Do place (Alone jump) r) = RoundsTight r
  RoundsTight (Do place (Region d code) r) = (stays false code ≡ true) × RoundsTight r
  RoundsTight (If place d p q r) = RoundsTight p × RoundsTight q × RoundsTight r
  RoundsTight (Loop place body step r) = RoundsTight r

  and_left : (a b : Bool) → (a && b) ≡ true → a ≡ true
  and_left true b h = refl
  and_left false b h = absurd cc

  and_right : (a b : Bool) → (a && b) ≡ true → b ≡ true
  and_right true b h = h
  and_right false b h = absurd cc

  one_tight : (o : Option Bool) (place : Place) (code : Form) (k both : Rounds) → stays false code ≡ true → RoundsTight k → RoundsTight both → RoundsTight (one_sided o place code k both)
  one_tight None place code k both h i j = j
  one_tight (Some d) place code k both h i j = (h, i)

  rounds_tight : (outside : Bool) (form : Form) → stays false form ≡ true → (g : List Part) → RoundsTight (rounds (of f) cap outside form g)
  rounds_tight outside Done h g = closed_keeps RoundsTight (λ place g last k i. i) g Done tt
  rounds_tight outside (Do place (Assign v x) k) h g = joined_keeps RoundsTight (λ place g last k i. i) (of f) cap g place (Sets place v x) (rounds (of f) cap outside k) (rounds_tight outside k h)
  rounds_tight outside (Do place (Load v kind x) k) h g = joined_keeps RoundsTight (λ place g last k i. i) (of f) cap g place (Loads place v kind x) (rounds (of f) cap outside k) (rounds_tight outside k h)
  rounds_tight outside (Do place (Store width x y) k) h g = rounds_tight outside k h []
  rounds_tight outside (Do place (Print spelling x) k) h g = rounds_tight outside k h []
  rounds_tight outside (Do place (Expect check) k) h g = check_keeps RoundsTight (λ place g last k i. i) (of f) cap g place (has_check (of f).s check) (Tests place check) (Decides place check) (rounds (of f) cap outside k) (rounds_tight outside k h)
  rounds_tight outside (Do place Leave k) h g = absurd cc
  rounds_tight outside (Do place Skip k) h g = absurd cc
  rounds_tight outside (Do place (Enter v e xs) k) h g = closed_keeps RoundsTight (λ place g last k i. i) g _ (rounds_tight outside k h [])
  rounds_tight outside (Do place (Give x) k) h g = closed_keeps RoundsTight (λ place g last k i. i) g _ (rounds_tight outside k h [])
  rounds_tight outside (Do place (Halt x) k) h g = closed_keeps RoundsTight (λ place g last k i. i) g _ (rounds_tight outside k h [])
  rounds_tight outside (If place t p q k) h g =
      let hp = and_left (stays false p) (stays false q && stays false k) h in
      let hr = and_right (stays false p) (stays false q && stays false k) h in
      let hq = and_left (stays false q) (stays false k) hr in
      let hk = and_right (stays false q) (stays false k) hr in
      let both : (stays false p && (stays false q && true)) ≡ true = rw (hp, hq) refl in
      closed_keeps RoundsTight (λ place g last k i. i) g _ (one_tight (region outside (of f) (If place t p q Done)) place (If place t p q Done) _ _ both (rounds_tight outside k hk [])
      (rounds_tight outside p hp [], rounds_tight outside q hq [], rounds_tight outside k hk []))
  rounds_tight outside (Loop place body step k) h g =
      let hb = and_left (stays true body) (stays true step && stays false k) h in
      let hr = and_right (stays true body) (stays true step && stays false k) h in
      let hs = and_left (stays true step) (stays false k) hr in
      let hk = and_right (stays true step) (stays false k) hr in
      let both : (stays true body && (stays true step && true)) ≡ true = rw (hb, hs) refl in
      closed_keeps RoundsTight (λ place g last k i. i) g _ (one_tight (region outside (of f) (Loop place body step Done)) place (Loop place body step Done) _ _ both (rounds_tight outside k hk []) (rounds_tight outside k hk []))

  plain_tight : (m : Mark) (a : Action) (k : Actions) → is_plain a ≡ true → IsTight k → IsTight (Do m a k)
  plain_tight m (Compute v x) k e h = h
  plain_tight m (Issue kind x) k e h = h
  plain_tight m (Own v kind x) k e h = h
  plain_tight m (Receive v) k e h = h
  plain_tight m (Address width x) k e h = h
  plain_tight m (Datum x) k e h = h
  plain_tight m (Offer v) k e h = h
  plain_tight m (Accept v) k e h = h
  plain_tight m (Emit spelling x) k e h = h
  plain_tight m (Probe check) k e h = h
  plain_tight m (Tell x) k e h = h
  plain_tight m (Hear only) k e h = h
  plain_tight m (Stop x) k e h = absurd cc
  plain_tight m Break k e h = absurd cc
  plain_tight m Continue k e h = absurd cc
  plain_tight m (Call v g xs) k e h = absurd cc
  plain_tight m (Return x) k e h = absurd cc

  inside_tight : (b : Bool) (n : ℕ) (r : Rounds) (k : Actions) → RoundsTight r → IsTight k → IsTight (inside_of b of (of f) n r k)
  inside_tight b n Done k h i = i
  inside_tight b n (Do place (Group g last) r) k h i = group_keeps IsTight plain_tight b (of f) n g last _ (inside_tight b (n + 1) r k h i)
  inside_tight b n (Do place (Alone Breaks) r) k h i = absurd h
  inside_tight b n (Do place (Alone Continues) r) k h i = absurd h
  inside_tight b n (Do place (Alone (Enters v g xs)) r) k h i = inside_tight b n r k h i
  inside_tight b n (Do place (Alone (Gives x)) r) k h i = inside_tight b n r k h i
  inside_tight b n (Do place (Alone (Halts x)) r) k h i = inside_tight b n r k h i
  inside_tight b n (Do place (Region d code) r) k h i = inside_tight b n r k h.1 i
  inside_tight b n (If place d p q r) k h i = (inside_tight b 0 p Done h.0 tt, inside_tight b 0 q Done h.1 tt, inside_tight b n r k h.2 i)
  inside_tight b n (Loop place body step r) k h i = inside_tight b n r k h i

  region_tight : (b : Bool) (n : ℕ) (place : Place) (d : Bool) (code : Form) (k : Actions) → stays false code ≡ true → IsTight k → IsTight (region_of b of (of f) cap n place d code k)
  region_tight true n place true code k h i = inside_tight true n (rounds (of f) cap false code []) _ (rounds_tight false code h []) (when_keeps IsTight plain_tight (has_loop code) (mark place n) (Tell (Number 0)) k refl i)
  region_tight false n place true code k h i = when_keeps IsTight plain_tight (has_loop code) (mark place n) (Hear None) k refl i
  region_tight true n place false code k h i = i
  region_tight false n place false code k h i = inside_tight false n (rounds (of f) cap false code []) k (rounds_tight false code h []) i

  side_tight : (n : ℕ) (r : Rounds) (k : Actions) → RoundsTight r → IsTight k → IsTight (side_of by_a of (of f) cap n r k)
  side_tight n Done k h i = i
  side_tight n (Do place (Group g last) r) k h i = group_keeps IsTight plain_tight by_a (of f) n g last _ (side_tight (n + 1) r k h i)
  side_tight n (Do place (Alone Breaks) r) k h i = absurd h
  side_tight n (Do place (Alone Continues) r) k h i = absurd h
  side_tight n (Do place (Alone (Enters v g xs)) r) k h i = side_tight n r k h i
  side_tight n (Do place (Alone (Gives x)) r) k h i = side_tight n r k h i
  side_tight n (Do place (Alone (Halts x)) r) k h i = side_tight n r k h i
  side_tight n (Do place (Region d code) r) k h i = region_tight by_a n place d code _ h.0 (side_tight n r k h.1 i)
  side_tight n (If place d p q r) k h i = (side_tight 0 p Done h.0 tt, side_tight 0 q Done h.1 tt, side_tight n r k h.2 i)
  side_tight n (Loop place body step r) k h i = side_tight n r k h i

  pub stream_tight : (form : Form) → stays false form ≡ true → IsTight (stream_of by_a of (of f) cap form)
  stream_tight form h = side_tight 0 (rounds (of f) cap true form []) Done (rounds_tight true form h []) tt

  abbrev RoundsClose : Rounds → Type 0
  RoundsClose Done = ⊥
  RoundsClose (Do place (Alone (Gives x)) r) = Unit {0}
  RoundsClose (Do place (Alone (Halts x)) r) = Unit {0}
  RoundsClose (Do place (Alone jump) r) = RoundsClose r
  RoundsClose (Do place (Group g last) r) = RoundsClose r
  RoundsClose (Do place (Region d code) r) = RoundsClose r
  RoundsClose (If place d p q r) = RoundsClose r
  RoundsClose (Loop place body step r) = RoundsClose r

  one_closes : (o : Option Bool) (place : Place) (code : Form) (k both : Rounds) → RoundsClose k → RoundsClose both → RoundsClose (one_sided o place code k both)
  one_closes None place code k both i j = j
  one_closes (Some d) place code k both i j = i

  rounds_close : (outside : Bool) (form : Form) → FormCloses form → (g : List Part) → RoundsClose (rounds (of f) cap outside form g)
  rounds_close outside Done h g = absurd h
  rounds_close outside (Do place (Assign v x) k) h g = joined_keeps RoundsClose (λ place g last k i. i) (of f) cap g place (Sets place v x) (rounds (of f) cap outside k) (rounds_close outside k h)
  rounds_close outside (Do place (Load v kind x) k) h g = joined_keeps RoundsClose (λ place g last k i. i) (of f) cap g place (Loads place v kind x) (rounds (of f) cap outside k) (rounds_close outside k h)
  rounds_close outside (Do place (Store width x y) k) h g = rounds_close outside k h []
  rounds_close outside (Do place (Print spelling x) k) h g = rounds_close outside k h []
  rounds_close outside (Do place (Expect check) k) h g = check_keeps RoundsClose (λ place g last k i. i) (of f) cap g place (has_check (of f).s check) (Tests place check) (Decides place check) (rounds (of f) cap outside k) (rounds_close outside k h)
  rounds_close outside (Do place Leave k) h g = closed_keeps RoundsClose (λ place g last k i. i) g _ (rounds_close outside k h [])
  rounds_close outside (Do place Skip k) h g = closed_keeps RoundsClose (λ place g last k i. i) g _ (rounds_close outside k h [])
  rounds_close outside (Do place (Enter v e xs) k) h g = closed_keeps RoundsClose (λ place g last k i. i) g _ (rounds_close outside k h [])
  rounds_close outside (Do place (Give x) k) h g = closed_keeps RoundsClose (λ place g last k i. i) g _ tt
  rounds_close outside (Do place (Halt x) k) h g = closed_keeps RoundsClose (λ place g last k i. i) g _ tt
  rounds_close outside (If place t p q k) h g = closed_keeps RoundsClose (λ place g last k i. i) g _ (one_closes (region outside (of f) (If place t p q Done)) place (If place t p q Done) _ _ (rounds_close outside k h []) (rounds_close outside k h []))
  rounds_close outside (Loop place body step k) h g = closed_keeps RoundsClose (λ place g last k i. i) g _ (one_closes (region outside (of f) (Loop place body step Done)) place (Loop place body step Done) _ _ (rounds_close outside k h []) (rounds_close outside k h []))

  plain_closes : (m : Mark) (a : Action) (k : Actions) → is_plain a ≡ true → IsClosed k → IsClosed (Do m a k)
  plain_closes m (Compute v x) k e h = h
  plain_closes m (Issue kind x) k e h = h
  plain_closes m (Own v kind x) k e h = h
  plain_closes m (Receive v) k e h = h
  plain_closes m (Address width x) k e h = h
  plain_closes m (Datum x) k e h = h
  plain_closes m (Offer v) k e h = h
  plain_closes m (Accept v) k e h = h
  plain_closes m (Emit spelling x) k e h = h
  plain_closes m (Probe check) k e h = h
  plain_closes m (Tell x) k e h = h
  plain_closes m (Hear only) k e h = h
  plain_closes m (Stop x) k e h = absurd cc
  plain_closes m Break k e h = absurd cc
  plain_closes m Continue k e h = absurd cc
  plain_closes m (Call v g xs) k e h = absurd cc
  plain_closes m (Return x) k e h = absurd cc

  inside_closes : (b : Bool) (n : ℕ) (r : Rounds) (k : Actions) → IsClosed k → IsClosed (inside_of b of (of f) n r k)
  inside_closes b n Done k i = i
  inside_closes b n (Do place (Group g last) r) k i = group_keeps IsClosed plain_closes b (of f) n g last _ (inside_closes b (n + 1) r k i)
  inside_closes b n (Do place (Alone Breaks) r) k i = inside_closes b n r k i
  inside_closes b n (Do place (Alone Continues) r) k i = inside_closes b n r k i
  inside_closes b n (Do place (Alone (Enters v g xs)) r) k i = inside_closes b n r k i
  inside_closes b n (Do place (Alone (Gives x)) r) k i = tt
  inside_closes b n (Do place (Alone (Halts x)) r) k i = tt
  inside_closes b n (Do place (Region d code) r) k i = inside_closes b n r k i
  inside_closes b n (If place d p q r) k i = inside_closes b n r k i
  inside_closes b n (Loop place body step r) k i = inside_closes b n r k i

  region_closes : (b : Bool) (n : ℕ) (place : Place) (d : Bool) (code : Form) (k : Actions) → IsClosed k → IsClosed (region_of b of (of f) cap n place d code k)
  region_closes true n place true code k i = inside_closes true n (rounds (of f) cap false code []) _ (when_keeps IsClosed plain_closes (has_loop code) (mark place n) (Tell (Number 0)) k refl i)
  region_closes false n place true code k i = when_keeps IsClosed plain_closes (has_loop code) (mark place n) (Hear None) k refl i
  region_closes true n place false code k i = i
  region_closes false n place false code k i = inside_closes false n (rounds (of f) cap false code []) k i

  side_closes : (n : ℕ) (r : Rounds) → RoundsClose r → IsClosed (side_of by_a of (of f) cap n r Done)
  side_closes n Done h = absurd h
  side_closes n (Do place (Group g last) r) h = group_keeps IsClosed plain_closes by_a (of f) n g last _ (side_closes (n + 1) r h)
  side_closes n (Do place (Alone Breaks) r) h = side_closes n r h
  side_closes n (Do place (Alone Continues) r) h = side_closes n r h
  side_closes n (Do place (Alone (Enters v g xs)) r) h = side_closes n r h
  side_closes n (Do place (Alone (Gives x)) r) h = tt
  side_closes n (Do place (Alone (Halts x)) r) h = tt
  side_closes n (Do place (Region d code) r) h = region_closes by_a n place d code _ (side_closes n r h)
  side_closes n (If place d p q r) h = side_closes n r h
  side_closes n (Loop place body step r) h = side_closes n r h

  pub stream_closes : (form : Form) → FormCloses form → IsClosed (stream_of by_a of (of f) cap form)
  stream_closes form h = side_closes 0 (rounds (of f) cap true form []) (rounds_close true form h [])
