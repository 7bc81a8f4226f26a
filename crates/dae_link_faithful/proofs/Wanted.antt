-- What the code of a stream wants of the stream, from the form.
use Rattle.std.proofs.Common.{◌≡◌, ℕ, ◌+◌, ◌<◌, Bool, true, false, not, ◌&&◌, List, [], ◌∷◌, ◌++◌, refl, sym, subst, arith}
use Rattle.std.specs.Prelude.{Option, Some, None, if◌then◌else◌}
use Rattle.dae_base.specs.declared.Place.{Place}
use Rattle.dae_ir.specs.Code.{Done, Do, If, Loop, Each}
use Rattle.dae_ir.specs.Form.{Form}
use Rattle.dae_ir.specs.Classes.{VariableSet, Classes, has_check}
use Rattle.dae_ir.specs.Rounds.{Jump, Breaks, Continues, Enters, Gives, Halts, Round, Group, Alone, Region, Decision, Rounds, Joins, Closes, is_full, closed, placed, region, one_sided, rounds}
use Rattle.dae_ir.specs.Streams.{Actions, mark, when, a_part, e_part, parts, message, gives_address, hears_check, e_last, group_of, set_of, kept, jump_action, arguments_in, branch_of, inside_of, has_loop, region_of, side_of, only_failure}
use Rattle.dae_ir.specs.declared.form.Item.{Item}
use Rattle.dae_ir.specs.declared.form.Item.TheVariants.{Assign, Load, Store, Print, Expect, Break as Leave, Continue as Skip, Call as Enter, Return as Give, Halt}
use Rattle.dae_ir.specs.declared.form.Operand.{Operand}
use Rattle.dae_ir.specs.declared.form.Operand.TheVariants.{Number}
use Rattle.dae_ir.specs.declared.form.Check.{Check}
use Rattle.dae_ir.specs.declared.form.Test.{Test}
use Rattle.dae_ir.specs.declared.stream.Part.{Part}
use Rattle.dae_ir.specs.declared.stream.Part.TheVariants.{Sets, Loads, Tests}
use Rattle.dae_ir.specs.declared.stream.Last.{Last}
use Rattle.dae_ir.specs.declared.stream.Last.TheVariants.{Nothing, Stores, Prints, Decides}
use Rattle.dae_ir.specs.declared.stream.Mark.{Mark}
use Rattle.dae_ir.specs.declared.stream.Action.{Action}
use Rattle.dae_ir.specs.declared.stream.Action.TheVariants.{Tell, Hear, Call}
use Rattle.dae_link_faithful.proofs.Usable.{AllNumbers}
use Rattle.dae_select_walks.specs.Agrees.{Plan}
use Rattle.dae_select_blocks.specs.Sizes.{one_call, calls_in}
use Rattle.dae_select_blocks.specs.Wanted.{IsNumber, AreNumbers, IsWantedCheck, IsWantedStop, IsWantedResult, AreGiven, gives, HaveHomes, IsWanted, IsWantedBranch}

numbers_given : (callee : VariableSet) (k : ℕ) (xs : List Operand) → AllNumbers xs → AreGiven (arguments_in callee k xs)
numbers_given callee k [] h = tt
numbers_given callee k (x ∷ xs) h = by (callee k) (numbers_given callee (k + 1) xs h.1)
  where
    by : (b : Bool) → AreGiven (arguments_in callee (k + 1) xs) → AreGiven (if b then record { parameter = k; operand = x } ∷ arguments_in callee (k + 1) xs else arguments_in callee (k + 1) xs)
    by true i = (h.0, i)
    by false i = i

both : (a b : Bool) → (not a && b) ≡ true → a ≡ false
both true b h = absurd cc
both false b h = refl

-- ---- leaves: where no call is made, none is wanted of a function that is no leaf

module _ (plan : Plan) (copies : Bool) (entries : ℕ → VariableSet) where
  no_call : (a : Action) → one_call a ≡ 0 → IsWanted plan copies entries false a → IsWanted plan copies entries true a
  no_call (Call v g xs) none h = absurd (omega arith)
  no_call a none h = h

  no_calls : (code : Actions) → calls_in code ≡ 0 → Each (IsWanted plan copies entries false) IsWantedBranch code → Each (IsWanted plan copies entries true) IsWantedBranch code
  no_calls Done none h = tt
  no_calls (Do m a k) none h = (no_call a (omega arith) h.0, no_calls k (omega arith) h.1)
  no_calls (If m b p q k) none h = (h.0, no_calls p (omega arith) h.1, no_calls q (omega arith) h.2, no_calls k (omega arith) h.3)
  no_calls (Loop m body step k) none h = (no_calls body (omega arith) h.0, no_calls step (omega arith) h.1, no_calls k (omega arith) h.2)

  pub leaf_wanted : (leaf : Bool) (code : Actions) → (leaf ≡ true → calls_in code ≡ 0) → Each (IsWanted plan copies entries false) IsWantedBranch code → Each (IsWanted plan copies entries leaf) IsWantedBranch code
  leaf_wanted true code none h = no_calls code (none refl) h
  leaf_wanted false code none h = h

module _ (plan : Plan) (copies : Bool) (entries : ℕ → VariableSet) (of : ℕ → Classes) (cap f : ℕ) where
  abbrev c : Classes
  c = of f

  abbrev Wanted : Actions → Type 0
  Wanted code = Each (IsWanted plan copies entries false) IsWantedBranch code

  -- where a variable goes to both sides, copies are allowed
  abbrev pub Copied : ℕ → Type 0
  Copied v = (c.s v && c.needs v) ≡ true → copies ≡ true

  abbrev pub PartWanted : Part → Type 0
  PartWanted (Sets place v x) = AreNumbers x × Copied v
  PartWanted (Loads place v kind x) = IsNumber x × Copied v
  PartWanted (Tests place check) = IsWantedCheck true check

  abbrev pub PartsWanted : List Part → Type 0
  PartsWanted [] = Unit {0}
  PartsWanted (p ∷ g) = PartWanted p × PartsWanted g

  abbrev pub LastWanted : Last → Type 0
  LastWanted Nothing = Unit {0}
  LastWanted (Stores place width x y) = IsNumber x × IsNumber y
  LastWanted (Prints place spelling x) = IsNumber x
  LastWanted (Decides place check) = IsWantedCheck false check

  abbrev pub CallWanted : Bool → ℕ → List Operand → Type 0
  CallWanted b g xs = AllNumbers xs × (g < plan.functions) × ((u : ℕ) → entries g u ≡ true → gives (arguments_in (set_of b (of g)) 1 xs) u ≡ true) × HaveHomes plan g (gives (arguments_in (set_of b (of g)) 1 xs))

  abbrev pub ItemWanted : Bool → Item → Type 0
  ItemWanted b (Assign v x) = AreNumbers x × Copied v
  ItemWanted b (Load v kind x) = IsNumber x × Copied v
  ItemWanted b (Store width x y) = IsNumber x × IsNumber y
  ItemWanted b (Print spelling x) = IsNumber x
  ItemWanted b (Expect check) = (has_check c.s check ≡ true → IsWantedCheck true check) × (has_check c.s check ≡ false → IsWantedCheck false check)
  ItemWanted b Leave = Unit {0}
  ItemWanted b Skip = Unit {0}
  ItemWanted b (Enter v g xs) = CallWanted b g xs
  ItemWanted b (Give x) = IsNumber x
  ItemWanted b (Halt x) = IsNumber x

  abbrev pub TestWanted : Test → Type 0
  TestWanted t = IsNumber t.left × IsNumber t.right

  abbrev pub FormWanted : Bool → Form → Type 0
  FormWanted b form = Each (ItemWanted b) TestWanted form

  abbrev pub RoundWanted : Bool → Round → Type 0
  RoundWanted b (Group g last) = PartsWanted g × LastWanted last
  RoundWanted b (Alone Breaks) = Unit {0}
  RoundWanted b (Alone Continues) = Unit {0}
  RoundWanted b (Alone (Enters v g xs)) = CallWanted b g xs
  RoundWanted b (Alone (Gives x)) = IsNumber x
  RoundWanted b (Alone (Halts x)) = IsNumber x
  RoundWanted b (Region d code) = FormWanted b code

  abbrev pub DecisionWanted : Decision → Type 0
  DecisionWanted d = IsNumber d.test.left × IsNumber d.test.right

  abbrev pub RoundsWanted : Bool → Rounds → Type 0
  RoundsWanted b r = Each (RoundWanted b) DecisionWanted r

  -- ---- rounds

  closed_wanted : (b : Bool) (g : List Part) (k : Rounds) → PartsWanted g → RoundsWanted b k → RoundsWanted b (closed g k)
  closed_wanted b [] k h i = i
  closed_wanted b (p ∷ g) k h i = ((h, tt), i)

  more_wanted : (g : List Part) (p : Part) → PartsWanted g → PartWanted p → PartsWanted (g ++ p ∷ [])
  more_wanted [] p h i = (i, tt)
  more_wanted (q ∷ g) p h i = (h.0, more_wanted g p h.1 i)

  joins_wanted : (b : Bool) (g : List Part) (place : Place) (p : Part) (r : List Part → Rounds) → PartsWanted g → PartWanted p → ((g : List Part) → PartsWanted g → RoundsWanted b (r g)) → RoundsWanted b (placed c cap g place (Joins p) r)
  joins_wanted b g place p r h i rest = by (is_full c cap g p)
    where
      by : (t : Bool) → RoundsWanted b (if t then closed g (r (p ∷ [])) else r (g ++ p ∷ []))
      by true = closed_wanted b g _ h (rest (p ∷ []) (i, tt))
      by false = rest (g ++ p ∷ []) (more_wanted g p h i)

  expects_wanted : (b : Bool) (g : List Part) (place : Place) (check : Check) (t : Bool) → has_check c.s check ≡ t → (r : List Part → Rounds) → PartsWanted g → ItemWanted b (Expect check) → ((g : List Part) → PartsWanted g → RoundsWanted b (r g)) → RoundsWanted b (placed c cap g place (if t then Joins (Tests place check) else Closes (Decides place check)) r)
  expects_wanted b g place check true e r h i rest = joins_wanted b g place (Tests place check) r h (i.0 e) rest
  expects_wanted b g place check false e r h i rest = ((h, i.1 e), rest [] tt)

  one_wanted : (b : Bool) (o : Option Bool) (place : Place) (code : Form) (k both : Rounds) → FormWanted b code → RoundsWanted b k → RoundsWanted b both → RoundsWanted b (one_sided o place code k both)
  one_wanted b None place code k both h i j = j
  one_wanted b (Some d) place code k both h i j = (h, i)

  pub rounds_wanted : (b outside : Bool) (form : Form) → FormWanted b form → (g : List Part) → PartsWanted g → RoundsWanted b (rounds c cap outside form g)
  rounds_wanted b outside Done h g i = closed_wanted b g Done i tt
  rounds_wanted b outside (Do place (Assign v x) k) h g i = joins_wanted b g place (Sets place v x) (rounds c cap outside k) i h.0 (rounds_wanted b outside k h.1)
  rounds_wanted b outside (Do place (Load v kind x) k) h g i = joins_wanted b g place (Loads place v kind x) (rounds c cap outside k) i h.0 (rounds_wanted b outside k h.1)
  rounds_wanted b outside (Do place (Store width x y) k) h g i = ((i, h.0), rounds_wanted b outside k h.1 [] tt)
  rounds_wanted b outside (Do place (Print spelling x) k) h g i = ((i, h.0), rounds_wanted b outside k h.1 [] tt)
  rounds_wanted b outside (Do place (Expect check) k) h g i = expects_wanted b g place check (has_check c.s check) refl (rounds c cap outside k) i h.0 (rounds_wanted b outside k h.1)
  rounds_wanted b outside (Do place Leave k) h g i = closed_wanted b g _ i (tt, rounds_wanted b outside k h.1 [] tt)
  rounds_wanted b outside (Do place Skip k) h g i = closed_wanted b g _ i (tt, rounds_wanted b outside k h.1 [] tt)
  rounds_wanted b outside (Do place (Enter v e xs) k) h g i = closed_wanted b g _ i (h.0, rounds_wanted b outside k h.1 [] tt)
  rounds_wanted b outside (Do place (Give x) k) h g i = closed_wanted b g _ i (h.0, rounds_wanted b outside k h.1 [] tt)
  rounds_wanted b outside (Do place (Halt x) k) h g i = closed_wanted b g _ i (h.0, rounds_wanted b outside k h.1 [] tt)
  rounds_wanted b outside (If place t p q k) h g i =
      closed_wanted b g _ i (one_wanted b (region outside c (If place t p q Done)) place (If place t p q Done) _ _ (h.0, h.1, h.2, tt) (rounds_wanted b outside k h.3 [] tt)
      (h.0, rounds_wanted b outside p h.1 [] tt, rounds_wanted b outside q h.2 [] tt, rounds_wanted b outside k h.3 [] tt))
  rounds_wanted b outside (Loop place body step k) h g i =
      closed_wanted b g _ i (one_wanted b (region outside c (Loop place body step Done)) place (Loop place body step Done) _ _ (h.0, h.1, tt) (rounds_wanted b outside k h.2 [] tt)
      (rounds_wanted b outside body h.0 [] tt, rounds_wanted b outside step h.1 [] tt, rounds_wanted b outside k h.2 [] tt))

  -- ---- groups

  when_wanted : (b : Bool) (m : Mark) (a : Action) (k : Actions) → (b ≡ true → IsWanted plan copies entries false a) → Wanted k → Wanted (when b m a k)
  when_wanted true m a k h i = (h refl, i)
  when_wanted false m a k h i = i

  a_part_wanted : plan.by_a ≡ true → (n : ℕ) (p : Part) (k : Actions) → PartWanted p → Wanted k → Wanted (a_part c n p k)
  a_part_wanted a n (Sets place v x) k h i = when_wanted (c.s v) _ _ _ (λ e. h.0) (when_wanted (c.s v && c.needs v) _ _ _ (λ e. (a, h.1 e)) i)
  a_part_wanted a n (Loads place v kind x) k h i = when_wanted (not (c.s v) && c.needs v) _ _ _ (λ e. (a, h.0)) (when_wanted (c.s v) _ _ _ (λ e. (a, h.0)) (when_wanted (c.s v && c.needs v) _ _ _ (λ e. (a, h.1 e)) i))
  a_part_wanted a n (Tests place check) k h i = (subst (λ (z : Bool). IsWantedCheck z check) (sym a) h, i)

  e_part_wanted : plan.by_a ≡ false → (n : ℕ) (p : Part) (k : Actions) → PartWanted p → Wanted k → Wanted (e_part c n p k)
  e_part_wanted a n (Sets place v x) k h i = when_wanted (c.s v && c.needs v) _ _ _ (λ e. (a, h.1 e)) (when_wanted (not (c.s v) && c.needs v) _ _ _ (λ e. h.0) i)
  e_part_wanted a n (Loads place v kind x) k h i = when_wanted (c.s v && c.needs v) _ _ _ (λ e. (a, h.1 e)) (when_wanted (not (c.s v) && c.needs v) _ _ _ (λ e. a) i)
  e_part_wanted a n (Tests place check) k h i = i

  parts_wanted : (s : Part → Actions → Actions) → ((p : Part) (k : Actions) → PartWanted p → Wanted k → Wanted (s p k)) → (g : List Part) (k : Actions) → PartsWanted g → Wanted k → Wanted (parts s g k)
  parts_wanted s keeps [] k h i = i
  parts_wanted s keeps (p ∷ g) k h i = keeps p (parts s g k) h.0 (parts_wanted s keeps g k h.1 i)

  message_wanted : (n : ℕ) (a : Action) (g : List Part) (k : Actions) → IsWanted plan copies entries false a → Wanted k → Wanted (message n a g k)
  message_wanted n a [] k h i = i
  message_wanted n a (Sets place v y ∷ g) k h i = message_wanted n a g k h i
  message_wanted n a (Loads place v kind y ∷ g) k h i = message_wanted n a g k h i
  message_wanted n a (Tests place check ∷ g) k h i = (h, i)

  zero_small : IsNumber (Number 0)
  zero_small = omega arith

  address_wanted : plan.by_a ≡ true → (n : ℕ) (last : Last) (k : Actions) → LastWanted last → Wanted k → Wanted (gives_address n last k)
  address_wanted a n Nothing k h i = i
  address_wanted a n (Stores place width x y) k h i = ((a, h.0), i)
  address_wanted a n (Prints place spelling x) k h i = i
  address_wanted a n (Decides place check) k h i = i

  hears_wanted : (n : ℕ) (last : Last) (k : Actions) → Wanted k → Wanted (hears_check n last k)
  hears_wanted n Nothing k i = i
  hears_wanted n (Stores place width x y) k i = i
  hears_wanted n (Prints place spelling x) k i = i
  hears_wanted n (Decides place check) k i = (tt, i)

  last_wanted : plan.by_a ≡ false → (n : ℕ) (last : Last) (k : Actions) → LastWanted last → Wanted k → Wanted (e_last n last k)
  last_wanted a n Nothing k h i = i
  last_wanted a n (Stores place width x y) k h i = ((a, h.1), i)
  last_wanted a n (Prints place spelling x) k h i = ((a, h), i)
  last_wanted a n (Decides place check) k h i = (subst (λ (z : Bool). IsWantedCheck z check) (sym a) h, (zero_small, i))

  group_wanted : (b : Bool) → plan.by_a ≡ b → (n : ℕ) (g : List Part) (last : Last) (k : Actions) → PartsWanted g → LastWanted last → Wanted k → Wanted (group_of b c n g last k)
  group_wanted true a n g last k h l i = parts_wanted (a_part c n) (a_part_wanted a n) g _ h (address_wanted a n last _ l (message_wanted n (Tell (Number 0)) g _ zero_small (hears_wanted n last k i)))
  group_wanted false a n g last k h l i = message_wanted n (Hear (only_failure g)) g _ tt (parts_wanted (e_part c n) (e_part_wanted a n) g _ h (last_wanted a n last k l i))

  -- ---- the stream

  result_wanted : (b : Bool) (x : Operand) → IsNumber x → IsWantedResult (kept b x)
  result_wanted true x h = h
  result_wanted false x h = tt

  stop_wanted : (b : Bool) (x : Operand) → IsNumber x → IsWantedStop b (kept (not b) x)
  stop_wanted true x h = tt
  stop_wanted false x h = h

  jump_wanted : (b : Bool) → plan.by_a ≡ b → (j : Jump) → RoundWanted b (Alone j) → IsWanted plan copies entries false (jump_action b of c j)
  jump_wanted b a Breaks h = tt
  jump_wanted b a Continues h = tt
  jump_wanted b a (Enters v g xs) h = (numbers_given (set_of b (of g)) 1 xs h.0, h.1, h.2, h.3, refl)
  jump_wanted b a (Gives x) h = result_wanted (set_of b c 0) x h
  jump_wanted b a (Halts x) h = subst (λ (z : Bool). IsWantedStop z (kept (not b) x)) (sym a) (stop_wanted b x h)

  branch_wanted : (b : Bool) (d : Decision) → DecisionWanted d → IsWantedBranch (branch_of b d)
  branch_wanted b d h = by b d.by_a
    where
      by : (x y : Bool) → IsWantedBranch (branch_of x (record d { by_a = y }))
      by true true = h
      by true false = tt
      by false true = tt
      by false false = h

  inside_wanted : (b : Bool) → plan.by_a ≡ b → (n : ℕ) (r : Rounds) (k : Actions) → RoundsWanted b r → Wanted k → Wanted (inside_of b of c n r k)
  inside_wanted b a n Done k h i = i
  inside_wanted b a n (Do place (Group g last) r) k h i = group_wanted b a n g last _ h.0.0 h.0.1 (inside_wanted b a (n + 1) r k h.1 i)
  inside_wanted b a n (Do place (Alone jump) r) k h i = (jump_wanted b a jump h.0, inside_wanted b a n r k h.1 i)
  inside_wanted b a n (Do place (Region d code) r) k h i = inside_wanted b a n r k h.1 i
  inside_wanted b a n (If place d p q r) k h i = (h.0, inside_wanted b a 0 p Done h.1 tt, inside_wanted b a 0 q Done h.2 tt, inside_wanted b a n r k h.3 i)
  inside_wanted b a n (Loop place body step r) k h i = (inside_wanted b a 0 body Done h.0 tt, inside_wanted b a 0 step Done h.1 tt, inside_wanted b a n r k h.2 i)

  region_wanted : (b : Bool) → plan.by_a ≡ b → (n : ℕ) (place : Place) (d : Bool) (code : Form) (k : Actions) → FormWanted b code → Wanted k → Wanted (region_of b of c cap n place d code k)
  region_wanted true a n place true code k h i = inside_wanted true a n (rounds c cap false code []) _ (rounds_wanted true false code h [] tt) (when_wanted (has_loop code) (mark place n) (Tell (Number 0)) k (λ e. zero_small) i)
  region_wanted false a n place true code k h i = when_wanted (has_loop code) (mark place n) (Hear None) k (λ e. tt) i
  region_wanted true a n place false code k h i = i
  region_wanted false a n place false code k h i = inside_wanted false a n (rounds c cap false code []) k (rounds_wanted false false code h [] tt) i

  pub side_wanted : (b : Bool) → plan.by_a ≡ b → (n : ℕ) (r : Rounds) (k : Actions) → RoundsWanted b r → Wanted k → Wanted (side_of b of c cap n r k)
  side_wanted b a n Done k h i = i
  side_wanted b a n (Do place (Group g last) r) k h i = group_wanted b a n g last _ h.0.0 h.0.1 (side_wanted b a (n + 1) r k h.1 i)
  side_wanted b a n (Do place (Alone jump) r) k h i = (jump_wanted b a jump h.0, side_wanted b a n r k h.1 i)
  side_wanted b a n (Do place (Region d code) r) k h i = region_wanted b a n place d code _ h.0 (side_wanted b a n r k h.1 i)
  side_wanted b a n (If place d p q r) k h i = (branch_wanted b d h.0, side_wanted b a 0 p Done h.1 tt, side_wanted b a 0 q Done h.2 tt, side_wanted b a n r k h.3 i)
  side_wanted b a n (Loop place body step r) k h i = (side_wanted b a 0 body Done h.0 tt, side_wanted b a 0 step Done h.1 tt, side_wanted b a n r k h.2 i)
