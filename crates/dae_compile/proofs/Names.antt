-- The actions of a scoped form's streams name variables of their function alone.
use Rattle.std.proofs.Common.{ℕ, ◌+◌, ◌<◌, Bool, true, false, not, ◌&&◌, List, [], ◌∷◌, ◌++◌, arith}
use Rattle.std.specs.Prelude.{Option, Some, None, if◌then◌else◌}
use Rattle.std.specs.List.{AllByRecursion}
use Rattle.dae_base.specs.declared.Place.{Place}
use Rattle.dae_ir.specs.Code.{Done, Do, If, Loop, Each}
use Rattle.dae_ir.specs.Form.{Form}
use Rattle.dae_ir.specs.Classes.{VariableSet, Classes, has_check}
use Rattle.dae_ir.specs.Rounds.{Jump, Breaks, Continues, Enters, Gives, Halts, Round, Group, Alone, Region, Decision, Rounds, Joins, Closes, is_full, closed, placed, region, one_sided, rounds}
use Rattle.dae_ir.specs.Scope.{IsIn, TestIn, ValueIn, ItemIn}
use Rattle.dae_ir.specs.Streams.{Actions, mark, when, a_part, e_part, parts, message, gives_address, hears_check, e_last, group_of, set_of, kept, jump_action, arguments_in, branch_of, inside_of, has_loop, region_of, side_of, stream_of, only_failure}
use Rattle.dae_ir.specs.declared.form.Function.{Function}
use Rattle.dae_ir.specs.declared.form.Item.TheVariants.{Assign, Load, Store, Print, Expect, Break as Leave, Continue as Skip, Call as Enter, Return as Give, Halt}
use Rattle.dae_ir.specs.declared.form.Operand.{Operand}
use Rattle.dae_ir.specs.declared.form.Operand.TheVariants.{Number}
use Rattle.dae_ir.specs.declared.form.Check.{Check}
use Rattle.dae_ir.specs.declared.form.Check.TheVariants.{Place as Good, InBounds, Zero, Room, Frame, Abort}
use Rattle.dae_ir.specs.declared.stream.Argument.{Argument}
use Rattle.dae_ir.specs.declared.stream.Part.{Part}
use Rattle.dae_ir.specs.declared.stream.Part.TheVariants.{Sets, Loads, Tests}
use Rattle.dae_ir.specs.declared.stream.Last.{Last}
use Rattle.dae_ir.specs.declared.stream.Last.TheVariants.{Nothing, Stores, Prints, Decides}
use Rattle.dae_ir.specs.declared.stream.Mark.{Mark}
use Rattle.dae_ir.specs.declared.stream.Action.{Action}
use Rattle.dae_ir.specs.declared.stream.Action.TheVariants.{Set as Compute, Issue, Own, Receive, Address, Datum, Offer, Accept, Emit, Probe, Tell, Hear, Stop, Break, Continue, Call, Return}
use Rattle.dae_ir.specs.declared.stream.Branch.{Branch}
use Rattle.dae_ir.specs.declared.stream.Branch.TheVariants.{Silent, Tells, Hears}

module _ (n : ℕ) where
  -- ---- what is named is below n

  abbrev pub ProbeIn : Check → Type 0
  ProbeIn (Good width x) = IsIn n x
  ProbeIn (InBounds x offset) = IsIn n x
  ProbeIn (Zero x) = IsIn n x
  ProbeIn (Room f) = Unit {0}
  ProbeIn Frame = Unit {0}
  ProbeIn Abort = Unit {0}

  abbrev pub OptionIn : Option Operand → Type 0
  OptionIn None = Unit {0}
  OptionIn (Some x) = IsIn n x

  abbrev pub ResultIn : Option ℕ → Type 0
  ResultIn None = Unit {0}
  ResultIn (Some v) = v < n

  abbrev pub ArgumentsIn : List Argument → Type 0
  ArgumentsIn [] = Unit {0}
  ArgumentsIn (x ∷ xs) = IsIn n x.operand × ArgumentsIn xs

  abbrev pub ActionIn : Action → Type 0
  ActionIn (Compute v x) = (v < n) × ValueIn n x
  ActionIn (Issue kind x) = IsIn n x
  ActionIn (Own v kind x) = (v < n) × IsIn n x
  ActionIn (Receive v) = v < n
  ActionIn (Address width x) = IsIn n x
  ActionIn (Datum x) = IsIn n x
  ActionIn (Offer v) = v < n
  ActionIn (Accept v) = v < n
  ActionIn (Emit spelling x) = IsIn n x
  ActionIn (Probe check) = ProbeIn check
  ActionIn (Tell x) = IsIn n x
  ActionIn (Hear only) = Unit {0}
  ActionIn (Stop x) = OptionIn x
  ActionIn Break = Unit {0}
  ActionIn Continue = Unit {0}
  ActionIn (Call v f xs) = ResultIn v × ArgumentsIn xs
  ActionIn (Return x) = OptionIn x

  abbrev pub BranchIn : Branch → Type 0
  BranchIn (Silent t) = TestIn n t
  BranchIn (Tells t) = TestIn n t
  BranchIn Hears = Unit {0}

  abbrev pub AreIn : Actions → Type 0
  AreIn code = Each ActionIn BranchIn code

  abbrev PartIn : Part → Type 0
  PartIn (Sets place v x) = (v < n) × ValueIn n x
  PartIn (Loads place v kind x) = (v < n) × IsIn n x
  PartIn (Tests place check) = ProbeIn check

  abbrev LastIn : Last → Type 0
  LastIn Nothing = Unit {0}
  LastIn (Stores place width x y) = IsIn n x × IsIn n y
  LastIn (Prints place spelling x) = IsIn n x
  LastIn (Decides place check) = ProbeIn check

  abbrev JumpIn : Jump → Type 0
  JumpIn Breaks = Unit {0}
  JumpIn Continues = Unit {0}
  JumpIn (Enters v g xs) = (v < n) × AllByRecursion (IsIn n) xs
  JumpIn (Gives x) = IsIn n x
  JumpIn (Halts x) = IsIn n x

  module _ (functions : List Function) (of : ℕ → Classes) (c : Classes) (cap : ℕ) where
    abbrev FormIn : Form → Type 0
    FormIn form = Each (ItemIn functions n) (TestIn n) form

    abbrev RoundIn : Round → Type 0
    RoundIn (Group g last) = AllByRecursion PartIn g × LastIn last
    RoundIn (Alone jump) = JumpIn jump
    RoundIn (Region d code) = FormIn code

    abbrev DecisionIn : Decision → Type 0
    DecisionIn d = TestIn n d.test

    abbrev RoundsIn : Rounds → Type 0
    RoundsIn r = Each RoundIn DecisionIn r

    -- ---- rounds

    closed_in : (g : List Part) (k : Rounds) → AllByRecursion PartIn g → RoundsIn k → RoundsIn (closed g k)
    closed_in [] k h i = i
    closed_in (p ∷ g) k h i = ((h, tt), i)

    more_in : (g : List Part) (p : Part) → AllByRecursion PartIn g → PartIn p → AllByRecursion PartIn (g ++ p ∷ [])
    more_in [] p h i = (i, tt)
    more_in (q ∷ g) p h i = (h.0, more_in g p h.1 i)

    joins_in : (g : List Part) (place : Place) (p : Part) (r : List Part → Rounds) → AllByRecursion PartIn g → PartIn p → ((g : List Part) → AllByRecursion PartIn g → RoundsIn (r g)) → RoundsIn (placed c cap g place (Joins p) r)
    joins_in g place p r h i rest = by (is_full c cap g p)
      where
        by : (t : Bool) → RoundsIn (if t then closed g (r (p ∷ [])) else r (g ++ p ∷ []))
        by true = closed_in g _ h (rest (p ∷ []) (i, tt))
        by false = rest (g ++ p ∷ []) (more_in g p h i)

    expects_in : (g : List Part) (place : Place) (check : Check) (t : Bool) (r : List Part → Rounds) → AllByRecursion PartIn g → ProbeIn check → ((g : List Part) → AllByRecursion PartIn g → RoundsIn (r g)) → RoundsIn (placed c cap g place (if t then Joins (Tests place check) else Closes (Decides place check)) r)
    expects_in g place check true r h i rest = joins_in g place (Tests place check) r h i rest
    expects_in g place check false r h i rest = ((h, i), rest [] tt)

    probe_in : (check : Check) → ItemIn functions n (Expect check) → ProbeIn check
    probe_in (Good width x) h = h
    probe_in (InBounds x offset) h = h.0
    probe_in (Zero x) h = h
    probe_in (Room f) h = tt
    probe_in Frame h = tt
    probe_in Abort h = tt

    one_in : (o : Option Bool) (place : Place) (code : Form) (k both : Rounds) → FormIn code → RoundsIn k → RoundsIn both → RoundsIn (one_sided o place code k both)
    one_in None place code k both h i j = j
    one_in (Some d) place code k both h i j = (h, i)

    rounds_in : (outside : Bool) (form : Form) → FormIn form → (g : List Part) → AllByRecursion PartIn g → RoundsIn (rounds c cap outside form g)
    rounds_in outside Done h g i = closed_in g Done i tt
    rounds_in outside (Do place (Assign v x) k) h g i = joins_in g place (Sets place v x) (rounds c cap outside k) i (h.0.0.1, h.0.1) (rounds_in outside k h.1)
    rounds_in outside (Do place (Load v kind x) k) h g i = joins_in g place (Loads place v kind x) (rounds c cap outside k) i (h.0.0.1, h.0.1) (rounds_in outside k h.1)
    rounds_in outside (Do place (Store width x y) k) h g i = ((i, h.0), rounds_in outside k h.1 [] tt)
    rounds_in outside (Do place (Print spelling x) k) h g i = ((i, h.0), rounds_in outside k h.1 [] tt)
    rounds_in outside (Do place (Expect check) k) h g i = expects_in g place check (has_check c.s check) (rounds c cap outside k) i (probe_in check h.0) (rounds_in outside k h.1)
    rounds_in outside (Do place Leave k) h g i = closed_in g _ i (tt, rounds_in outside k h.1 [] tt)
    rounds_in outside (Do place Skip k) h g i = closed_in g _ i (tt, rounds_in outside k h.1 [] tt)
    rounds_in outside (Do place (Enter v e xs) k) h g i = closed_in g _ i ((h.0.0.1, h.0.2), rounds_in outside k h.1 [] tt)
    rounds_in outside (Do place (Give x) k) h g i = closed_in g _ i (h.0, rounds_in outside k h.1 [] tt)
    rounds_in outside (Do place (Halt x) k) h g i = closed_in g _ i (h.0, rounds_in outside k h.1 [] tt)
    rounds_in outside (If place t p q k) h g i =
        closed_in g _ i (one_in (region outside c (If place t p q Done)) place (If place t p q Done) _ _ (h.0, h.1, h.2, tt) (rounds_in outside k h.3 [] tt)
        (h.0, rounds_in outside p h.1 [] tt, rounds_in outside q h.2 [] tt, rounds_in outside k h.3 [] tt))
    rounds_in outside (Loop place body step k) h g i =
        closed_in g _ i (one_in (region outside c (Loop place body step Done)) place (Loop place body step Done) _ _ (h.0, h.1, tt) (rounds_in outside k h.2 [] tt)
        (rounds_in outside body h.0 [] tt, rounds_in outside step h.1 [] tt, rounds_in outside k h.2 [] tt))

    -- ---- groups

    when_in : (b : Bool) (m : Mark) (a : Action) (k : Actions) → ActionIn a → AreIn k → AreIn (when b m a k)
    when_in true m a k h i = (h, i)
    when_in false m a k h i = i

    a_part_in : (m : ℕ) (p : Part) (k : Actions) → PartIn p → AreIn k → AreIn (a_part c m p k)
    a_part_in m (Sets place v x) k h i = when_in (c.s v) _ _ _ h (when_in (c.s v && c.needs v) _ _ _ h.0 i)
    a_part_in m (Loads place v kind x) k h i = when_in (not (c.s v) && c.needs v) _ _ _ h.1 (when_in (c.s v) _ _ _ h (when_in (c.s v && c.needs v) _ _ _ h.0 i))
    a_part_in m (Tests place check) k h i = (h, i)

    e_part_in : (m : ℕ) (p : Part) (k : Actions) → PartIn p → AreIn k → AreIn (e_part c m p k)
    e_part_in m (Sets place v x) k h i = when_in (c.s v && c.needs v) _ _ _ h.0 (when_in (not (c.s v) && c.needs v) _ _ _ h i)
    e_part_in m (Loads place v kind x) k h i = when_in (c.s v && c.needs v) _ _ _ h.0 (when_in (not (c.s v) && c.needs v) _ _ _ h.0 i)
    e_part_in m (Tests place check) k h i = i

    parts_in : (s : Part → Actions → Actions) → ((p : Part) (k : Actions) → PartIn p → AreIn k → AreIn (s p k)) → (g : List Part) (k : Actions) → AllByRecursion PartIn g → AreIn k → AreIn (parts s g k)
    parts_in s keeps [] k h i = i
    parts_in s keeps (p ∷ g) k h i = keeps p (parts s g k) h.0 (parts_in s keeps g k h.1 i)

    message_in : (m : ℕ) (a : Action) (g : List Part) (k : Actions) → ActionIn a → AreIn k → AreIn (message m a g k)
    message_in m a [] k h i = i
    message_in m a (Sets place v y ∷ g) k h i = message_in m a g k h i
    message_in m a (Loads place v kind y ∷ g) k h i = message_in m a g k h i
    message_in m a (Tests place check ∷ g) k h i = (h, i)

    zero_in : IsIn n (Number 0)
    zero_in = omega arith

    address_in : (m : ℕ) (last : Last) (k : Actions) → LastIn last → AreIn k → AreIn (gives_address m last k)
    address_in m Nothing k h i = i
    address_in m (Stores place width x y) k h i = (h.0, i)
    address_in m (Prints place spelling x) k h i = i
    address_in m (Decides place check) k h i = i

    hears_in : (m : ℕ) (last : Last) (k : Actions) → AreIn k → AreIn (hears_check m last k)
    hears_in m Nothing k i = i
    hears_in m (Stores place width x y) k i = i
    hears_in m (Prints place spelling x) k i = i
    hears_in m (Decides place check) k i = (tt, i)

    last_in : (m : ℕ) (last : Last) (k : Actions) → LastIn last → AreIn k → AreIn (e_last m last k)
    last_in m Nothing k h i = i
    last_in m (Stores place width x y) k h i = (h.1, i)
    last_in m (Prints place spelling x) k h i = (h, i)
    last_in m (Decides place check) k h i = (h, (zero_in, i))

    group_in : (b : Bool) (m : ℕ) (g : List Part) (last : Last) (k : Actions) → AllByRecursion PartIn g → LastIn last → AreIn k → AreIn (group_of b c m g last k)
    group_in true m g last k h l i = parts_in (a_part c m) (a_part_in m) g _ h (address_in m last _ l (message_in m (Tell (Number 0)) g _ zero_in (hears_in m last k i)))
    group_in false m g last k h l i = message_in m (Hear (only_failure g)) g _ tt (parts_in (e_part c m) (e_part_in m) g _ h (last_in m last k l i))

    -- ---- the stream

    arguments_given : (callee : VariableSet) (k : ℕ) (xs : List Operand) → AllByRecursion (IsIn n) xs → ArgumentsIn (arguments_in callee k xs)
    arguments_given callee k [] h = tt
    arguments_given callee k (x ∷ xs) h = by (callee k) (arguments_given callee (k + 1) xs h.1)
      where
        by : (b : Bool) → ArgumentsIn (arguments_in callee (k + 1) xs) → ArgumentsIn (if b then record { parameter = k; operand = x } ∷ arguments_in callee (k + 1) xs else arguments_in callee (k + 1) xs)
        by true i = (h.0, i)
        by false i = i

    option_in : (b : Bool) (x : Operand) → IsIn n x → OptionIn (kept b x)
    option_in true x h = h
    option_in false x h = tt

    result_in : (b : Bool) (v : ℕ) → v < n → ResultIn (kept b v)
    result_in true v h = h
    result_in false v h = tt

    jump_in : (b : Bool) (j : Jump) → JumpIn j → ActionIn (jump_action b of c j)
    jump_in b Breaks h = tt
    jump_in b Continues h = tt
    jump_in b (Enters v g xs) h = (result_in (set_of b c v) v h.0, arguments_given (set_of b (of g)) 1 xs h.1)
    jump_in b (Gives x) h = option_in (set_of b c 0) x h
    jump_in b (Halts x) h = option_in (not b) x h

    branch_in : (b : Bool) (d : Decision) → DecisionIn d → BranchIn (branch_of b d)
    branch_in b d h = by b d.by_a
      where
        by : (x y : Bool) → BranchIn (branch_of x (record d { by_a = y }))
        by true true = h
        by true false = tt
        by false true = tt
        by false false = h

    inside_in : (b : Bool) (m : ℕ) (r : Rounds) (k : Actions) → RoundsIn r → AreIn k → AreIn (inside_of b of c m r k)
    inside_in b m Done k h i = i
    inside_in b m (Do place (Group g last) r) k h i = group_in b m g last _ h.0.0 h.0.1 (inside_in b (m + 1) r k h.1 i)
    inside_in b m (Do place (Alone jump) r) k h i = (jump_in b jump h.0, inside_in b m r k h.1 i)
    inside_in b m (Do place (Region d code) r) k h i = inside_in b m r k h.1 i
    inside_in b m (If place d p q r) k h i = (h.0, inside_in b 0 p Done h.1 tt, inside_in b 0 q Done h.2 tt, inside_in b m r k h.3 i)
    inside_in b m (Loop place body step r) k h i = (inside_in b 0 body Done h.0 tt, inside_in b 0 step Done h.1 tt, inside_in b m r k h.2 i)

    region_in : (b : Bool) (m : ℕ) (place : Place) (d : Bool) (code : Form) (k : Actions) → FormIn code → AreIn k → AreIn (region_of b of c cap m place d code k)
    region_in true m place true code k h i = inside_in true m (rounds c cap false code []) _ (rounds_in false code h [] tt) (when_in (has_loop code) (mark place m) (Tell (Number 0)) k zero_in i)
    region_in false m place true code k h i = when_in (has_loop code) (mark place m) (Hear None) k tt i
    region_in true m place false code k h i = i
    region_in false m place false code k h i = inside_in false m (rounds c cap false code []) k (rounds_in false code h [] tt) i

    side_in : (b : Bool) (m : ℕ) (r : Rounds) (k : Actions) → RoundsIn r → AreIn k → AreIn (side_of b of c cap m r k)
    side_in b m Done k h i = i
    side_in b m (Do place (Group g last) r) k h i = group_in b m g last _ h.0.0 h.0.1 (side_in b (m + 1) r k h.1 i)
    side_in b m (Do place (Alone jump) r) k h i = (jump_in b jump h.0, side_in b m r k h.1 i)
    side_in b m (Do place (Region d code) r) k h i = region_in b m place d code _ h.0 (side_in b m r k h.1 i)
    side_in b m (If place d p q r) k h i = (branch_in b d h.0, side_in b 0 p Done h.1 tt, side_in b 0 q Done h.2 tt, side_in b m r k h.3 i)
    side_in b m (Loop place body step r) k h i = (side_in b 0 body Done h.0 tt, side_in b 0 step Done h.1 tt, side_in b m r k h.2 i)

    pub stream_in : (b : Bool) (form : Form) → FormIn form → AreIn (stream_of b of c cap form)
    stream_in b form h = side_in b 0 (rounds c cap true form []) Done (rounds_in true form h [] tt) tt
