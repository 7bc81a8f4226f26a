-- The two streams of a form: of each list of rounds what A does, and what E does. A group with a check that A decides has
-- one message of A, at A's end of the group and before E's part. A check that E decides is followed by E's message. The
-- processor that decides a condition outside of regions tells the other. A region stands in its own side's stream, and
-- one of A that holds a loop is followed by a message.
use Rattle.std.specs.Prelude.{ℕ, ◌+◌, Bool, true, false, not, ◌&&◌, ◌||◌, Option, Some, None, List, [], ◌∷◌, if◌then◌else◌}
use Rattle.dae_base.specs.declared.Place.{Place}
use Rattle.dae_base.specs.declared.Width.TheVariants.{B1}
use Rattle.dae_ir.specs.Code.{Code, Done, Do, If, Loop}
use Rattle.dae_ir.specs.Form.{Form}
use Rattle.dae_ir.specs.Classes.{VariableSet, Classes}
use Rattle.dae_ir.specs.Rounds.{Jump, Breaks, Continues, Enters, Gives, Halts, Group, Alone, Region, Decision, Rounds, rounds}
use Rattle.dae_ir.specs.declared.form.Operand.{Operand}
use Rattle.dae_ir.specs.declared.form.Operand.TheVariants.{Number}
use Rattle.dae_ir.specs.declared.form.Check.{Check}
use Rattle.dae_ir.specs.declared.form.Check.TheVariants.{Place as Good, InBounds, Room, Frame}
use Rattle.dae_ir.specs.declared.stream.Failure.{Failure}
use Rattle.dae_ir.specs.declared.stream.Failure.TheVariants.{OutOfBounds, OutOfRoom}
use Rattle.dae_ir.specs.declared.stream.Part.{Part}
use Rattle.dae_ir.specs.declared.stream.Part.TheVariants.{Sets, Loads, Tests}
use Rattle.dae_ir.specs.declared.stream.Last.{Last}
use Rattle.dae_ir.specs.declared.stream.Last.TheVariants.{Nothing, Stores, Prints, Decides}
use Rattle.dae_ir.specs.declared.stream.Mark.{Mark}
use Rattle.dae_ir.specs.declared.stream.Argument.{Argument}
use Rattle.dae_ir.specs.declared.stream.Action.{Action}
use Rattle.dae_ir.specs.declared.stream.Action.TheVariants.{Set, Issue, Own, Receive, Address, Datum, Offer, Accept, Emit, Probe, Tell, Hear, Stop, Break, Continue, Call, Return}
use Rattle.dae_ir.specs.declared.stream.Branch.{Branch}
use Rattle.dae_ir.specs.declared.stream.Branch.TheVariants.{Silent, Tells, Hears}
use Rattle.dae_ir.specs.declared.stream.Step.{Step, Act, If', Loop', Row_of-Step, end_of-Step, more_of-Step}

-- a list of actions, each with its place and number
abbrev pub Actions : Type 0
Actions = Code Mark Action Branch

abbrev pub mark : Place → ℕ → Mark
mark place n = record { place = place; group = n }

-- an action, where the flag says so, and then k
abbrev pub when : Bool → Mark → Action → Actions → Actions
when true m x k = Do m x k
when false m x k = k

-- ---- the group that comes behind n others, and then k

abbrev pub a_part : Classes → ℕ → Part → Actions → Actions
a_part c n (Sets place v x) k =
    when (c.s v) (mark place n) (Set v x) (when (c.s v && c.needs v) (mark place n) (Offer v) k)
a_part c n (Loads place v kind x) k =
    when (not (c.s v) && c.needs v) (mark place n) (Issue kind x)
    (when (c.s v) (mark place n) (Own v kind x) (when (c.s v && c.needs v) (mark place n) (Offer v) k))
a_part c n (Tests place check) k = Do (mark place n) (Probe check) k

abbrev pub e_part : Classes → ℕ → Part → Actions → Actions
e_part c n (Sets place v x) k =
    when (c.s v && c.needs v) (mark place n) (Accept v) (when (not (c.s v) && c.needs v) (mark place n) (Set v x) k)
e_part c n (Loads place v kind x) k =
    when (c.s v && c.needs v) (mark place n) (Accept v) (when (not (c.s v) && c.needs v) (mark place n) (Receive v) k)
e_part c n (Tests place check) k = k

abbrev pub parts : (Part → Actions → Actions) → List Part → Actions → Actions
parts f [] k = k
parts f (p ∷ g) k = f p (parts f g k)

-- the check can fail in this way alone: one byte is never misaligned
abbrev pub only_fails_by : Failure → Check → Bool
only_fails_by OutOfBounds (Good B1 x) = true
only_fails_by OutOfBounds (InBounds x offset) = true
only_fails_by OutOfRoom (Room f) = true
only_fails_by OutOfRoom Frame = true
only_fails_by failure check = false

abbrev pub part_fails_by : Failure → Part → Bool
part_fails_by failure (Sets place v x) = true
part_fails_by failure (Loads place v kind x) = true
part_fails_by failure (Tests place check) = only_fails_by failure check

-- each check of a group can
abbrev pub all_fail_by : Failure → List Part → Bool
all_fail_by failure [] = true
all_fail_by failure (p ∷ g) = part_fails_by failure p && all_fail_by failure g

-- how the checks of a group can fail, where that is in one way alone
abbrev pub only_failure : List Part → Option Failure
only_failure g =
    if all_fail_by OutOfBounds g then Some OutOfBounds
    else (if all_fail_by OutOfRoom g then Some OutOfRoom else None)

-- the action, with the place of the first check, where the group has a check that A decides
abbrev pub message : ℕ → Action → List Part → Actions → Actions
message n x [] k = k
message n x (Sets place v y ∷ g) k = message n x g k
message n x (Loads place v kind y ∷ g) k = message n x g k
message n x (Tests place check ∷ g) k = Do (mark place n) x k

-- E takes the message of the group's checks
abbrev pub hears_group : ℕ → List Part → Actions → Actions
hears_group n g k = message n (Hear (only_failure g)) g k

abbrev pub gives_address : ℕ → Last → Actions → Actions
gives_address n Nothing k = k
gives_address n (Stores place width x y) k = Do (mark place n) (Address width x) k
gives_address n (Prints place spelling x) k = k
gives_address n (Decides place check) k = k

abbrev pub hears_check : ℕ → Last → Actions → Actions
hears_check n Nothing k = k
hears_check n (Stores place width x y) k = k
hears_check n (Prints place spelling x) k = k
hears_check n (Decides place check) k = Do (mark place n) (Hear None) k

abbrev pub e_last : ℕ → Last → Actions → Actions
e_last n Nothing k = k
e_last n (Stores place width x y) k = Do (mark place n) (Datum y) k
e_last n (Prints place spelling x) k = Do (mark place n) (Emit spelling x) k
e_last n (Decides place check) k = Do (mark place n) (Probe check) (Do (mark place n) (Tell (Number 0)) k)

abbrev pub a_group : Classes → ℕ → List Part → Last → Actions → Actions
a_group c n g last k = parts (a_part c n) g (gives_address n last (message n (Tell (Number 0)) g (hears_check n last k)))

abbrev pub e_group : Classes → ℕ → List Part → Last → Actions → Actions
e_group c n g last k = hears_group n g (parts (e_part c n) g (e_last n last k))

abbrev pub group_of : Bool → Classes → ℕ → List Part → Last → Actions → Actions
group_of by_a c n g last k = if by_a then a_group c n g last k else e_group c n g last k

-- ---- what stands between groups

-- the set of a side
abbrev pub set_of : Bool → Classes → VariableSet
set_of by_a c = if by_a then c.s else c.needs

-- the arguments for the parameters from k on that are in the set
abbrev pub arguments_in : VariableSet → ℕ → List Operand → List Argument
arguments_in callee k [] = []
arguments_in callee k (x ∷ xs) =
    if callee k then record { parameter = k; operand = x } ∷ arguments_in callee (k + 1) xs
    else arguments_in callee (k + 1) xs

-- what the flag lets through
abbrev pub kept : {A : Type 0} → Bool → A → Option A
kept flag x = if flag then Some x else None

abbrev pub jump_action : Bool → (ℕ → Classes) → Classes → Jump → Action
jump_action by_a of c Breaks = Break
jump_action by_a of c Continues = Continue
jump_action by_a of c (Enters v f xs) =
    Call (kept (set_of by_a c v) v) f (arguments_in (set_of by_a (of f)) 1 xs)
jump_action by_a of c (Gives x) = Return (kept (set_of by_a c 0) x)
jump_action by_a of c (Halts x) = Stop (kept (not by_a) x)

-- the processor that decides tells the other, but inside of a region
abbrev pub branch_of : Bool → Decision → Branch
branch_of by_a d =
    if by_a then (if d.by_a then Tells d.test else Hears)
    else (if d.by_a then Hears else Tells d.test)

-- ---- rounds behind n groups of their list, and then k

-- inside a region of the side
abbrev pub inside_of : Bool → (ℕ → Classes) → Classes → ℕ → Rounds → Actions → Actions
inside_of by_a of c n Done k = k
inside_of by_a of c n (Do place (Group g last) r) k = group_of by_a c n g last (inside_of by_a of c (n + 1) r k)
inside_of by_a of c n (Do place (Alone jump) r) k =
    Do (mark place n) (jump_action by_a of c jump) (inside_of by_a of c n r k)
inside_of by_a of c n (Do place (Region d code) r) k = inside_of by_a of c n r k
inside_of by_a of c n (If place d p q r) k =
    If (mark place n) (Silent d.test) (inside_of by_a of c 0 p Done) (inside_of by_a of c 0 q Done) (inside_of by_a of c n r k)
inside_of by_a of c n (Loop place body step r) k =
    Loop (mark place n) (inside_of by_a of c 0 body Done) (inside_of by_a of c 0 step Done) (inside_of by_a of c n r k)

abbrev pub has_loop : Form → Bool
has_loop Done = false
has_loop (Do place item k) = has_loop k
has_loop (If place t p q k) = has_loop p || (has_loop q || has_loop k)
has_loop (Loop place body step k) = true

-- a region stands in its own side's stream alone, and is followed by A's message where A's holds a loop
abbrev pub region_of : Bool → (ℕ → Classes) → Classes → ℕ → ℕ → Place → Bool → Form → Actions → Actions
region_of true of c cap n place true code k =
    inside_of true of c n (rounds c cap false code []) (when (has_loop code) (mark place n) (Tell (Number 0)) k)
region_of false of c cap n place true code k = when (has_loop code) (mark place n) (Hear None) k
region_of true of c cap n place false code k = k
region_of false of c cap n place false code k = inside_of false of c n (rounds c cap false code []) k

abbrev pub side_of : Bool → (ℕ → Classes) → Classes → ℕ → ℕ → Rounds → Actions → Actions
side_of by_a of c cap n Done k = k
side_of by_a of c cap n (Do place (Group g last) r) k = group_of by_a c n g last (side_of by_a of c cap (n + 1) r k)
side_of by_a of c cap n (Do place (Alone jump) r) k =
    Do (mark place n) (jump_action by_a of c jump) (side_of by_a of c cap n r k)
side_of by_a of c cap n (Do place (Region d code) r) k = region_of by_a of c cap n place d code (side_of by_a of c cap n r k)
side_of by_a of c cap n (If place d p q r) k =
    If (mark place n) (branch_of by_a d) (side_of by_a of c cap 0 p Done) (side_of by_a of c cap 0 q Done) (side_of by_a of c cap n r k)
side_of by_a of c cap n (Loop place body step r) k =
    Loop (mark place n) (side_of by_a of c cap 0 body Done) (side_of by_a of c cap 0 step Done) (side_of by_a of c cap n r k)

-- what a side does of a function's code
abbrev pub stream_of : Bool → (ℕ → Classes) → Classes → ℕ → Form → Actions
stream_of by_a of c cap form = side_of by_a of c cap 0 (rounds c cap true form []) Done

-- ---- lists of steps

-- the actions of a list of steps, and then k
abbrev mutual
  pub step_onto : Step → Actions → Actions
  step_onto (Act m x) k = Do m x k
  step_onto (If' m b s p t q) k = If m b (steps_row p Done) (steps_row q Done) k
  step_onto (Loop' m s body t step) k = Loop m (steps_row body Done) (steps_row step Done) k

  pub steps_row : {m : _} → Row_of-Step m → Actions → Actions
  steps_row end_of-Step k = k
  steps_row (more_of-Step s rest) k = step_onto s (steps_row rest k)

abbrev pub onto : List Step → Actions → Actions
onto [] k = k
onto (s ∷ ss) k = step_onto s (onto ss k)

abbrev pub actions_of : List Step → Actions
actions_of steps = onto steps Done
