-- A side's stream as it is made: what the steps made so far say, and what an If or a Loop becomes there.
use Rattle.std.specs.Prelude.{◌≡◌, ℕ, Bool, true, false, not, ◌&&◌, List, length, slice_get, Option, Some, None}
use Rattle.std.specs.List.{AllByRecursion}
use Rattle.dae_base.specs.declared.Place.{Place}
use Rattle.dae_base.specs.declared.Side.{Side}
use Rattle.dae_base.specs.declared.Side.TheVariants.{A, E}
use Rattle.dae_ir.specs.Code.{Done, Do, Each, every}
use Rattle.dae_ir.specs.Form.{Form, form_of}
use Rattle.dae_ir.specs.Classes.{Classes, is_by_a}
use Rattle.dae_ir.specs.Rounds.{Rounds, Decision, is_a_item, is_e_item, stays}
use Rattle.dae_ir.specs.Scope.{TakesArguments}
use Rattle.dae_ir.specs.Streams.{Actions, mark, side_of, inside_of, branch_of, has_loop, onto}
use Rattle.dae_ir.specs.declared.form.Function.{Function}
use Rattle.dae_ir.specs.declared.form.Item.{Item}
use Rattle.dae_ir.specs.declared.form.Item.TheVariants.{Call}
use Rattle.dae_ir.specs.declared.form.Operand.TheVariants.{Number}
use Rattle.dae_ir.specs.declared.form.Test.{Test}
use Rattle.dae_ir.specs.declared.stream.Action.{Action}
use Rattle.dae_ir.specs.declared.stream.Action.TheVariants.{Tell, Hear}
use Rattle.dae_ir.specs.declared.stream.Branch.{Branch}
use Rattle.dae_ir.specs.declared.stream.Branch.TheVariants.{Silent}
use Rattle.dae_ir.specs.declared.stream.Step.{Step}
use Rattle.dae_split.specs.declared.work.Zone.{Zone}
use Rattle.dae_split.specs.declared.work.Zone.TheVariants.{Outside, Region}

abbrev pub is_a : Side → Bool
is_a A = true
is_a E = false

-- each call has as many arguments as its function has parameters
abbrev pub ArgumentsFit : List Function → Item → Type 0
ArgumentsFit functions (Call v f xs) = TakesArguments (slice_get functions f) (length xs)
ArgumentsFit functions item = Unit {0}

abbrev pub CallsFit : List Function → Form → Type 0
CallsFit functions = Each (ArgumentsFit functions) (λ t. Unit {0})

-- ---- steps made so far

-- the new steps are the old ones and more, which f puts before what follows
abbrev pub Adds : (Actions → Actions) → List Step → List Step → Type 0
Adds f old new = (k : Actions) → onto new k ≡ onto old (f k)

-- what a side does of a list of rounds behind n groups, outside of regions or inside
abbrev pub projected : Bool → Bool → (ℕ → Classes) → Classes → ℕ → ℕ → Rounds → Actions
projected true by_a of c cap n r = side_of by_a of c cap n r Done
projected false by_a of c cap n r = inside_of by_a of c n r Done

-- the new steps, before what the view is of the rest, are the old ones before what it is of all
abbrev pub Makes : (ℕ → Rounds → Actions) → List Step → ℕ → List Step → ℕ → Rounds → Rounds → Type 0
Makes view old m new n rest all = onto new (view n rest) ≡ onto old (view m all)

-- ---- regions

-- what may stand in a region of the side
abbrev pub item_of : Bool → Classes → Item → Bool
item_of true c = is_a_item c
item_of false c = is_e_item c

abbrev pub test_of : Bool → Classes → Test → Bool
test_of true c t = is_by_a c.s t
test_of false c t = not (is_by_a c.s t)

-- code may stand in a region of the side, inside of a loop of the region or not
abbrev pub fits : Bool → Classes → Bool → Form → Bool
fits by_a c inside code = every (item_of by_a c) (test_of by_a c) code && stays inside code

-- whether a zone is outside of regions
abbrev pub lies_outside : Zone → Bool
lies_outside Outside = true
lies_outside Region = false

-- whose region it is, by side
abbrev pub by_side : Option Side → Option Bool
by_side None = None
by_side (Some side) = Some (is_a side)

-- whether an If or a Loop stands in the side's stream
abbrev pub stands_in : Bool → Option Bool → Bool
stands_in by_a None = true
stands_in true (Some d) = d
stands_in false (Some d) = not d

-- whether what is inside of it is outside of regions
abbrev pub is_outside : Bool → Option Bool → Bool
is_outside outside None = outside
is_outside outside (Some d) = false

-- whether a message follows it
abbrev pub tells_in : Option Bool → Form → Bool
tells_in (Some true) code = has_loop code
tells_in region code = false

abbrev pub region_message : Bool → Action
region_message true = Tell (Number 0)
region_message false = Hear None

abbrev pub branch_at : Bool → Bool → Decision → Branch
branch_at true by_a d = branch_of by_a d
branch_at false by_a d = Silent d.test

-- ---- messages of groups

-- the action, with the place of a check, where there is one
abbrev pub message_at : Option Place → ℕ → Action → Actions → Actions
message_at None number x k = k
message_at (Some place) number x k = Do (mark place number) x k

-- the calls of each function do
abbrev pub AllCallsFit : List Function → List Function → Type 0
AllCallsFit functions = AllByRecursion (λ (f : Function). CallsFit functions (form_of f.body))
