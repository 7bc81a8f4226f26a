-- Each variable is set before it is read, whichever way the code takes. What a loop sets doesn't count behind it, since it
-- may be left before.
use Rattle.std.specs.Prelude.{◌≡◌, ℕ, true, ◌&&◌, List, [], ◌∷◌, Option, Some, None}
use Rattle.dae_ir.specs.Code.{Code, Done, Do, If, Loop}
use Rattle.dae_ir.specs.Form.{form_of}
use Rattle.dae_ir.specs.Classes.{VariableSet, has, has_value, has_test, has_check}
use Rattle.dae_ir.specs.declared.form.Operand.{Operand}
use Rattle.dae_ir.specs.declared.form.Test.{Test}
use Rattle.dae_ir.specs.declared.form.Item.{Item}
use Rattle.dae_ir.specs.declared.form.Item.TheVariants.{Assign, Load, Store, Print, Expect, Break, Continue, Call, Return, Halt}
use Rattle.dae_ir.specs.declared.form.Function.{Function}
use Rattle.dae_ir.specs.declared.stream.Argument.{Argument}
use Rattle.dae_ir.specs.declared.stream.Action.{Action}
use Rattle.dae_ir.specs.declared.stream.Action.TheVariants.{Set, Issue, Own, Receive, Address, Datum, Offer, Accept, Emit, Probe, Tell, Hear, Stop, Break as Leave, Continue as Skip, Call as Enter, Return as Give}
use Rattle.dae_ir.specs.declared.stream.Branch.{Branch}
use Rattle.dae_ir.specs.declared.stream.Branch.TheVariants.{Silent, Tells, Hears}
pub use Rattle.dae_meaning.specs.Variables.{with_set, all_set, parameters_set}

-- which sets hold what an item or a test reads, and what is set behind an item, where the set was set before it
pub record Flow (L T : Type 0) : Type 1 where
  pub Reads : VariableSet → L → Type 0
  pub Tests : VariableSet → T → Type 0
  pub after : VariableSet → L → VariableSet

-- what is set behind code in any case; behind what goes elsewhere anything may be said
abbrev pub assured : {M L T : Type 0} → Flow L T → VariableSet → Code M L T → VariableSet
assured u d Done = d
assured u d (Do mark item k) = assured u (u.after d item) k
assured u d (If mark test p q k) = assured u (λ v. assured u d p v && assured u d q v) k
assured u d (Loop mark body step k) = assured u d k

-- what is read was set before
abbrev pub IsSetFirst : {M L T : Type 0} → Flow L T → VariableSet → Code M L T → Type 0
IsSetFirst u d Done = Unit {0}
IsSetFirst u d (Do mark item k) = u.Reads d item × IsSetFirst u (u.after d item) k
IsSetFirst u d (If mark test p q k) =
    u.Tests d test × IsSetFirst u d p × IsSetFirst u d q × IsSetFirst u (λ v. assured u d p v && assured u d q v) k
IsSetFirst u d (Loop mark body step k) = IsSetFirst u d body × IsSetFirst u d step × IsSetFirst u d k

-- ---- forms

abbrev pub AllRead : VariableSet → List Operand → Type 0
AllRead d [] = Unit {0}
AllRead d (x ∷ xs) = (has d x ≡ true) × AllRead d xs

abbrev pub ItemReads : VariableSet → Item → Type 0
ItemReads d (Assign v x) = has_value d x ≡ true
ItemReads d (Load v kind x) = has d x ≡ true
ItemReads d (Store width x y) = (has d x ≡ true) × (has d y ≡ true)
ItemReads d (Print spelling x) = has d x ≡ true
ItemReads d (Expect check) = has_check d check ≡ true
ItemReads d Break = Unit {0}
ItemReads d Continue = Unit {0}
ItemReads d (Call v f xs) = AllRead d xs
ItemReads d (Return x) = has d x ≡ true
ItemReads d (Halt x) = has d x ≡ true

abbrev pub after_item : VariableSet → Item → VariableSet
after_item d (Assign v x) = with_set v d
after_item d (Load v kind x) = with_set v d
after_item d (Store width x y) = d
after_item d (Print spelling x) = d
after_item d (Expect check) = d
after_item d Break = all_set
after_item d Continue = all_set
after_item d (Call v f xs) = with_set v d
after_item d (Return x) = all_set
after_item d (Halt x) = all_set

abbrev pub form_flow : Flow Item Test
form_flow = record { Reads = ItemReads; Tests = λ d t. has_test d t ≡ true; after = after_item }

-- the parameters are set at a function's entry
abbrev pub IsFunctionSetFirst : Function → Type 0
IsFunctionSetFirst function = IsSetFirst form_flow (parameters_set function.parameters) (form_of function.body)

-- ---- streams

abbrev pub AllGiven : VariableSet → List Argument → Type 0
AllGiven d [] = Unit {0}
AllGiven d (x ∷ xs) = (has d x.operand ≡ true) × AllGiven d xs

abbrev pub SomeRead : VariableSet → Option Operand → Type 0
SomeRead d None = Unit {0}
SomeRead d (Some x) = has d x ≡ true

abbrev pub ActionReads : VariableSet → Action → Type 0
ActionReads d (Set v x) = has_value d x ≡ true
ActionReads d (Issue kind x) = has d x ≡ true
ActionReads d (Own v kind x) = has d x ≡ true
ActionReads d (Receive v) = Unit {0}
ActionReads d (Address width x) = has d x ≡ true
ActionReads d (Datum x) = has d x ≡ true
ActionReads d (Offer v) = d v ≡ true
ActionReads d (Accept v) = Unit {0}
ActionReads d (Emit spelling x) = has d x ≡ true
ActionReads d (Probe check) = has_check d check ≡ true
ActionReads d (Tell x) = has d x ≡ true
ActionReads d (Hear only) = Unit {0}
ActionReads d (Stop x) = SomeRead d x
ActionReads d Leave = Unit {0}
ActionReads d Skip = Unit {0}
ActionReads d (Enter v f xs) = AllGiven d xs
ActionReads d (Give x) = SomeRead d x

abbrev pub with_some : Option ℕ → VariableSet → VariableSet
with_some None d = d
with_some (Some v) d = with_set v d

abbrev pub after_action : VariableSet → Action → VariableSet
after_action d (Set v x) = with_set v d
after_action d (Issue kind x) = d
after_action d (Own v kind x) = with_set v d
after_action d (Receive v) = with_set v d
after_action d (Address width x) = d
after_action d (Datum x) = d
after_action d (Offer v) = d
after_action d (Accept v) = with_set v d
after_action d (Emit spelling x) = d
after_action d (Probe check) = d
after_action d (Tell x) = d
after_action d (Hear only) = d
after_action d (Stop x) = all_set
after_action d Leave = all_set
after_action d Skip = all_set
after_action d (Enter v f xs) = with_some v d
after_action d (Give x) = all_set

abbrev pub BranchReads : VariableSet → Branch → Type 0
BranchReads d (Silent t) = has_test d t ≡ true
BranchReads d (Tells t) = has_test d t ≡ true
BranchReads d Hears = Unit {0}

abbrev pub stream_flow : Flow Action Branch
stream_flow = record { Reads = ActionReads; Tests = BranchReads; after = after_action }
