-- Checks of places that are known to pass leave a form: in place of each the variable is set to itself. Of other checks whose
-- address is known to be aligned the first byte is left, which can fail in one way alone. So the form has as many items as before,
-- and each does as much.
use Rattle.std.specs.Prelude.{ℕ, ◌%◌, Bool, ◌&&◌, nat_eq, nat_lt, [], Some, None, if◌then◌else◌}
use Rattle.dae_base.specs.declared.Width.{Width}
use Rattle.dae_base.specs.declared.Width.TheVariants.{B1}
use Rattle.dae_ir.specs.Code.{Done, Do, If, Loop}
use Rattle.dae_ir.specs.Classes.{VariableSet}
use Rattle.dae_ir.specs.Form.{Form}
use Rattle.dae_ir.specs.Streams.{Actions, mark}
use Rattle.dae_ir.specs.declared.form.Operand.TheVariants.{Variable}
use Rattle.dae_ir.specs.declared.form.Value.TheVariants.{Same}
use Rattle.dae_ir.specs.declared.form.Check.{Check}
use Rattle.dae_ir.specs.declared.form.Check.TheVariants.{Place}
use Rattle.dae_ir.specs.declared.form.Item.{Item}
use Rattle.dae_ir.specs.declared.form.Item.TheVariants.{Assign, Load, Store, Print, Expect, Break, Continue, Call, Return, Halt}
use Rattle.dae_ir.specs.declared.stream.Action.{Action}
use Rattle.dae_ir.specs.declared.stream.Action.TheVariants.{Set, Own, Probe, Hear, Break as Leave, Continue as Skip, Call as Enter, Return as Give}
use Rattle.dae_ir.specs.declared.stream.Branch.TheVariants.{Silent}
use Rattle.dae_select_walks.specs.Facts.{Facts, bounds_in, is_aligned, is_good, facts_behind, facts_in_first, facts_in_second, facts_past_if, facts_at_turn, facts_at_step, facts_past_loop}

-- ---- what is known in a form is what is known in actions like its items

abbrev pub as_action : Item → Action
as_action (Assign v x) = Set v x
as_action (Load v kind x) = Own v kind x
as_action (Store width x y) = Hear None
as_action (Print spelling x) = Hear None
as_action (Expect check) = Probe check
as_action Break = Leave
as_action Continue = Skip
as_action (Call v f xs) = Enter (Some v) f []
as_action (Return x) = Give (Some x)
as_action (Halt x) = Hear None

abbrev pub as_actions : Form → Actions
as_actions Done = Done
as_actions (Do place item k) = Do (mark place 0) (as_action item) (as_actions k)
as_actions (If place t p q k) = If (mark place 0) (Silent t) (as_actions p) (as_actions q) (as_actions k)
as_actions (Loop place body step k) = Loop (mark place 0) (as_actions body) (as_actions step) (as_actions k)

-- ---- the form without its known checks

-- the variable is one of those that were chosen, and each of its words is a good address. Variable 0 is never set but by a return
abbrev pub is_known : ℕ → VariableSet → Facts → Width → ℕ → Bool
is_known memory chosen facts width v = (chosen v && nat_lt 0 v) && is_good memory width (bounds_in facts v)

-- the width that is left of a check: memory ends at a multiple of each width, so that the access stands in it where its first
-- byte does
abbrev pub kept_width : ℕ → Facts → Width → ℕ → Width
kept_width memory facts width v = if is_aligned width (bounds_in facts v) && nat_eq (memory % 4) 0 then B1 else width

abbrev pub itself : ℕ → Item
itself v = Assign v (Same (Variable v))

abbrev pub elided_check : ℕ → VariableSet → Facts → Check → Item
elided_check memory chosen facts (Place width (Variable v)) = if is_known memory chosen facts width v then itself v else Expect (Place (kept_width memory facts width v) (Variable v))
elided_check memory chosen facts check = Expect check

abbrev pub elided_item : ℕ → VariableSet → Facts → Item → Item
elided_item memory chosen facts (Expect check) = elided_check memory chosen facts check
elided_item memory chosen facts item = item

-- where common memory has so many addresses, these variables are chosen, and this is known where the form begins
abbrev pub elided : ℕ → VariableSet → Facts → Form → Form
elided memory chosen facts Done = Done
elided memory chosen facts (Do place item k) = Do place (elided_item memory chosen facts item) (elided memory chosen (facts_behind memory (as_action item) facts) k)
elided memory chosen facts (If place t p q k) =
    If place t (elided memory chosen (facts_in_first (Silent t) facts) p) (elided memory chosen (facts_in_second (Silent t) facts) q)
    (elided memory chosen (facts_past_if (Silent t) (as_actions p) (as_actions q) facts) k)
elided memory chosen facts (Loop place body step k) =
    Loop place (elided memory chosen (facts_at_turn memory (as_actions body) (as_actions step) facts) body)
    (elided memory chosen (facts_at_step memory (as_actions body) (as_actions step) facts) step)
    (elided memory chosen (facts_past_loop (as_actions body) (as_actions step) facts) k)
