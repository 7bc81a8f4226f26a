-- Code in which variables that nothing reads hold values for the loops behind them.
use Rattle.std.specs.Prelude.{ℕ, List, slice_get, Option, Some, None}
use Rattle.dae_ir.specs.Code.{Done, Do, If, Loop}
use Rattle.dae_ir.specs.Form.{Form}
use Rattle.dae_ir.specs.declared.form.Item.{Item}
use Rattle.dae_ir.specs.declared.form.Item.TheVariants.{Assign, Load, Store, Print, Expect, Break, Continue, Call, Return, Halt}
use Rattle.dae_ir.specs.declared.form.Value.{Value}

-- the value that a variable holds, if one was found for it
abbrev pub Holding : Type 0
Holding = ℕ → Option Value

abbrev pub value_at : Option (Option Value) → Option Value
value_at None = None
value_at (Some x) = x

abbrev pub holding_in : List (Option Value) → Holding
holding_in values v = value_at (slice_get values v)

-- what is assigned in place of a value
abbrev pub found_or : Option Value → Value → Value
found_or None x = x
found_or (Some y) x = y

abbrev pub hoisted_item : Holding → Item → Item
hoisted_item h (Assign v x) = Assign v (found_or (h v) x)
hoisted_item h (Load v kind x) = Load v kind x
hoisted_item h (Store width x y) = Store width x y
hoisted_item h (Print spelling x) = Print spelling x
hoisted_item h (Expect check) = Expect check
hoisted_item h Break = Break
hoisted_item h Continue = Continue
hoisted_item h (Call v f xs) = Call v f xs
hoisted_item h (Return x) = Return x
hoisted_item h (Halt x) = Halt x

abbrev pub hoisted_code : Holding → Form → Form
hoisted_code h Done = Done
hoisted_code h (Do place item k) = Do place (hoisted_item h item) (hoisted_code h k)
hoisted_code h (If place t x y k) = If place t (hoisted_code h x) (hoisted_code h y) (hoisted_code h k)
hoisted_code h (Loop place x y k) = Loop place (hoisted_code h x) (hoisted_code h y) (hoisted_code h k)
