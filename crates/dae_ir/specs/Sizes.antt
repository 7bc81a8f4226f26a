-- How large code is, and what a report counts in it.
use Rattle.std.specs.Prelude.{ℕ, ◌+◌, Bool, true, false, not, ◌&&◌, length, if◌then◌else◌}
use Rattle.dae_ir.specs.Code.{Code, Done, Do, If, Loop}
use Rattle.dae_ir.specs.Form.{Form}
use Rattle.dae_ir.specs.Classes.{VariableSet, Classes, is_by_a}
use Rattle.dae_ir.specs.Streams.{Actions}
use Rattle.dae_ir.specs.declared.form.Item.{Item}
use Rattle.dae_ir.specs.declared.form.Item.TheVariants.{Load, Store, Call}
use Rattle.dae_ir.specs.declared.stream.Action.{Action}
use Rattle.dae_ir.specs.declared.stream.Action.TheVariants.{Call as Enter}

-- the sum over all items and all tests, also inside
abbrev pub tally : {M L T : Type 0} → (L → ℕ) → (T → ℕ) → Code M L T → ℕ
tally f h Done = 0
tally f h (Do mark item k) = f item + tally f h k
tally f h (If mark test p q k) = h test + (tally f h p + (tally f h q + tally f h k))
tally f h (Loop mark body step k) = tally f h body + (tally f h step + tally f h k)

-- ---- sizes

-- the items by their weights, and 1 for each If and each Loop
abbrev pub size : {M L T : Type 0} → (L → ℕ) → Code M L T → ℕ
size f Done = 0
size f (Do mark item k) = f item + size f k
size f (If mark test p q k) = 1 + (size f p + (size f q + size f k))
size f (Loop mark body step k) = 1 + (size f body + (size f step + size f k))

-- a call weighs more by its arguments
abbrev pub item_weight : Item → ℕ
item_weight (Call v f xs) = 1 + length xs
item_weight item = 1

abbrev pub action_weight : Action → ℕ
action_weight (Enter v f xs) = 1 + length xs
action_weight action = 1

abbrev pub form_size : Form → ℕ
form_size code = size item_weight code

abbrev pub actions_size : Actions → ℕ
actions_size code = size action_weight code

-- ---- what a report counts, in a function with these classes

abbrev pub bit : Bool → ℕ
bit b = if b then 1 else 0

abbrev pub is_load_into : VariableSet → Item → Bool
is_load_into c (Load v kind x) = c v
is_load_into c item = false

abbrev pub is_store_item : Item → Bool
is_store_item (Store width x y) = true
is_store_item item = false

-- A's own loads, and the loads that E alone needs
abbrev pub own_loads : Classes → Form → ℕ
own_loads c code = tally (λ item. bit (is_load_into c.s item)) (λ t. 0) code

abbrev pub loads_for_e : Classes → Form → ℕ
loads_for_e c code = tally (λ item. bit (is_load_into (λ v. not (c.s v) && c.needs v) item)) (λ t. 0) code

abbrev pub stores : Form → ℕ
stores code = tally (λ item. bit (is_store_item item)) (λ t. 0) code

-- the conditions that A decides, and those that E does
abbrev pub conditions_a : Classes → Form → ℕ
conditions_a c code = tally (λ item. 0) (λ t. bit (is_by_a c.s t)) code

abbrev pub conditions_e : Classes → Form → ℕ
conditions_e c code = tally (λ item. 0) (λ t. bit (not (is_by_a c.s t))) code
