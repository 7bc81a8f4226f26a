-- Numbers of variables, which stop at the last that a word holds.
use Rattle.std.specs.Prelude.{ℕ, ◌+◌, ◌-◌, ◌^◌, nat_le, nat_lt, if◌then◌else◌}
use Rattle.dae_ir.specs.Code.{Done, Do, If, Loop}
use Rattle.dae_ir.specs.Form.{Form}
use Rattle.dae_ir.specs.declared.form.Item.{Item}
use Rattle.dae_ir.specs.declared.form.Item.TheVariants.{Assign, Load, Call}

-- the number behind one
abbrev pub number_after : ℕ → ℕ
number_after n = if nat_lt n (2 ^ 32 - 1) then n + 1 else n

-- 1 for the last number and those two before it, and else 0
abbrev pub late : ℕ → ℕ
late v = if nat_le (2 ^ 32 - 1) (v + 2) then 1 else 0

-- how many items of code set variables with those numbers
abbrev pub late_item : Item → ℕ
late_item (Assign v x) = late v
late_item (Load v kind x) = late v
late_item (Call v f xs) = late v
late_item item = 0

abbrev pub late_in : Form → ℕ
late_in Done = 0
late_in (Do place item k) = late_item item + late_in k
late_in (If place t p q k) = late_in p + late_in q + late_in k
late_in (Loop place body step k) = late_in body + late_in step + late_in k
