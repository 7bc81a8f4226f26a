-- Numbers that grow by what was counted.
use Rattle.std.specs.Prelude.{◌≡◌, ℕ, ◌+◌, ◌^◌, ◌<◌, Bool, not, ◌&&◌, nat_lt}
use Rattle.dae_ir.specs.Classes.{Classes, is_by_a}
use Rattle.dae_ir.specs.Form.{Form, form_of}
use Rattle.dae_ir.specs.Sizes.{bit, tally, is_load_into, is_store_item, own_loads, loads_for_e, stores, conditions_a, conditions_e}
use Rattle.dae_ir.specs.declared.form.Function.{Function}
use Rattle.dae_ir.specs.declared.form.Item.{Item}
use Rattle.dae_ir.specs.declared.form.Test.{Test}
use Rattle.dae_ir.specs.declared.stream.Class.{Class}
use Rattle.dae_report.specs.declared.counts.Counts.{Counts}

-- each number grew by so much
pub record Adds (la le st ca ce : ℕ) (old new : Counts) : Type 0 where
  pub loads_a : new.loads_a ≡ old.loads_a + la
  pub loads_e : new.loads_e ≡ old.loads_e + le
  pub stores : new.stores ≡ old.stores + st
  pub conditions_a : new.conditions_a ≡ old.conditions_a + ca
  pub conditions_e : new.conditions_e ≡ old.conditions_e + ce

-- a load into a variable of this class
abbrev pub AddsLoad : Class → Counts → Counts → Type 0
AddsLoad class = Adds (bit class.a) (bit (not class.a && class.e)) 0 0 0

abbrev pub AddsItem : Classes → Item → Counts → Counts → Type 0
AddsItem c item =
    Adds (bit (is_load_into c.s item)) (bit (is_load_into (λ v. not (c.s v) && c.needs v) item))
    (bit (is_store_item item)) 0 0

abbrev pub AddsTest : Classes → Test → Counts → Counts → Type 0
AddsTest c t = Adds 0 0 0 (bit (is_by_a c.s t)) (bit (not (is_by_a c.s t)))

abbrev pub AddsCode : Classes → Form → Counts → Counts → Type 0
AddsCode c code =
    Adds (own_loads c code) (loads_for_e c code) (stores code) (conditions_a c code)
    (conditions_e c code)

-- ---- numbers of 32 bits

-- how many items and conditions there are
abbrev pub parts_of_form : Form → ℕ
parts_of_form code = tally (λ item. 1) (λ t. 1) code

-- 32 bits count those of a function
abbrev pub is_countable : Function → Bool
is_countable f = nat_lt (parts_of_form (form_of f.body)) (2 ^ 32)

-- each number can grow by n
pub record CanGrowBy (n : ℕ) (counts : Counts) : Type 0 where
  pub loads_a : counts.loads_a + n < 2 ^ 32
  pub loads_e : counts.loads_e + n < 2 ^ 32
  pub stores : counts.stores + n < 2 ^ 32
  pub conditions_a : counts.conditions_a + n < 2 ^ 32
  pub conditions_e : counts.conditions_e + n < 2 ^ 32
