-- A switch in parts, as the form has it: up to its arms, an arm, and behind them.
use Rattle.std.specs.Prelude.{ℕ, ◌+◌, Bool, None}
use Rattle.dae_base.specs.declared.Place.{Place}
use Rattle.dae_ir.specs.Code.{Do, Done, If, Loop}
use Rattle.dae_ir.specs.Form.{Form}
use Rattle.dae_ir.specs.declared.form.Item.TheVariants.{Assign, Break, Continue}
use Rattle.dae_ir.specs.declared.form.Operand.{Operand}
use Rattle.dae_ir.specs.declared.form.Operand.TheVariants.{Variable, Number}
use Rattle.dae_ir.specs.declared.form.Value.TheVariants.{Same}
use Rattle.dae_lower.specs.Lowering.{Links, Made, arms_continue, arms_from, emit, one, only, search, switch, test_of, where_so}
use Rattle.dae_meaning.specs.declared.Comparison.TheVariants.{AtLeastUnsigned, NotEqual}
use Rattle.dae_program.specs.Switches.{arm_with, count_arms}
use Rattle.dae_program.specs.Trees.{Arms}

-- the search for the first arm, and where the arms continue a loop, nothing has yet
abbrev pub switch_begun : Place → Operand → (other : ℕ) → Arms → (goes_on : Bool) → ℕ → Made ℕ
switch_begun p x other arms goes_on n =
    only (Do p (Assign n (Same (Number other))) (
    Loop p (search p x n 0 arms) Done (where_so goes_on (one p (Assign (n + 1) (Same (Number 0))))))) n (n + 2)

-- an arm of a number
abbrev pub arm_done : Place → (v number : ℕ) → Form → ℕ → Made (Unit {0})
arm_done p v number code n = emit (If p (test_of AtLeastUnsigned (Number number) (Variable v)) code Done Done) n

-- the arms, in a loop of one turn, and a continue of the loop outside where they continued it
abbrev pub switch_ended : Place → (flag : ℕ) → (goes_on : Bool) → Form → ℕ → Made (Unit {0})
switch_ended p flag goes_on arms n =
    emit (Loop p arms (where_so goes_on (Do p (Assign flag (Same (Number 1))) (one p Break)))
    (where_so goes_on (If p (test_of NotEqual (Variable flag) (Number 0)) (one p Continue) Done Done))) n

-- a switch, once its value is known
abbrev pub switch_on : Links → Place → Arms → Operand → ℕ → Made (Unit {0})
switch_on l p arms x n =
    switch p x n (arm_with None 0 arms (count_arms arms)) (search p x n 0 arms) (arms_continue arms) (arms_from l p n 0 arms (n + 2))
