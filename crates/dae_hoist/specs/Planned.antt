-- What a plan says, and what the walk by it gives.
use Rattle.std.specs.Prelude.{◌≡◌, ℕ, List, ◌++◌}
use Rattle.dae_ir.specs.Form.{Form, before, form_of}
use Rattle.dae_ir.specs.Classes.{classes_in}
use Rattle.dae_ir.specs.declared.form.Statement.{Statement}
use Rattle.dae_hoist.specs.Hoisted.{holding_in, hoisted_code}
use Rattle.dae_hoist.specs.Kept.{Hoisting, IsKept}
use Rattle.dae_hoist.specs.declared.plan.HoistPlan.{HoistPlan}
use Rattle.dae_hoist.specs.declared.hoisting.SetVariables.{SetVariables}

abbrev pub hoisting_of : HoistPlan → Hoisting
hoisting_of plan = record {
  parameters = plan.parameters;
  variables = plan.variables;
  holding = holding_in (let xs = plan.values in xs.items);
  sets = (let row = plan.row in let c = classes_in row.items in c.s);
  new_sets = (let row = plan.new_row in let c = classes_in row.items in c.s);
}

abbrev pub set_in : SetVariables → List ℕ
set_in before = let xs = before.variables in xs.items

-- a statement becomes s', where these variables are set before it, and these behind it
pub record IsHoistedStatement (t : Hoisting) (s : Statement) (old new : List ℕ) (s' : Statement)
    : Type 0 where
  pub code : (k : Form) → hoisted_code t.holding (before s k) ≡ before s' (hoisted_code t.holding k)
  pub kept : (k : Form) → IsKept t new k → IsKept t old (before s k)
  pub more : List ℕ
  pub longer : new ≡ old ++ more

-- a list becomes ss', and the same variables are set behind it, of which is known that they are
pub record IsHoistedList (t : Hoisting) (ss : List Statement) (old new : List ℕ)
    (ss' : List Statement) : Type 0 where
  pub code : form_of ss' ≡ hoisted_code t.holding (form_of ss)
  pub kept : IsKept t old (form_of ss)
  pub same : new ≡ old
