-- Steps that are like statements, list by list.
use Rattle.std.specs.Prelude.{◌≡◌}
use Rattle.dae_ir.specs.Code.{Done, Do, If, Loop}
use Rattle.dae_ir.specs.Form.{Form, before}
use Rattle.dae_ir.specs.Streams.{Actions, step_onto}
use Rattle.dae_ir.specs.declared.form.Statement.{Statement}
use Rattle.dae_ir.specs.declared.stream.Step.{Step}
use Rattle.dae_elide.specs.Elided.{as_actions}

-- the lists of the first of some actions, none where it has no lists
abbrev pub first_list : Actions → Actions
first_list (If m b p q k) = p
first_list (Loop m body step k) = body
first_list code = Done

abbrev pub second_list : Actions → Actions
second_list (If m b p q k) = q
second_list (Loop m body step k) = step
second_list code = Done

-- what comes behind it
abbrev pub code_after : Actions → Actions
code_after Done = Done
code_after (Do m a k) = k
code_after (If m b p q k) = k
code_after (Loop m body step k) = k

-- with something behind them the step and the statement are alike
pub record BeginsAlike (s : Statement) (s' : Step) : Type 0 where
  pub form : Form
  pub actions : Actions
  pub alike : step_onto s' actions ≡ as_actions (before s form)
