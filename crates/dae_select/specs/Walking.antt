-- The code of structured actions, by what the code of a function is made from.
use Rattle.std.specs.Prelude.{ℕ, ◌+◌, Bool, not, ◌&&◌, List}
use Rattle.dae_encode.specs.declared.Inst.{Inst}
use Rattle.dae_ir.specs.Classes.{VariableSet}
use Rattle.dae_ir.specs.Streams.{actions_of}
use Rattle.dae_ir.specs.declared.stream.Action.{Action}
use Rattle.dae_ir.specs.declared.stream.Argument.{Argument}
use Rattle.dae_ir.specs.declared.stream.Step.{Step}
use Rattle.dae_select_values.specs.Tables.{home_by}
use Rattle.dae_select_walks.specs.Live.{ways, is}
use Rattle.dae_select_walks.specs.declared.VariableStanding.TheVariants.{Settled}
use Rattle.dae_select_live.specs.Members.{member}
use Rattle.dae_select_facts.specs.Knowns.{facts_by}
use Rattle.dae_select_facts.specs.declared.known.KnownFacts.{KnownFacts}
use Rattle.dae_select_blocks.specs.Blocks.{jump_over}
use Rattle.dae_select_blocks.specs.Code.{call_code, action_code, block_code, branch_code}
use Rattle.dae_select.specs.Grown.{Grown, acting}
use Rattle.dae_select.specs.Growing.{IsCodeOf, IsStepCode}
use Rattle.dae_select_calls.specs.Makings.{plan_by, variables_by, by_jal}
use Rattle.dae_select_calls.specs.declared.calling.Callee.{Callee}
use Rattle.dae_select_calls.specs.declared.making.Making.{Making}
use Rattle.dae_select.specs.declared.making.Exits.{Exits}
use Rattle.dae_select.specs.declared.making.Onward.{Onward}
use Rattle.dae_select.specs.declared.making.Around.{Around}
use Rattle.dae_select.specs.declared.making.PlacedBranch.{PlacedBranch}

-- the block of a call, behind which these variables are live
abbrev pub called_by : Making → Callee → List Argument → VariableSet → List Inst
called_by m callee arguments live =
    call_code (plan_by m) (variables_by m) m.function callee.result callee.function arguments (λ u. live u && not (is callee.result u))

-- the block of an action, from whose end it is n words and as many as the exits say to where a Break goes, and a Continue
abbrev pub action_by : Making → Action → Onward → ℕ → List Inst
action_by m a onward n =
    action_code (plan_by m) (variables_by m) m.function a (member onward.next.now)
    (jump_over (by_jal m) (n + onward.exits.now.leaves)) (jump_over (by_jal m) (n + onward.exits.now.skips))

-- what is needed of it, where things stand so around it
abbrev pub block_by : Making → Around → Action → Onward → ℕ → List Inst
block_by m around a onward n =
    block_code (plan_by m) (variables_by m) m.function around.need around.before a around.after (member onward.next.now)
    (jump_over (by_jal m) (n + onward.exits.now.leaves)) (jump_over (by_jal m) (n + onward.exits.now.skips))

-- the block of a branch that goes on n words ahead of its end where its test holds, or just where not
abbrev pub branch_to : Making → PlacedBranch → Bool → ℕ → Grown
branch_to m test way n = acting test.place (branch_code (home_by m.homes) (by_jal m) test.branch way n)

-- the code of a step, with whatever stands behind it, and what is live before it
abbrev pub IsStepBy : Making → Around → Exits → Step → Grown → List ℕ → Grown → List ℕ → Type 0
IsStepBy m around exits s old next new set =
    IsStepCode (by_jal m) (plan_by m) (variables_by m) m.function around.need (facts_by around.known.now) around.before around.after exits s old next new set

-- the code of a list of steps, before which something is known, and what is live before it
abbrev pub IsListBy : Making → KnownFacts → Exits → List Step → Grown → List ℕ → Grown → List ℕ → Type 0
IsListBy m known exits steps old next new set =
    IsCodeOf (by_jal m) (plan_by m) (variables_by m) m.function Settled (facts_by known) old exits.leaves exits.skips
    (ways (member next) (member exits.leaves_live) (member exits.skips_live)) (actions_of steps) new set
