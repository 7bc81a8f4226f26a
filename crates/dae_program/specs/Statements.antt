-- What statements do (C90 6.6). n bounds the turns of each execution of a loop: where a further one would begin, the program
-- goes on. Each statement, each turn of a loop, also the one whose test fails, and each label and each arm of a switch are one
-- unit of work.
use Rattle.std.specs.Prelude.{ℕ, zero, suc, Bool, true, nat_eq, if◌then◌else◌, Option, Some, None}
use Rattle.dae_base.specs.Words.{plus}
use Rattle.dae_meaning.specs.Worlds.{ticked}
use Rattle.dae_meaning.specs.Results.{At, Over, Next, Leaves, Skips, Returns, Going, Run, ◌▷◌, ◌↻◌}
use Rattle.dae_meaning.specs.Variables.{Env, put}
use Rattle.dae_program.specs.Outcomes.{◌⊳◌}
use Rattle.dae_program.specs.Expressions.{ProgramSetup, evaluate, arguments}
use Rattle.dae_program.specs.Initialising.{clear, set_items}
use Rattle.dae_program.specs.Printing.{print_pieces}
use Rattle.dae_program.specs.Switches.{first_arm, count_labels, leave_switch, with_work}
use Rattle.dae_program.specs.Trees.{Expression, Statements, Arms, Done, Evaluate, Initialise, Print, If, Loop, Do, Switch, Break, Continue, Return, no_arms, arm_then}

-- goes on where a test holds, and leaves the loop where not; without a test it holds (6.6.5.3)
abbrev pub test : ProgramSetup → Option Expression → Run Env
test s None env w = At Next env w
test s (Some e) env w = evaluate s e env w ⊳ λ x env w. if nat_eq x 0 then At Leaves env w else At Next env w

-- an expression for its effects (6.6.3)
abbrev pub do_effects : ProgramSetup → Option Expression → Run Env
do_effects s None env w = At Next env w
do_effects s (Some e) env w = evaluate s e env w ⊳ λ x. At Next

-- At most n turns: the test before the body, the body, and what follows each turn, where a continue leads too (6.6.5). The
-- flag says whether the test of the turn that can't begin is evaluated.
abbrev pub loop : Bool → Run Env → Run Env → Run Env → ℕ → Run Env
loop last test body step zero env w =
    if last then (test env (ticked w) ↻ λ env w. Over Going w) else Over Going w
loop last test body step (suc n) env w =
    test env (ticked w) ▷ body ↻ λ env w. step env w ↻ loop last test body step n

-- In order: expressions (6.6.3); initialised aggregates (6.5.7); `printf`; `if` (6.6.4.1); `while` and `for` (6.6.5.1,
-- 6.6.5.3); `do` (6.6.5.2); `switch` (6.6.4.2); `break` (6.6.6.3); `continue` (6.6.6.2); `return` (6.6.6.4), without a value
-- of 0
abbrev mutual
  pub execute : ProgramSetup → Bool → ℕ → Statements → Run Env
  execute s last n Done env w = At Next env w
  execute s last n (Evaluate p e k) env w = (evaluate s e env (ticked w) ⊳ λ x. At Next) ▷ execute s last n k
  execute s last n (Initialise p offset size items k) env w =
      (clear size (plus w.frame offset) env (ticked w) ▷ set_items s items) ▷ execute s last n k
  execute s last n (Print p xs pieces k) env w = (arguments s xs env (ticked w) ⊳ print_pieces pieces) ▷ execute s last n k
  execute s last n (If p e t u k) env w =
      (evaluate s e env (ticked w) ⊳ λ x env w. if nat_eq x 0 then execute s last n u env w else execute s last n t env w)
      ▷ execute s last n k
  execute s last n (Loop p e body step k) env w =
      loop last (test s e) (execute s last n body) (do_effects s step) n env (ticked w) ▷ execute s last n k
  execute s last n (Do p body e k) env w =
      loop last (At Next) (execute s last n body) (test s (Some e)) n env (ticked w) ▷ execute s last n k
  execute s last n (Switch p e arms k) env w =
      leave_switch (evaluate s e env (with_work (suc (count_labels arms)) w) ⊳ λ x. execute_from s last n (first_arm x arms) arms)
      ▷ execute s last n k
  execute s last n (Break p k) env w = At Leaves env (ticked w)
  execute s last n (Continue p k) env w = At Skips env (ticked w)
  execute s last n (Return p None k) env w = At Returns (put true 0 0 env) (ticked w)
  execute s last n (Return p (Some e) k) env w = evaluate s e env (ticked w) ⊳ λ x env w. At Returns (put true 0 x env) w

  -- the arms of a switch from a number on, one after the other
  pub execute_from : ProgramSetup → Bool → ℕ → ℕ → Arms → Run Env
  execute_from s last n first no_arms env w = At Next env w
  execute_from s last n zero (arm_then labels t rest) env w = execute s last n t env w ▷ execute_from s last n zero rest
  execute_from s last n (suc first) (arm_then labels t rest) env w = execute_from s last n first rest env w
