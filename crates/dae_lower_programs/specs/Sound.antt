-- Statements of a lawful program, whose arms words number.
use Rattle.std.specs.Prelude.{◌≡◌, ◌+◌, ◌<◌, ◌≤◌, ◌^◌, true, length}
use Rattle.dae_program.specs.Lawful.{FunctionBounds, are_sound_arms, are_sound_statements}
use Rattle.dae_program.specs.Switches.{count_arms}
use Rattle.dae_program.specs.Trees.{Arms, Statements}
use Rattle.dae_program.specs.Views.{view_statements}
use Rattle.dae_program.specs.declared.program.Function.{Function}

pub record AreSound (ss : Statements) : Type 0 where
  pub bounds : FunctionBounds
  pub sound : are_sound_statements bounds ss ≡ true

pub record AreArmsSound (arms : Arms) : Type 0 where
  pub few : count_arms arms < 2 ^ 32
  pub bounds : FunctionBounds
  pub sound : are_sound_arms bounds arms ≡ true

-- variable 0 and the parameters are among a function's variables, and words number the arms of its switches
pub record IsNumbered (f : Function) : Type 0 where
  pub parameters : 1 + length f.parameters ≤ f.variables
  pub statements : AreSound (view_statements f.body)
