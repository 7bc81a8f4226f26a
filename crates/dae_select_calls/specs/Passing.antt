-- What a call does before the function that it calls is entered, behind its arguments, and what it does when it is answered.
use Rattle.std.specs.Prelude.{ℕ, List, ◌++◌, Option}
use Rattle.dae_encode.specs.declared.Inst.{Inst}
use Rattle.dae_ir.specs.declared.stream.Argument.{Argument}
use Rattle.dae_select_walks.specs.Agrees.{Plan}
use Rattle.dae_select_blocks.specs.Blocks.{save_code, parameters_code, deeper_code, back_code, restore_code, result_code}

-- these registers are kept, the parameters' registers get their values, and the frames follow
abbrev pub pass_code : Plan → ℕ → ℕ → List Argument → List ℕ → List Inst
pass_code plan f g xs registers = save_code registers ++ (parameters_code plan f g xs ++ deeper_code plan f g)

-- the frames are given up, these registers get back what was kept, and the result goes home
abbrev pub resume_code : Plan → ℕ → ℕ → Option ℕ → List ℕ → List Inst
resume_code plan f g v registers = back_code plan f g ++ (restore_code registers ++ result_code (plan.home f) v)
