-- Functions at their places have the homes that they had.
use Rattle.std.proofs.Common.{ℕ, ◌+◌, List, [], ◌∷◌, length}
use Rattle.std.specs.List.{AllZip}
use Rattle.dae_ir.specs.Streams.{actions_of}
use Rattle.dae_ir.specs.declared.stream.StreamFunction.{StreamFunction}
use Rattle.dae_select_walks.specs.Agrees.{Plan}
use Rattle.dae_select_blocks.specs.Code.{function_code}
use Rattle.dae_select_calls.specs.declared.layouts.FunctionLayout.{FunctionLayout}
use Rattle.dae_link.specs.Placed.{placed}
use Rattle.dae_link.specs.Settled.{IsLayoutOf, KeepsInRegisters}

-- and keep their variables in registers
pub registers_placed : (plan : Plan) (variables : ℕ → ℕ) (word k : ℕ) (fs : List StreamFunction) (ls : List FunctionLayout) → AllZip IsLayoutOf fs ls
    → AllZip KeepsInRegisters fs (placed plan variables word k fs ls)
registers_placed plan variables word k [] [] h = tt
registers_placed plan variables word k [] (l ∷ ls) h = absurd h
registers_placed plan variables word k (f ∷ fs) [] h = absurd h
registers_placed plan variables word k (f ∷ fs) (l ∷ ls) h =
    (h.0.registers, registers_placed plan variables (word + length (function_code plan variables k (actions_of f.body))) (k + 1) fs ls h.1)
