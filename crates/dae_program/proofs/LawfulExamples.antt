-- A program in memory that is lawful, and some that aren't.
use Rattle.std.proofs.Common.{◌≡◌, ℕ, Bool, true, false, List, [], ◌∷◌, Option, Some, None, refl}
use Rattle.std.specs.Prelude.{Box}
use Rattle.std.specs.declared.alloc.Global.{Global}
use Rattle.dae_base.specs.declared.LoadKind.TheVariants as kind
use Rattle.dae_base.specs.declared.Width.TheVariants as width
use Rattle.dae_program.specs.declared.expressions.Expression.{Expression}
use Rattle.dae_program.specs.declared.expressions.Expression.TheVariants as expression
use Rattle.dae_program.specs.declared.expressions.Fixity.TheVariants.{Prefix}
use Rattle.dae_program.specs.declared.expressions.Target.TheVariants as target
use Rattle.dae_program.specs.declared.program.Function.{Function}
use Rattle.dae_program.specs.declared.program.Links.{Links}
use Rattle.dae_program.specs.declared.program.FrameSlot.{FrameSlot}
use Rattle.dae_program.specs.declared.statements.Statement.{Statement}
use Rattle.dae_program.specs.declared.statements.Statement.TheVariants as statement
use Rattle.dae_program.specs.Lawful.{is_lawful}
use Rattle.dae_program.proofs.SetFirstExamples.{here}

-- the file's function 0 is function 1 of the program
abbrev links : List Links
links = record { addresses = 16 ∷ []; functions = 1 ∷ [] } ∷ []

abbrev function : List (Option FrameSlot) → ℕ → List Statement → Function
function parameters frame body = record {
  name = [];
  place = here;
  file = 0;
  parameters = parameters;
  variables = 3;
  frame = frame;
  body = body;
}

abbrev program : List Statement → List (Option FrameSlot) → ℕ → List Statement → Bool
program main parameters frame body = is_lawful 64 20 (1 ∷ (2 ∷ (3 ∷ (4 ∷ [])))) links (function [] 0 main ∷ (function parameters frame body ∷ [])) 0

-- the box with another value
abbrev held : Box Expression Global → Expression → Box Expression Global
held b e = record { ptr = b.ptr; alloc = b.alloc; value = e }

abbrev stops : Box Expression Global → List Statement
stops b = statement.Evaluate here (held b (expression.Abort here)) ∷ []

abbrev steps : Box Expression Global → ℕ → List Statement
steps b v = statement.Evaluate here (held b (expression.Step here kind.I32 (target.Variable v) 1 Prefix)) ∷ []

abbrev slot : ℕ → List (Option FrameSlot)
slot offset = Some (record { offset = offset; width = width.B4 }) ∷ (None ∷ [])

lawful : (b : Box Expression Global) → program (stops b) (slot 4) 8 (steps b 2) ≡ true
lawful b = refl

-- a variable that is read before it is set, as it is no parameter
unset : (b : Box Expression Global) → program (stops b) (None ∷ []) 8 (steps b 2) ≡ false
unset b = refl

-- the result is set by a return alone, and there is no variable 3
result_set : (b : Box Expression Global) → program (stops b) (slot 4) 8 (steps b 0) ≡ false
result_set b = refl

no_variable : (b : Box Expression Global) → program (stops b) (slot 4) 8 (steps b 3) ≡ false
no_variable b = refl

-- a parameter past the frame's end, or not at a multiple of its width, and a frame of 6 bytes
past_frame : (b : Box Expression Global) → program (stops b) (slot 8) 8 (steps b 2) ≡ false
past_frame b = refl

uneven : (b : Box Expression Global) → program (stops b) (slot 2) 8 (steps b 2) ≡ false
uneven b = refl

uneven_frame : (b : Box Expression Global) → program (stops b) (slot 0) 6 (steps b 2) ≡ false
uneven_frame b = refl

-- a break outside of a loop, and a return in main
break_outside : (b : Box Expression Global) → program (stops b) (slot 4) 8 (statement.Break here ∷ []) ≡ false
break_outside b = refl

return_in_main : (b : Box Expression Global) → program (statement.Return here None ∷ []) (slot 4) 8 (steps b 2) ≡ false
return_in_main b = refl

-- a main with a parameter, and none
main_with_parameter : (b : Box Expression Global) → is_lawful 64 20 [] links (function (None ∷ []) 0 (stops b) ∷ []) 0 ≡ false
main_with_parameter b = refl

no_main : (b : Box Expression Global) → is_lawful 64 20 [] links (function [] 0 (stops b) ∷ []) 1 ≡ false
no_main b = refl

-- a file that can call main, and data that reach into the frames
main_called : (b : Box Expression Global) → is_lawful 64 20 [] links (function [] 0 (stops b) ∷ (function [] 0 (stops b) ∷ [])) 1 ≡ false
main_called b = refl

data_too_long : (b : Box Expression Global) → is_lawful 64 16 (0 ∷ []) links (function [] 0 (stops b) ∷ []) 0 ≡ false
data_too_long b = refl
