-- The forms of a jump within a function, and of the way into one.
use Rattle.std.specs.Prelude.{Bool, true, false}
use Rattle.dae_select_values.specs.declared.jumping.JumpForm.{JumpForm}
use Rattle.dae_select_values.specs.declared.jumping.JumpForm.TheVariants.{Near, Far}
use Rattle.dae_select_values.specs.declared.jumping.CallForm.{CallForm}
use Rattle.dae_select_values.specs.declared.jumping.CallForm.TheVariants.{Low, Anywhere}

-- JAL alone makes it
abbrev pub is_jal : JumpForm → Bool
is_jal Near = true
is_jal Far = false

-- JALR alone enters a function
abbrev pub is_jalr : CallForm → Bool
is_jalr Low = true
is_jalr Anywhere = false
