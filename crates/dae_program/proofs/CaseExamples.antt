-- Single cases of the definitions: a remainder by 0, a switch whose default stands first, and a read through a pointer.
use Rattle.std.proofs.Common.{◌≡◌, ℕ, false, true, [], ◌∷◌, Some, None, refl}
use Rattle.dae_base.specs.declared.LoadKind.TheVariants.{I32}
use Rattle.dae_meaning.specs.Results.{Trapped}
use Rattle.dae_meaning.specs.Variables.{Env}
use Rattle.dae_meaning.specs.Worlds.{World}
use Rattle.dae_meaning.specs.declared.Operator.TheVariants.{RemainderUnsigned}
use Rattle.dae_program.specs.Expressions.{operate}
use Rattle.dae_program.specs.Outcomes.{Ends}
use Rattle.dae_program.specs.Switches.{first_arm}
use Rattle.dae_program.specs.Trees.{Done, arm_then, no_arms, Read, Address}
use Rattle.dae_program.specs.Wanted.{wanted}
use Rattle.dae_program.proofs.SetFirstExamples.{here}

remainder_by_zero : (env : Env) (w : World) → operate RemainderUnsigned 7 0 env w ≡ Ends (Trapped 1) w
remainder_by_zero env w = refl

-- default: ; case 2: ;
default_first : first_arm 2 (arm_then (None ∷ []) Done (arm_then (Some 2 ∷ []) Done no_arms)) ≡ 1
default_first = refl

-- the pointer p of *p is wanted where *p itself isn't
pointer_is_wanted :
    wanted (λ f v. false) (λ g. g) 0 false (Read here I32 true (Read here I32 false (Address 0 0))) ≡ 1
pointer_is_wanted = refl
