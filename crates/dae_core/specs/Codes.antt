-- The words of a code as instructions.
use Rattle.std.specs.Prelude.{ℕ, Bool, Option, option_map, option_and_then}
use Rattle.dae_base.specs.declared.Side.{Side}
use Rattle.dae_encode.specs.Instructions.{form}
use Rattle.dae_encode.specs.Spelling.{decode}
use Rattle.dae_encode.specs.Uses.{queue_use}
use Rattle.dae_encode.specs.Processor.{Processor, early_fault, put_word, if_no_fault}
use Rattle.dae_encode.specs.declared.Request.{Request}
use Rattle.dae_encode.specs.declared.Request.TheVariants.{Asks}
use Rattle.dae_core.specs.declared.code.Legal.{Legal}

-- the instruction that a word spells, with its registers and its access, where it is legal on this side
abbrev pub legal_word : Bool → Side → ℕ → Option Legal
legal_word copies side w =
    option_and_then (λ i. option_map (λ u. record { inst = i; form = form i; access = u }) (queue_use copies side (form i))) (decode w)

-- what a legal instruction asks, over a common memory of this size
abbrev pub asked : Side → ℕ → Processor → Legal → Request
asked side memory p l =
    if_no_fault (early_fault side memory p l.access l.form) (Asks l.access (put_word p l.access l.inst l.form) l.inst)
