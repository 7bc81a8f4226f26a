-- Whether the ways into functions reach them.
use Rattle.std.proofs.Common.{◌≡◌, ℕ, ◌<◌, true, ap, sym, subst, ◌∙◌}
use Rattle.dae_ir.specs.declared.stream.Stream.{Stream}
use Rattle.dae_select_values.specs.declared.jumping.CallForm.TheVariants.{Anywhere}
use Rattle.dae_select_values.specs.Jumps.{is_jalr}
use Rattle.dae_select_calls.specs.declared.layouts.Layouts.{Layouts}
use Rattle.dae_link.specs.Sides.{IsReached, end_of}

-- where functions are entered from anywhere, nothing need be reached
pub from_anywhere : (stream : Stream) (all : Layouts) → all.calls ≡ Anywhere → IsReached stream all
from_anywhere stream all e is = absurd (let none : is_jalr Anywhere ≡ true = ap is_jalr (sym e) ∙ is in cc)

-- and so much code is reached by JALR alone
pub within_reach : (stream : Stream) (all : Layouts) (words : ℕ) → words ≡ end_of stream all → words < 512 → IsReached stream all
within_reach stream all words same low is = subst (λ (n : ℕ). n < 512) same low
