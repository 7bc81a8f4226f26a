-- The form of a program keeps its meaning.
use Rattle.std.proofs.Common.{ℕ, ◌≤◌, false, [], subst, sym, arith}
use Rattle.dae_ir.specs.Form.{calls_of, all_loads}
use Rattle.dae_program.specs.Printing.{most_bytes}
use Rattle.dae_program.specs.Calls.{call as program_calls}
use Rattle.dae_lower.specs.Lowering.{program_form}
use Rattle.dae_lower.specs.Keeping.{FormKeeps, IsKept, with_no_items}
use Rattle.dae_lower.proofs.Printing.{prints_do}
use Rattle.dae_lower.proofs.Initialising.{initialises_do}
use Rattle.dae_lower.proofs.Switching.{switches_do}
use Rattle.dae_lower.proofs.Functions.{program_same}

enough : (n : ℕ) → most_bytes ≤ n → 4294967296 ≤ n
unfolding most_bytes
enough n h = omega (arith, h)

pub form_keeps : FormKeeps
form_keeps p place variables main scoped depth limit w start unread n many =
    subst (λ (d : ℕ). IsKept (program_calls p false n d main [] w) (calls_of (program_form p place variables main) all_loads n d main [] (with_no_items w))) (sym limit)
    (program_same n p place variables main scoped
    (λ m s l f calls places called some. prints_do m n s l f calls places called some many)
    (λ m s l f calls places called some. initialises_do m n s l f calls places called some (enough n many))
    (λ m s l f calls places called some. switches_do m n s l f calls places called some (omega (arith, enough n many)))
    depth w limit start.depth start.fits start.work unread)
