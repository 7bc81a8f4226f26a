use Rattle.std.proofs.Common.{◌≡◌}
use Rattle.dae_program.specs.Trees.{Expression}
use Rattle.dae_types_sound.specs.Fit.{is_fit}
use Rattle.dae_program.proofs.LawsOfTrees.{by_call}
use Rattle.dae_types_sound.proofs.expressions.+fit.Goals as goal

pub is_fit-returns-in-Call : goal.is_fit-returns-in-Call
is_fit-returns-in-Call t c =
    by_call (λ (e : Expression). c.is_fit_call.result ≡ is_fit c.args.names.now c.args.extent e) c.args.e.now c.in-Call.field-0 c.in-Call.f c.in-Call.xs c.in-Call.is (rw (c.deref-in-Call.ensures.value) at (c.is_fit_call.ensures))
