-- A processor that halted asks nothing.
use Rattle.std.proofs.Common.{refl, ap, sym, ◌∙◌}
use Rattle.dae_encode.specs.declared.Request.{Request}
use Rattle.dae_core.specs.Moves.{granted_by}
use Rattle.dae_core.proofs.Fetches.{halted_asks}
use Rattle.dae_core.proofs.processor.Core.try_step.Goals as goal

pub returns-then-is_halted-clause-came : goal.returns-then-is_halted-clause-came
returns-then-is_halted-clause-came g c =
    let halted = sym c.is_halted.ensures ∙ c.if-is_halted.true in (
      ap (λ (r : Request). granted_by g.P.Ports.is_ready g.P.Ports.front g.P.Ports.after c.args.self.now.side c.args.self.now.processor c.args.ports.now r)
          (halted_asks c.args.self.now.copies c.args.self.now.side c.args.self.now.code c.args.memory c.args.self.now.processor halted),
      refl,
      refl,
    )
