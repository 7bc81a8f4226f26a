use Rattle.std.proofs.Common.{subst}
use Rattle.dae_machine.specs.Held.{HeldMachine}
use Rattle.dae_machine.specs.Machine.{IsCounted}
use Rattle.dae_machine.proofs.Turns.{fill_if}
use Rattle.dae_machine.proofs.machine.Machine.enabled_fill.Goals as goal

pub returns-clause-enabled : goal.returns-clause-enabled
returns-clause-enabled c =
    fill_if c.args.self.now.setup c.args.self.now.state c.args.choice c.pick_of_fills.result (subst (λ (m : HeldMachine). IsCounted m.state) c.self.view_is c.self.invariant.counted.counts) c.pick_of_fills.ensures
