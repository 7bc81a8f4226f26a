use Rattle.std.proofs.Common.{subst}
use Rattle.dae_machine.specs.Held.{HeldMachine}
use Rattle.dae_machine.specs.Machine.{IsCounted}
use Rattle.dae_machine.proofs.Turns.{picked_if}
use Rattle.dae_machine.proofs.machine.Machine.pick.Goals as goal

pub returns-clause-enabled : goal.returns-clause-enabled
returns-clause-enabled c =
    picked_if c.args.self.now.setup c.args.self.now.state c.args.word c.select.result (subst (λ (m : HeldMachine). IsCounted m.state) c.self.view_is c.self.invariant.counted.counts) c.select.ensures
