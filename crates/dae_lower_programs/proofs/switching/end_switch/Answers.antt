use Rattle.dae_lower_expressions.specs.Lowered.{state_of}
use Rattle.dae_lower_programs.proofs.Parted.{ended_whole}
use Rattle.dae_lower_maker.specs.Making.{so_far}
use Rattle.dae_lower_programs.proofs.switching.end_switch.Goals as goal

pub returns : goal.returns
returns c =
    ended_whole c.args.switch.place c.args.switch.flag c.args.switch.continues c.args.body.items c.in_ok-step.step.items (state_of c.args.lowerer.now) (state_of c.go_on.new.lowerer) (so_far c.repeat.new.self) c.in_ok-step.ensures c.in_ok-repeat.ensures c.in_ok-go_on.ensures
