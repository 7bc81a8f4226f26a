use Rattle.std.proofs.Common.{ap, ◌∙◌}
use Rattle.std.specs.Prelude.{None}
use Rattle.dae_lower_expressions.specs.Lowered.{state_of}
use Rattle.dae_lower_programs.proofs.Parted.{begun_whole}
use Rattle.dae_program.specs.Views.{arms_of}
use Rattle.dae_lower_maker.specs.Making.{CodeSoFar, so_far}
use Rattle.dae_program.specs.Switches.{arm_with, count_arms}
use Rattle.dae_lower_programs.proofs.switching.begin_switch.Goals as goal

pub returns-clause-made : goal.returns-clause-made
returns-clause-made c =
    let arms = arms_of c.args.arms.now in
    begun_whole c.args.place c.args.x c.default_arm-other.result (arm_with None 0 arms (count_arms arms)) arms c.arms_continue.result (state_of c.args.lowerer.now) (state_of c.clear.new.lowerer) (so_far c.reserve-v.new.self) (so_far c.reserve-flag.new.self) (so_far c.item.new.self) (so_far c.repeat.new.self) c.reserve-v.result c.reserve-flag.result c.in_ok-searching.searching.items c.new-nothing.result.items
    c.default_arm-other.ensures c.reserve-v.ensures.given c.reserve-v.ensures.after c.reserve-flag.ensures.given c.reserve-flag.ensures.after c.in_ok-searching.ensures c.new-nothing.ensures.items c.in_ok-item.ensures c.in_ok-repeat.ensures c.in_ok-clear.ensures

pub returns-clause-flag : goal.returns-clause-flag
returns-clause-flag c = c.reserve-flag.ensures.given ∙ ap (λ (s : CodeSoFar). s.next) c.reserve-v.ensures.after
