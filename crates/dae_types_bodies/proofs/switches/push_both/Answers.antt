use Rattle.std.proofs.Common.{List, Ok, subst}
use Rattle.dae_types_file_plans.specs.Statements.{Armed}
use Rattle.dae_types_rules.specs.Plan.{Gives}
use Rattle.dae_types_bodies.specs.Arms.{armed}
use Rattle.dae_types_bodies.proofs.Arms.{both_behind}
use Rattle.dae_types_bodies.proofs.switches.push_both.Goals as goal

pub returns : goal.returns
returns c =
    subst (λ (xs : List Armed). Gives {Y = List Armed} (λ v. armed v.items) c.push_arm.result (Ok xs)) (both_behind c.args.arms.items c.push.new.self.items c.args.done c.args.label c.in_ok-push.ensures.items) c.push_arm.ensures
