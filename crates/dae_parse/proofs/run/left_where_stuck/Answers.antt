use Rattle.std.proofs.Common.{◌∙◌, subst, arith}
use Rattle.dae_parse_states.specs.declared.frames.Doing.{Doing}
use Rattle.dae_parse_states.specs.Frames.{ShowsDoing}
use Rattle.dae_parse.proofs.Stuck.{left_behind_operand, left_elsewhere}
use Rattle.dae_parse.proofs.run.left_where_stuck.Goals as goal

pub returns-in-Operated : goal.returns-in-Operated
returns-in-Operated c = λ d s names ts shows e.
    let g = left_behind_operand _ _ d s names ts (subst (λ (x : Doing). ShowsDoing x d) c.in-Operated.is shows) in
    omega (arith, c.saturating_sub.ensures, e, g)

pub returns-in_default : goal.returns-in_default
returns-in_default c = λ d s names ts shows e. e ∙ left_elsewhere c.args.doing.now d s names ts shows c.in_default.not-Operated
