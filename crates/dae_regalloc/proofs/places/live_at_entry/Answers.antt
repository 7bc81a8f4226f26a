use Rattle.std.proofs.Common.{◌+◌, ap, ◌∙◌}
use Rattle.dae_select_live.specs.Members.{member}
use Rattle.dae_select_walks.specs.Live.{with_all, only}
use Rattle.dae_regalloc.proofs.Entering.{before_parameters, one_parameter_more}
use Rattle.dae_regalloc.proofs.places.live_at_entry.Goals as goal

pub loop-parameter-init : goal.loop-parameter-init
loop-parameter-init c = before_parameters (member c.args.before)

pub loop-parameter-preserved : goal.loop-parameter-preserved
loop-parameter-preserved c =
    let i = c.loop-parameter.parameter in
    c.in_ok-insert.ensures ∙ ap (with_all (only (i + 1))) c.loop-parameter.invariant ∙ one_parameter_more (member c.args.before) i
