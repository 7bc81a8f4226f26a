use Rattle.std.proofs.Common.{sym, ◌∙◌}
use Rattle.dae_threads.proofs.Tried.{spread_simple}
use Rattle.dae_threads.proofs.deciding.simple_cost.Goals as goal

pub returns-then-is_light : goal.returns-then-is_light
returns-then-is_light c =
    let w = c.in-Simple in
    spread_simple c.args.statement.now w.field-0 w.item w.is (sym c.is_light.ensures ∙ c.if-is_light.true)
