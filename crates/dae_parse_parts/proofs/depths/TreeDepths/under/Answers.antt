use Rattle.std.proofs.Common.{◌∷◌, List, ap, ◌∙◌}
use Rattle.dae_base.specs.declared.Place.{Place}
use Rattle.dae_parse_parts.proofs.depths.TreeDepths.under.Goals as goal

pub returns : goal.returns
returns c = c.in_ok-insert.ensures.items ∙ ap (λ (ps : List Place). c.args.place ∷ ps) c.truncate.ensures.items
