use Rattle.std.proofs.Common.{◌∙◌}
use Rattle.dae_names.proofs.Indexed.{latest_told}
use Rattle.dae_names.proofs.index.NameIndex.latest.Goals as goal

pub returns : goal.returns
returns c =
    rw (← c.self.view_is) (c.copied.ensures ∙ c.get.ensures.value ∙ latest_told c.self.inside.entries.items c.self.inside.latest c.args.name c.self.invariant)
