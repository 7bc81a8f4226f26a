use Rattle.std.proofs.Common.{sym, ◌∙◌}
use Rattle.std.proofs.lemmas.List.{length-map}
use Rattle.dae_names.specs.Entries.{name_of}
use Rattle.dae_names.proofs.index.NameIndex.len.Goals as goal

pub returns : goal.returns
returns c = rw (← c.self.view_is) (c.len.ensures ∙ c.self.inside.entries.ok.0 ∙ sym (length-map c.self.inside.entries.items name_of))
