use Rattle.std.proofs.Common.{None, refl}
use Rattle.dae_tree.specs.Lists as lists
use Rattle.dae_parse_grammar.specs.Frames as frames
use Rattle.dae_parse_nodes.proofs.Listing.{shows_longer}
use Rattle.dae_parse_parts.proofs.Laws.{shows_flat}
use Rattle.dae_parse_nodes.specs.Parts.{firsts_entry, view_entry}
use Rattle.dae_parse_nodes.proofs.specifiers.with_plain_enumerator.Goals as goal

pub returns : goal.returns
returns c = λ es h.
    let target : lists.EnumEntry = record { name = c.args.name; value = None } in
    shows_longer view_entry firsts_entry c.args.before c.flat.result es target c.longer.result h (shows_flat view_entry firsts_entry c.flat.result _ target c.flat.ensures.tree c.flat.ensures.places refl refl) c.longer.ensures
