use Rattle.std.proofs.Common.{ap, ◌∙◌}
use Rattle.dae_select_walks.specs.Facts.{affine_of}
use Rattle.dae_select_facts.specs.Knowns.{facts_by}
use Rattle.dae_select_facts.proofs.known.value_bounds.Goals as goal

pub result_bounds-requires : goal.result_bounds-requires
result_bounds-requires c = c.requires ∙ ap (affine_of (facts_by c.args.known.now)) c.in-Binary.is
