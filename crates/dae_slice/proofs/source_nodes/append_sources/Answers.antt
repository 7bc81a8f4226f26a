use Rattle.std.proofs.Common.{◌++◌, ap, sym, ◌∙◌, append-nil}
use Rattle.dae_slice.specs.SourceLists.{source_list}
use Rattle.dae_slice.specs.declared.source_nodes.SourceNodes.{SourceNodes}
use Rattle.dae_slice.proofs.source_nodes.append_sources.Goals as goal

pub returns-in-Nothing : goal.returns-in-Nothing
returns-in-Nothing c =
    let w = c.args.work.now.items in
    sym (append-nil w) ∙ ap (λ (s : SourceNodes). w ++ source_list s) (sym c.in-Nothing.is)
