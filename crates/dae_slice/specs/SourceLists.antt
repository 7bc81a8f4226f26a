-- The variables that lead to a variable, as a list.
use Rattle.std.specs.Prelude.{List, [], ◌∷◌}
use Rattle.dae_slice.specs.declared.graph.SliceNode.{SliceNode}
use Rattle.dae_slice.specs.declared.source_nodes.SourceNodes.{SourceNodes}
use Rattle.dae_slice.specs.declared.source_nodes.SourceNodes.TheVariants.{Nothing, One, Two, Many}

abbrev pub source_list : SourceNodes → List SliceNode
source_list Nothing = []
source_list (One n) = n ∷ []
source_list (Two m n) = m ∷ n ∷ []
source_list (Many nodes) = nodes.items
