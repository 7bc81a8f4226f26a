use Rattle.std.proofs.Common.{◌≡◌, ◌∷◌, ◌∙◌, List, ap}
use Rattle.dae_guard.specs.Sets.{Node}
use Rattle.dae_guard_walk.specs.Spots.{node_of, nodes_of}
use Rattle.dae_guard_walk.specs.Steps.{entered_node, left_of}
use Rattle.dae_guard_walk.proofs.walking.put_both.Goals as goal

pub returns-clause-is : goal.returns-clause-is
returns-clause-is c =
    c.in_ok-put-2.ensures.is
    ∙ ap (λ (ns : List Node). entered_node c.args.sure.side c.args.sure.access (node_of c.args.spot) (left_of c.args.sure.outcomes.first) ∷ ns)
    (c.in_ok-put.ensures.is
    ∙ ap (λ (n : Node). entered_node c.args.sure.side c.args.sure.access n (left_of c.args.second) ∷ nodes_of c.args.ahead.now.items) c.requires.same)
