use Rattle.std.proofs.Common.{◌≡◌, ◌∷◌, ◌∙◌, List, sym, ap, subst}
use Rattle.std.specs.List.{All}
use Rattle.std.proofs.lemmas.List.Elements.{All-push}
use Rattle.dae_guard.specs.Sets.{Node}
use Rattle.dae_guard_walk.specs.Spots.{Holds, nodes_of}
use Rattle.dae_guard_walk.proofs.WalkLaws.{nodes_more}
use Rattle.dae_guard_walk.proofs.walking.put.Goals as goal

pub returns-clause-is : goal.returns-clause-is
returns-clause-is c =
    ap nodes_of c.in_ok-push.ensures.items ∙ (nodes_more c.args.ahead.now.items c.in_ok-next.next
    ∙ ap (λ (n : Node). n ∷ nodes_of c.args.ahead.now.items) c.in_ok-next.ensures.is)

pub returns-clause-holds : goal.returns-clause-holds
returns-clause-holds c =
    subst (All Holds) (sym c.in_ok-push.ensures.items) (All-push Holds c.args.ahead.now.items c.in_ok-next.next c.requires.ahead c.in_ok-next.ensures.holds)
