use Rattle.dae_tree.specs.Marks.{marks}
use Rattle.dae_parse.specs.Reached.{Reached}
use Rattle.dae_parse.proofs.run.run.Given as goal

abbrev pub invariant-loop-turn : goal.invariant-loop-turn
invariant-loop-turn l = Reached (marks l.tokens) l._turn l.doing l.machine
