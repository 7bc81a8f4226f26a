use Rattle.std.proofs.Common.{◌≡◌, drop}
use Rattle.dae_unit_join.specs.Contents.{literals_behind}
use Rattle.dae_unit_join.proofs.contents.push_literals.Given as goal

abbrev pub invariant-loop-literal : goal.invariant-loop-literal
invariant-loop-literal l =
    literals_behind l.content.items (drop l.literal-index l.literals) ≡ literals_behind l.initial.content.items l.literals
