use Rattle.std.proofs.Common.{◌≡◌, drop}
use Rattle.dae_unit.specs.Placing.{literal_layouts}
use Rattle.dae_unit_join.proofs.placing.push_literals.Given as goal

abbrev pub invariant-loop-literal : goal.invariant-loop-literal
invariant-loop-literal l =
    literal_layouts l.rooms.items (drop l.literal-index l.literals) ≡ literal_layouts l.initial.rooms.items l.literals
