use Rattle.std.proofs.Common.{◌≡◌, drop, filter}
use Rattle.dae_types_typed.specs.Sound.{is_member_of}
use Rattle.dae_unit.proofs.across.next_member.Given as goal

abbrev pub invariant-loop-index : goal.invariant-loop-index
invariant-loop-index l = filter (is_member_of l.structure) (drop l.index l.components) ≡ filter (is_member_of l.structure) l.components
