use Rattle.std.proofs.Common.{◌≡◌, ◌≤◌, ◌+◌, ◌&&◌, ℕ, false, length, filter}
use Rattle.dae_types_typed.specs.Sound.{is_member_of, members_of, tables_of}
use Rattle.dae_unit.specs.Across.{same_members, same_within_files}
use Rattle.dae_unit.specs.Couples.{all_agree}
use Rattle.dae_unit.proofs.across.push_members.Given as goal

abbrev pub invariant-loop-x : goal.invariant-loop-x
invariant-loop-x l =
    record {
      same : (k : ℕ) →
          (all_agree k l.f l.g l.parts.items
          && same_members (same_within_files k l.f l.g false) l.f l.g (filter (is_member_of l.structures.0) l.left) (filter (is_member_of l.structures.1) l.right))
          ≡ (all_agree k l.f l.g l.initial.parts.items
          && same_members (same_within_files k l.f l.g false) l.f l.g (members_of (tables_of l.f) l.structures.0) (members_of (tables_of l.g) l.structures.1));
      few : length l.parts.items + length l.left ≤ length l.initial.parts.items + length l.f.components;
    }

abbrev pub decreases-loop-x : goal.decreases-loop-x
decreases-loop-x l = length l.left
