use Rattle.std.proofs.Common.{◌≡◌, true, sym, ◌∙◌, arith}
use Rattle.std.proofs.lemmas.Grind.{common_steps}
use Rattle.dae_parse_nodes.specs.Parts.{is_some_list}
use Rattle.dae_parse_declarations.proofs.Structures.{members_closed}
use Rattle.dae_parse_declarations.proofs.bodies.read_member.Goals as goal

pub returns-then-is_some : goal.returns-then-is_some
returns-then-is_some c = λ b ms h k s stands.
    let some : is_some_list ms ≡ true = sym (c.has_members.ensures ms k) ∙ c.if-has_members.true in
    let closed = c.in_ok-close_structure.ensures b ms h k in
    grind (arith, common_steps, members_closed)
