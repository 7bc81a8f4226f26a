use Rattle.std.proofs.Common.{refl, ap}
use Rattle.dae_base.proofs.Laws.{ap_two}
use Rattle.dae_tree.specs.Trees as tree
use Rattle.dae_tree.specs.Lists as lists
use Rattle.dae_parse_grammar.specs.Frames as frames
use Rattle.dae_parse_grammar.specs.Machine.{declarators_onto}
use Rattle.dae_parse_nodes.proofs.Listing.{shows_declarators, shows_longer}
use Rattle.dae_parse_nodes.proofs.Making.{line_of}
use Rattle.dae_parse_parts.proofs.Laws.{shows_absent, shows_made, shows_pair}
use Rattle.dae_parse_nodes.specs.Parts.{firsts_line, view_line}
use Rattle.dae_parse_nodes.proofs.specifiers.with_member.Goals as goal
use Rattle.dae_parse_nodes.proofs.specifiers.with_member.Goals.{in-Some, in-None}

pub returns : goal.returns
returns c = λ ms ws ds h k l.
    let target : lists.MemberLine = record { specifiers = ws; declarators = declarators_onto ds tree.no_declarators; end = c.args.end } in
    let pair = shows_pair _ _ _ _ c.args.specified.read c.args.declarators c.in_ok-tree.field-0 ws (declarators_onto ds tree.no_declarators) k.read (shows_declarators c.args.declarators ds l) c.in_ok-tree.ensures in
    shows_longer view_line firsts_line c.args.before (record { tree = c.match-tree.tree; depths = c.in_ok-tree.field-0.depths }) ms target c.longer.result h
    (elim c.match-tree.branch [
      | in-Some w ↦ shows_made _ _ view_line firsts_line c.in_ok-tree.field-0 c.match-tree.tree (ws, declarators_onto ds tree.no_declarators) target _ _ pair refl w.in-Some.is w.tree-is (λ e. ap_two (line_of c.args.end) (ap (λ (p : _). p.0) e) (ap (λ (p : _). p.1) e))
      | in-None w ↦ shows_absent _ _ view_line firsts_line c.in_ok-tree.field-0 c.match-tree.tree (ws, declarators_onto ds tree.no_declarators) target pair refl w.in-None.is w.tree-is
    ])
    c.longer.ensures
