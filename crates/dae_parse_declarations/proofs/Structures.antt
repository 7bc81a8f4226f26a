-- The brace behind the members of a structure closes it, where there are some.
use Rattle.std.proofs.Common.{◌≡◌, true, List, [], ◌∷◌, Some, refl}
use Rattle.dae_tree.specs.Marks.{TokenMark, part, close_brace}
use Rattle.dae_tree.specs.Names.{Names}
use Rattle.dae_tree.specs.Words.{with_whole}
use Rattle.dae_tree.specs.Trees.{StructureBody, no_members}
use Rattle.dae_tree.specs.Lists.{MemberLine}
use Rattle.dae_parse_grammar.specs.Frames.{TypeBody, Frame, state, specifying}
use Rattle.dae_parse_grammar.specs.Machine.{members_followed, members_onto}
use Rattle.dae_parse_nodes.specs.Parts.{is_some_list}

pub members_closed : (b : TypeBody) (before : List MemberLine) (s : List Frame) (names : Names) (ts : List TokenMark) → is_some_list before ≡ true
    → members_followed b before s names (part close_brace ∷ ts) ≡ Some (state (specifying (with_whole b.seen) (StructureBody b.place b.tag b.brace (members_onto before no_members) ∷ b.before)) s names ts)
members_closed b [] s names ts h = cc
members_closed b (m ∷ before) s names ts h = refl
