use Rattle.std.proofs.Common.{[], Option, ap, ◌∙◌}
use Rattle.dae_base.specs.declared.Place.{Place}
use Rattle.dae_base.proofs.Laws.{ap_two}
use Rattle.std.specs.Option.{unwrap_or}
use Rattle.dae_parse_grammar.specs.Machine.{onto}
use Rattle.dae_parse_nodes.proofs.Making.{declaration_of}
use Rattle.dae_parse_nodes.proofs.Specifying.{place_of_first}
use Rattle.dae_tree.specs.FileViews.{view_declaration}
use Rattle.dae_parse_grammar.specs.FirstPlaces.{firsts_declaration, both, over, firsts_specifiers, firsts_items}
use Rattle.dae_parse_nodes.proofs.Listing.{shows_items}
use Rattle.dae_parse_parts.proofs.Laws.{shows_over, shows_made, shows_absent, shows_pair}
use Rattle.dae_parse_nodes.proofs.declarations.declaration.Goals as goal
use Rattle.dae_parse_nodes.proofs.declarations.declaration.Goals.{in-Some, in-None}

pub returns : goal.returns
returns c = λ ws items h k.
    let parts = shows_pair _ _ _ _ c.args.specified.read c.args.items c.in_ok-parts.parts ws (onto items []) h.read (shows_items c.args.items items k) c.in_ok-parts.ensures in
    let whole = shows_over _ _ c.unwrap_or-first.result c.in_ok-parts.parts c.in_ok-tree.field-0 (ws, (onto items [])) parts c.in_ok-tree.ensures in
    elim c.match-tree.branch [
      | in-Some w ↦ shows_made _ _ view_declaration firsts_declaration _ c.match-tree.tree (ws, (onto items [])) (declaration_of c.args.end ws (onto items [])) _ _ whole (ap (λ (p : Place). over p (both (firsts_specifiers ws) (firsts_items (onto items [])))) (c.unwrap_or-first.ensures ∙ ap (λ (o : Option Place). unwrap_or o c.args.end) h.place ∙ place_of_first ws c.args.end)) w.in-Some.is w.tree-is (λ e. ap_two (declaration_of c.args.end) (ap (λ (p : _). p.0) e) (ap (λ (p : _). p.1) e))
      | in-None w ↦ shows_absent _ _ view_declaration firsts_declaration _ c.match-tree.tree (ws, (onto items [])) (declaration_of c.args.end ws (onto items [])) whole (ap (λ (p : Place). over p (both (firsts_specifiers ws) (firsts_items (onto items [])))) (c.unwrap_or-first.ensures ∙ ap (λ (o : Option Place). unwrap_or o c.args.end) h.place ∙ place_of_first ws c.args.end)) w.in-None.is w.tree-is
    ]
