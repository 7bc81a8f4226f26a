use Rattle.std.proofs.Common.{◌≡◌, rules, refl, sym, ap, ◌∙◌}
use Rattle.dae_base.specs.declared.Place.{Place}
use Rattle.dae_base.proofs.Laws.{ap_two}
use Rattle.dae_tree.specs.declared.expressions.Declarator.TheVariants as declarator
use Rattle.dae_tree.specs.Trees as tree
use Rattle.dae_parse_nodes.proofs.Declaring.{place_at_first, chosen_then, chosen_else}
use Rattle.dae_parse_nodes.proofs.declarators.parameter_function.Goals.{then-bare, else-bare}
use Rattle.dae_parse_parts.specs.ShownNames.{bound_all}
use Rattle.dae_tree.specs.Names.{is_bare}
use Rattle.std.specs.Prelude.{true, false}
use Rattle.dae_parse_grammar.specs.Machine.{parameters_onto}
use Rattle.dae_tree.specs.Views.{view_declarator}
use Rattle.dae_parse_grammar.specs.FirstPlaces.{firsts_declarator, both, over, firsts_parameters}
use Rattle.dae_parse_nodes.proofs.Listing.{shows_parameters}
use Rattle.dae_tree.proofs.Laws.{view_function}
use Rattle.dae_parse_parts.proofs.Laws.{shows_node, shows_pair}
use Rattle.dae_parse_nodes.proofs.declarators.parameter_function.Goals as goal

pub returns : goal.returns
returns c = λ d ps h k i.
    let list = parameters_onto ps tree.no_parameters in
    let parts = shows_pair _ _ _ _ c.args.declared.read c.args.list c.in_ok-parts.parts d list h.read (shows_parameters c.args.list ps k) c.in_ok-parts.ensures in
    record {
      read = shows_node _ _ view_declarator firsts_declarator _ c.first_or-first.result c.in_ok-parts.parts c.in_ok-read.read (d, list) (tree.Function d c.args.place list) parts c.in_ok-read.ensures (ap (λ (p : Place). over p (both (firsts_declarator d) (firsts_parameters list))) (c.first_or-first.ensures ∙ place_at_first c.args.declared.read d c.args.place h.read))
          (λ t n made e.
          let m : n ≡ declarator.Function t.0 c.args.place t.1 = search rules in
          ap view_declarator m ∙ view_function t.0 c.args.place t.1 ∙ ap_two (λ x y. tree.Function x c.args.place y) (ap (λ (p : _). p.0) e) (ap (λ (p : _). p.1) e));
      name = h.name;
      present = refl;
      bare = refl;
      parameters = λ names. elim c.if-bare.branch [
        | then-bare w ↦ let b : is_bare d ≡ true = sym h.bare ∙ w.if-bare.true in chosen_then (is_bare d) _ _ _ b (i b names ∙ ap (λ (v : _). bound_all v.items names) (sym w.parameters-is))
        | else-bare w ↦ let b : is_bare d ≡ false = sym h.bare ∙ w.if-bare.false in chosen_else (is_bare d) _ _ _ b (h.parameters names ∙ ap (λ (v : _). bound_all v.items names) (sym w.parameters-is))
      ];
    }
