use Rattle.std.proofs.Common.{Option, None, refl, sym, ap, ◌∙◌}
use Rattle.dae_base.specs.declared.Place.{Place}
use Rattle.dae_base.proofs.Laws.{ap_three, ap_two}
use Rattle.dae_tree.specs.Lists as lists
use Rattle.dae_tree.specs.Views.{view_declarator}
use Rattle.dae_parse_grammar.specs.Frames as frames
use Rattle.std.specs.Prelude.{Bool, Ok, ◌||◌, if◌then◌else◌}
use Rattle.dae_parse_nodes.proofs.Declaring.{void_of_parameters}
use Rattle.dae_parse_nodes.proofs.Listing.{shows_longer}
use Rattle.dae_parse_nodes.proofs.Making.{parameter_of}
use Rattle.dae_parse_parts.proofs.Laws.{shows_absent, shows_made, shows_pair}
use Rattle.dae_parse_nodes.specs.Parts.{firsts_parameter, view_parameter}
use Rattle.dae_parse_nodes.proofs.declarators.with_parameter.Goals as goal
use Rattle.dae_parse_nodes.proofs.declarators.with_parameter.Goals.{in-Some, in-None}

pub returns : goal.returns
returns c = λ ps ws d h k l.
    let target : lists.Parameter = parameter_of ws d in
    let pair = shows_pair _ _ _ _ c.args.specified.read c.args.declared.read c.in_ok-tree.field-0 ws d k.read l.read c.in_ok-tree.ensures in
    record {
      read = shows_longer {E = Unit {0}} view_parameter firsts_parameter c.args.before.read (record { tree = c.match-tree.tree; depths = c.in_ok-tree.field-0.depths }) ps target (Ok c.in_ok-read.read) h.read
          (elim c.match-tree.branch [
            | in-Some w ↦ shows_made _ _ view_parameter firsts_parameter c.in_ok-tree.field-0 c.match-tree.tree (ws, d) target _ _ pair refl w.in-Some.is w.tree-is (λ e. ap_two parameter_of (ap (λ (p : _). p.0) e) (ap view_declarator w.into_inner.ensures ∙ ap (λ (p : _). p.1) e))
            | in-None w ↦ shows_absent _ _ view_parameter firsts_parameter c.in_ok-tree.field-0 c.match-tree.tree (ws, d) target pair refl w.in-None.is w.tree-is
          ])
          c.in_ok-read.ensures;
      any = refl;
      void = c.unless-void.ensures ∙ ap_three (λ (x : Bool) (y : Bool) (z : Option Place). if x || y then None else z) h.any l.present k.void ∙ sym (void_of_parameters ps ws d);
    }
