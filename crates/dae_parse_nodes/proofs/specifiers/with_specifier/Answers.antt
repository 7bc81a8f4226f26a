use Rattle.std.proofs.Common.{Option, Some, sym, ap, ◌∙◌}
use Rattle.dae_base.specs.declared.Place.{Place}
use Rattle.dae_base.proofs.Laws.{ap_two}
use Rattle.dae_tree.specs.Trees as tree
use Rattle.std.specs.Prelude.{Bool, ◌||◌}
use Rattle.dae_parse_nodes.proofs.Specifying.{place_last, shows_joined, typedef_by_word, typedef_last, void_by_word, void_first, void_last}
use Rattle.std.specs.Option.{unwrap_or}
use Rattle.dae_parse_grammar.specs.Machine.{specifiers_onto}
use Rattle.dae_parse_nodes.specs.Parts.{first_place, says_typedef, void_place}
use Rattle.dae_parse_nodes.proofs.specifiers.with_specifier.Goals as goal

pub returns-in-Some : goal.returns-in-Some
returns-in-Some c = λ ws w h k p t.
    record {
      read = shows_joined c.args.before.read c.args.specifier c.in_ok-read.read ws w h.read k c.in_ok-read.ensures;
      typedef = c.either-typedef.ensures ∙ ap_two (λ (x y : Bool). x || y) h.typedef (c.is_typedef.ensures ∙ ap says_typedef t ∙ typedef_by_word w) ∙ sym (typedef_last ws w);
      place = ap Some (ap (λ (o : Option Place). unwrap_or o c.args.place) (sym c.in-Some.is ∙ h.place) ∙ ap (unwrap_or (first_place (specifiers_onto ws tree.no_specifiers))) p) ∙ sym (place_last ws w);
      void = sym (void_last ws w c.in-Some.first (sym c.in-Some.is ∙ h.place));
    }

pub returns-in-None : goal.returns-in-None
returns-in-None c = λ ws w h k p t.
    record {
      read = shows_joined c.args.before.read c.args.specifier c.in_ok-read.read ws w h.read k c.in_ok-read.ensures;
      typedef = c.either-typedef.ensures ∙ ap_two (λ (x y : Bool). x || y) h.typedef (c.is_typedef.ensures ∙ ap says_typedef t ∙ typedef_by_word w) ∙ sym (typedef_last ws w);
      place = ap Some (ap (λ (o : Option Place). unwrap_or o c.args.place) (sym c.in-None.is ∙ h.place) ∙ ap (unwrap_or (first_place (specifiers_onto ws tree.no_specifiers))) p) ∙ sym (place_last ws w);
      void = c.void_at.ensures ∙ ap_two void_place p t ∙ void_by_word w ∙ sym (void_first ws w (sym c.in-None.is ∙ h.place));
    }
