-- The names of the scope of parameters are those that the parameters add, whatever stands outside.
use Rattle.std.proofs.Common.{◌≡◌, Bool, List, [], ◌∷◌, ◌++◌, refl, sym, ap, ◌∙◌, append_assoc}
use Rattle.std.proofs.lemmas.List.{append_cancel_right}
use Rattle.dae_tree.specs.Marks.{TokenMark}
use Rattle.dae_tree.specs.Names.{Names, has_typedef, with_declarator, after_parameter, after_parameters}
use Rattle.dae_tree.specs.Trees.{Specifiers, Declarator, Parameters, no_parameters, parameter_then}
use Rattle.dae_tree.specs.Lists.{Parameter}
use Rattle.dae_parse_grammar.specs.Frames.{Frame, OpenParameters, state, gave_declarator, of_parameter, awaits_declarator}
use Rattle.dae_parse_grammar.specs.Machine.{parameters_onto}
use Rattle.dae_parse_grammar.specs.Standing.{Holds, now_parameters}
use Rattle.dae_parse_parts.specs.declared.scope.Binding.{Binding}
use Rattle.dae_parse_parts.specs.Scopes.{innermost}
use Rattle.dae_parse_parts.specs.ShownNames.{pair_of, bound_all}

bound_all_adds : (bindings : List (Binding Bool)) (names : Names) → bound_all bindings names ≡ bound_all bindings [] ++ names
bound_all_adds [] names = refl
bound_all_adds (b ∷ bindings) names =
    bound_all_adds bindings (pair_of b ∷ names) ∙ sym (append_assoc (bound_all bindings []) (pair_of b ∷ []) names) ∙ ap (λ (first : Names). first ++ names) (sym (bound_all_adds bindings (pair_of b ∷ [])))

now_onto : (before : List Parameter) (ps : Parameters) (names : Names) → after_parameters (parameters_onto before ps) names ≡ after_parameters ps (now_parameters before names)
now_onto [] ps names = refl
now_onto (p ∷ before) ps names = now_onto before (parameter_then p.specifiers p.declarator ps) names

-- with its name bound, a parameter more is among the names
pub names_bound : (d : Declarator) (o : OpenParameters) (before : List Parameter) (ws : Specifiers) (s : List Frame) (is : Bool) (old new : Names) (ts : List TokenMark) → Holds (state (gave_declarator d) (awaits_declarator (of_parameter o before ws) ∷ s) old ts) → is ≡ has_typedef ws → new ≡ with_declarator is d old
    → new ≡ after_parameters (parameters_onto before (parameter_then ws d no_parameters)) o.outside
names_bound d o before ws s is old new ts h t e =
    e ∙ ap (λ (type : Bool). with_declarator type d old) t ∙ ap (with_declarator (has_typedef ws) d) h.0 ∙ ap (λ (names : Names). after_parameter ws d (now_parameters before names)) (sym h.2.0.0.1) ∙ sym (now_onto before (parameter_then ws d no_parameters) o.outside)

-- what holds of the names of an open scope holds whatever stands outside
pub same_names : (ps : Parameters) (bindings : List (Binding Bool)) (outside : Names) (os : List Names) (names now : Names)
    → ((ps : Parameters) (names : Names) → after_parameters ps names ≡ after_parameters ps [] ++ names) → now ≡ after_parameters ps outside → now ≡ bound_all bindings (innermost (outside ∷ os))
    → after_parameters ps names ≡ bound_all bindings names
same_names ps bindings outside os names now law e f =
    law ps names ∙ ap (λ (first : Names). first ++ names) (append_cancel_right (after_parameters ps []) (bound_all bindings []) outside (sym (law ps outside) ∙ sym e ∙ f ∙ bound_all_adds bindings outside)) ∙ sym (bound_all_adds bindings names)
