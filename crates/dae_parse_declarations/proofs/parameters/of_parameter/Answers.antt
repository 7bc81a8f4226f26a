use Rattle.std.proofs.Common.{◌≡◌, List, ◌∷◌, sym, subst, ◌∙◌, rules, arith}
use Rattle.std.proofs.lemmas.Grind.{common_steps}
use Rattle.std.specs.Prelude.{IfOk}
use Rattle.dae_tree.specs.Marks.{TokenMark, part, close_paren}
use Rattle.dae_parse_grammar.specs.Frames.{of_parameter}
use Rattle.dae_parse_grammar.specs.Machine.{declarator_given}
use Rattle.dae_parse_states.specs.Kept.{Frame as Kept}
use Rattle.dae_parse_states.specs.Frames.{ShowsStack}
use Rattle.dae_parse_states.specs.States.{Follows}
use Rattle.dae_parse_declarations.proofs.Inner.{names_bound}
use Rattle.dae_parse_declarations.proofs.parameters.of_parameter.Goals as goal

pub returns-in-Some : goal.returns-in-Some
returns-in-Some c = λ d o ps ws s h opened list specified holds stands.
    let parameters = c.in_ok-list.ensures ps ws d list specified h in
    let bound = names_bound d o ps ws s c.args.specified.typedef c.args.machine.now.scope.names _ c.args.machine.now.rest holds specified.typedef (c.in_ok-bind.ensures.names d h.name) in
    let below = subst (λ (frames : List Kept). ShowsStack frames s) (sym c.in_ok-bind.ensures.stack) stands.0 in
    let closed = c.close_parameters.ensures o (record { specifiers = ws; declarator = d } ∷ ps) s opened parameters bound (below, c.in_ok-bind.ensures.outside ∙ stands.1) in
    let rest : c.args.machine.now.rest ≡ part close_paren ∷ c.take_sign-2.new.self = first_of (search rules, grind (arith, common_steps)) in
    subst (λ (ts : List TokenMark). IfOk c.close_parameters.result (λ r. Follows r c.close_parameters.new.machine (declarator_given d (of_parameter o ps ws) s c.args.machine.now.scope.names ts))) (sym rest) closed
