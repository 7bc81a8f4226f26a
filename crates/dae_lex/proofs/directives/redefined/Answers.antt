use Rattle.std.proofs.Common.{not, ap, sym, ◌∙◌, option_map, Some, nat_eq}
use Rattle.std.specs.Map.{lookup}
use Rattle.dae_tree.specs.Directives.{same_spellings}
use Rattle.dae_lex.specs.declared.macros.Macro.{Macro}
use Rattle.dae_lex.specs.Numbers.{cuts_of}
use Rattle.dae_lex.proofs.Found.{mapped_twice, defined_word}
use Rattle.dae_lex.proofs.directives.redefined.Goals as goal

pub returns-in-Some-clause-known : goal.returns-in-Some-clause-known
returns-in-Some-clause-known c = λ w d is.
    let m = c.args.macros.now in
    let new = c.args.new.now in
    let found = ap (option_map cuts_of) c.in-Some.ensures.body
    ∙ sym (mapped_twice (λ (x : Macro). x.body.items) cuts_of (lookup (nat_eq c.args.number) m.bodies.entries))
    ∙ defined_word w c.args.number m new.name.now is d in
    ap (λ b. Some (not b)) (c.same_body.ensures ∙ ap (λ ps. same_spellings (cuts_of c.in-Some.old.now) (cuts_of ps)) c.deref.ensures.value)
    ∙ ap (option_map (λ old. not (same_spellings old (cuts_of new.body.items)))) found

pub returns-in-None-clause-known : goal.returns-in-None-clause-known
returns-in-None-clause-known c = λ w d is.
    let m = c.args.macros.now in
    let new = c.args.new.now in
    let found = ap (option_map cuts_of) c.in-None.ensures.body
    ∙ sym (mapped_twice (λ (x : Macro). x.body.items) cuts_of (lookup (nat_eq c.args.number) m.bodies.entries))
    ∙ defined_word w c.args.number m new.name.now is d in
    ap (option_map (λ old. not (same_spellings old (cuts_of new.body.items)))) found
