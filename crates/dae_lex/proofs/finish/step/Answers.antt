use Rattle.std.proofs.Common.{subst, ap, sym, ◌∙◌}
use Rattle.dae_lex.specs.Settling.{read_of}
use Rattle.dae_lex.specs.Finishing.{AreNamed, built_of, added, finished}
use Rattle.dae_lex.proofs.Finishing.{finished_closed}
use Rattle.dae_lex.proofs.finish.step.Goals as goal

pub returns-in_ok-add-in-None-clause-ok : goal.returns-in_ok-add-in-None-clause-ok
returns-in_ok-add-in-None-clause-ok c = λ rest.
    let t = read_of c.args.read in
    let named = subst (λ m. AreNamed c.args.numbers.now m.entries) (sym c.in_ok-close-in-None.ensures.names) c.requires.named in
    let built = c.in_ok-add-in-None.ensures.built c.args.numbers.now named c.requires.meant ∙ ap (λ b. added b t) c.in_ok-close-in-None.ensures.built in
    ap (λ b. finished b rest) built ∙ finished_closed (built_of c.args.builder.now) c.args.held t rest (sym c.in-None.ensures)

pub returns-in_ok-add-in-None-clause-named : goal.returns-in_ok-add-in-None-clause-named
returns-in_ok-add-in-None-clause-named c =
    let named = subst (λ m. AreNamed c.args.numbers.now m.entries) (sym c.in_ok-close-in-None.ensures.names) c.requires.named in
    c.in_ok-add-in-None.ensures.named c.args.numbers.now named c.requires.meant
