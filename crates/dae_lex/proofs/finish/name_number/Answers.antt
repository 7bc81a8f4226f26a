use Rattle.std.proofs.Common.{ap, subst, sym, ◌∙◌, length, ◌+◌, ◌≤◌}
use Rattle.std.proofs.lemmas.List.Elements.{All-from_recursion, recursion_from_All}
use Rattle.dae_lex.specs.Numbers.{IsName}
use Rattle.dae_lex.specs.Finishing.{AreNamed, names_in}
use Rattle.dae_lex.proofs.Entries.{place_named, names_named, all_named, entries_fit}
use Rattle.dae_lex.proofs.finish.name_number.Goals as goal

pub returns-in-Ok-clause-number : goal.returns-in-Ok-clause-number
returns-in-Ok-clause-number c = λ w h is.
    let es = c.args.names.now.entries in
    c.in-Ok.ensures.index ∙ place_named w c.args.number c.args.name is es (recursion_from_All (λ e. IsName w e.0 e.1.now) es h)

pub returns-in-Ok-clause-names : goal.returns-in-Ok-clause-names
returns-in-Ok-clause-names c = λ w h is.
    let es = c.args.names.now.entries in
    ap names_in c.in-Ok.ensures.entries ∙ names_named w c.args.number c.args.name is es (recursion_from_All (λ e. IsName w e.0 e.1.now) es h)

pub returns-in-Ok-clause-named : goal.returns-in-Ok-clause-named
returns-in-Ok-clause-named c = λ w h is.
    let es = c.args.names.now.entries in
    subst (AreNamed w) (sym c.in-Ok.ensures.entries)
    (All-from_recursion (λ e. IsName w e.0 e.1.now) _ (all_named w c.args.number c.args.name is es (recursion_from_All (λ e. IsName w e.0 e.1.now) es h)))

pub returns-in-Ok-clause-fits : goal.returns-in-Ok-clause-fits
returns-in-Ok-clause-fits c =
    subst (λ es. length es ≤ length c.args.names.now.entries + 1) (sym c.in-Ok.ensures.entries) (entries_fit c.args.number c.args.name c.args.names.now.entries)
