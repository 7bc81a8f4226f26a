use Rattle.std.proofs.Common.{rules, ap, sym, subst, ◌∙◌}
use Rattle.dae_tree.specs.Directives.{line_items}
use Rattle.dae_lex.specs.Numbers.{definitions_of}
use Rattle.dae_lex.specs.Settling.{Settles, state_of, settle}
use Rattle.dae_lex.proofs.Kept.{read_still, defined_still}
use Rattle.dae_lex.proofs.directives.take_line.Goals as goal

pub returns-in_err-take_text-in-Text-clause-settles : goal.returns-in_err-take_text-in-Text-clause-settles
returns-in_err-take_text-in-Text-clause-settles c = λ n h.
    let ms = definitions_of c.args.macros.now in
    subst (λ line. Settles (state_of c.take_text.new.out) c.from_residual.result (settle (state_of c.args.out.now) (line_items n ms line))) c.in-Text.ensures
    (let k = c.in_err-take_text-in-Text.ensures.settles n h in search (rules, k))

pub returns-in_ok-take_text-in-Text-clause-settles : goal.returns-in_ok-take_text-in-Text-clause-settles
returns-in_ok-take_text-in-Text-clause-settles c = λ n h.
    ap (λ line. settle (state_of c.args.out.now) (line_items n (definitions_of c.args.macros.now) line)) (sym c.in-Text.ensures)
    ∙ c.in_ok-take_text-in-Text.ensures.settles n h

pub returns-in_ok-take_text-in-Text-clause-defined : goal.returns-in_ok-take_text-in-Text-clause-defined
returns-in_ok-take_text-in-Text-clause-defined c =
    defined_still c.args.numbers.now c.take_text.new.numbers c.in_ok-take_text-in-Text.ensures.keeps c.args.macros.now c.requires.defined

pub returns-in_ok-include-in-Include-clause-read : goal.returns-in_ok-include-in-Include-clause-read
returns-in_ok-include-in-Include-clause-read c =
    read_still c.args.numbers.now c.include.new.numbers c.in_ok-include-in-Include.ensures.keeps c.args.out.now c.requires.read
