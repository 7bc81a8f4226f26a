use Rattle.std.proofs.Common.{◌+◌, map, ap, sym, ◌∙◌, drop, arith}
use Rattle.dae_tree.specs.Directives.{known_as, conflict_items, definition_items, with_definition, with_definitions, number_macro}
use Rattle.dae_lex.specs.Numbers.{definitions_of}
use Rattle.dae_lex.specs.Settling.{settle}
use Rattle.dae_lex.specs.Rows.{rows_of}
use Rattle.dae_lex.proofs.Kept.{keeps_on, defined_still}
use Rattle.dae_lex.proofs.Rows.{row, items_more, macros_more}
use Rattle.dae_lex.proofs.Turns.{settle_ok, fails_on, fails_along}
use Rattle.dae_lex.proofs.directives.define_numbers.Goals as goal

pub define-requires-clause-defined : goal.define-requires-clause-defined
define-requires-clause-defined c =
    defined_still c.loop-name.numbers c.number_body.new.numbers c.in_ok-body.ensures.keeps c.loop-name.macros c.loop-name.invariant.defined

pub returns-in-Err-clause-settles : goal.returns-in-Err-clause-settles
returns-in-Err-clause-settles c = λ s.
    let l = c.loop-name in
    let ms = definitions_of l.macros in
    let hash = c.args.hash in
    let rows = c.args.rows.now in
    let i = l.name-index in
    let new = row hash ms rows i (omega arith) in
    let made = ap (λ b. conflict_items (known_as ms (record { name = new.name; body = b })) hash) c.in_ok-body.ensures.ok in
    fails_along c.in-Err.e _ _ (ap (settle s) (sym (items_more hash ms rows i (omega arith))) ∙ l.invariant.settles s)
    (fails_on c.in-Err.e s (conflict_items (known_as ms new) hash)
    (definition_items hash (with_definition ms new) (map (number_macro hash) (rows_of (drop (i + 1) rows))))
    (fails_along c.in-Err.e _ _ (ap (settle s) made) (c.in-Err.ensures.settles s)))

pub loop-name-preserved : goal.loop-name-preserved
loop-name-preserved c =
    let l = c.loop-name in
    let ms = definitions_of l.macros in
    let hash = c.args.hash in
    let rows = c.args.rows.now in
    let i = l.name-index in
    let new = row hash ms rows i (omega arith) in
    let rest = map (number_macro hash) (rows_of (drop (i + 1) rows)) in
    let made = ap (λ b. conflict_items (known_as ms (record { name = new.name; body = b })) hash) c.in_ok-body.ensures.ok in
    let after = c.in-Ok.ensures.macros ∙ ap (λ b. with_definition ms (record { name = new.name; body = b })) c.in_ok-body.ensures.ok in
    record {
      settles = λ s.
          ap (λ xs. settle s (definition_items hash xs rest)) after
          ∙ sym (settle_ok s s (conflict_items (known_as ms new) hash) (definition_items hash (with_definition ms new) rest) (ap (settle s) (sym made) ∙ c.in-Ok.ensures.settles s))
          ∙ ap (settle s) (sym (items_more hash ms rows i (omega arith))) ∙ l.invariant.settles s;
      macros = ap (λ xs. with_definitions xs rest) after ∙ sym (macros_more hash ms rows i (omega arith)) ∙ l.invariant.macros;
      defined = c.in-Ok.ensures.defined;
      keeps = keeps_on _ _ _ l.invariant.keeps (keeps_on _ _ _ c.in_ok-body.ensures.keeps c.in-Ok.ensures.keeps);
    }
