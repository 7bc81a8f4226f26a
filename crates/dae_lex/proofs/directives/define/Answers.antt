use Rattle.std.proofs.Common.{[], ◌∷◌, map, ap, sym, ◌∙◌, All, Some}
use Rattle.std.proofs.lemmas.Result.{on_ok_weaker}
use Rattle.std.proofs.lemmas.List.{map-append}
use Rattle.std.proofs.lemmas.List.Elements.{All-push, All-same}
use Rattle.dae_tree.specs.Directives.{added, conflict_items}
use Rattle.dae_lex.specs.Numbers.{IsName, IsNumbered, definition_of, definitions_of}
use Rattle.dae_lex.specs.Settling.{settle}
use Rattle.dae_lex.proofs.Kept.{numbered_still, defined_still}
use Rattle.dae_lex.proofs.Turns.{memory_only}
use Rattle.dae_lex.proofs.directives.define.Goals as goal

pub returns-in-Some-true-clause-settles : goal.returns-in-Some-true-clause-settles
returns-in-Some-true-clause-settles c = λ s.
    let w = c.word.new.self in
    let d = defined_still c.args.numbers.now w c.in_ok-number.ensures.keeps c.args.macros.now c.requires.defined in
    let known = c.redefined.ensures.known w d c.in_ok-number.ensures.number in
    ap (λ k. settle s (conflict_items k c.args.hash)) (sym known ∙ c.in-Some-true.is ∙ ap Some c.in-Some-true.field-0-test)

pub returns-in-Some-false-clause-settles : goal.returns-in-Some-false-clause-settles
returns-in-Some-false-clause-settles c = λ s.
    let w = c.word.new.self in
    let d = defined_still c.args.numbers.now w c.in_ok-number.ensures.keeps c.args.macros.now c.requires.defined in
    let known = c.redefined.ensures.known w d c.in_ok-number.ensures.number in
    ap (λ k. settle s (conflict_items k c.args.hash)) (sym known ∙ c.in-Some-false.is ∙ ap Some c.in-Some-false.field-0-test)

pub returns-in-Some-false-clause-macros : goal.returns-in-Some-false-clause-macros
returns-in-Some-false-clause-macros c =
    let w = c.word.new.self in
    let d = defined_still c.args.numbers.now w c.in_ok-number.ensures.keeps c.args.macros.now c.requires.defined in
    let known = c.redefined.ensures.known w d c.in_ok-number.ensures.number in
    sym (ap (λ k. added k (definitions_of c.args.macros.now) (definition_of c.args.new)) (sym known ∙ c.in-Some-false.is ∙ ap Some c.in-Some-false.field-0-test))

pub returns-in-Some-false-clause-defined : goal.returns-in-Some-false-clause-defined
returns-in-Some-false-clause-defined c =
    defined_still c.args.numbers.now c.word.new.self c.in_ok-number.ensures.keeps c.args.macros.now c.requires.defined

pub returns-clause-settles : goal.returns-clause-settles
returns-clause-settles c = λ s.
    let w = c.word.new.self in
    let d = defined_still c.args.numbers.now w c.in_ok-number.ensures.keeps c.args.macros.now c.requires.defined in
    let known = c.redefined.ensures.known w d c.in_ok-number.ensures.number in
    memory_only c.define.result s _ (ap (λ k. settle s (conflict_items k c.args.hash)) (sym known ∙ c.in-None.is)) c.define.ensures.err

pub returns-clause-macros : goal.returns-clause-macros
returns-clause-macros c =
    let w = c.word.new.self in
    let m = c.args.macros.now in
    let n = c.in_ok-number.number in
    let d = defined_still c.args.numbers.now w c.in_ok-number.ensures.keeps m c.requires.defined in
    let known = c.redefined.ensures.known w d c.in_ok-number.ensures.number in
    on_ok_weaker c.define.result
    (λ e. ap (map (λ x. definition_of x.1)) e ∙ map-append (λ x. definition_of x.1) m.bodies.entries ((n, c.args.new) ∷ [])
    ∙ sym (ap (λ k. added k (definitions_of m) (definition_of c.args.new)) (sym known ∙ c.in-None.is)))
    c.define.ensures.ok

pub returns-clause-defined : goal.returns-clause-defined
returns-clause-defined c =
    let w = c.word.new.self in
    let m = c.args.macros.now in
    let n = c.in_ok-number.number in
    let keeps = c.in_ok-number.ensures.keeps in
    let old = c.args.numbers.now in
    on_ok_weaker c.define.result
    (λ e. All-same (λ x. IsName w x.0 x.1.name.now × All (IsNumbered w) x.1.body.items) _ _ e
    (All-push (λ x. IsName w x.0 x.1.name.now × All (IsNumbered w) x.1.body.items) m.bodies.entries (n, c.args.new) (defined_still old w keeps m c.requires.defined)
    (c.in_ok-number.ensures.number, numbered_still old w keeps c.args.new.body.items c.requires.numbered)))
    c.define.ensures.ok
