use Rattle.std.proofs.Common.{◌≡◌, ◌∙◌, Some, None, ap, find, reverse, cond, rules}
use Rattle.std.specs.Str.{bytes_eq}
use Rattle.dae_unit.specs.Clashes.{name_of, types_differ}
use Rattle.dae_unit.specs.Later.{entry_of_name, put_first}
use Rattle.dae_unit.proofs.Kept.{difference_is_next, later_noted, no_name_differs, put_again}
use Rattle.dae_unit.proofs.clashes.next_difference.Goals as goal

pub returns-in_ok-insert-in-Some-clause-clash : goal.returns-in_ok-insert-in-Some-clause-clash
returns-in_ok-insert-in-Some-clause-clash c ds all =
    let files = c.args.files.now in
    let row = c.args.row in
    let called : name_of files row ≡ Some c.in-Some.name.now = search rules in
    let others = c.as_slice.ensures.value ∙ c.take_others-others.ensures.others in
    c.in_ok-other-in-Some.ensures.last ∙ ap (λ xs. find (types_differ files row) (reverse xs)) others
    ∙ difference_is_next files row c.in-Some.name c.args.later.now.entries called ds all

pub returns-in_ok-insert-in-Some-clause-noted : goal.returns-in_ok-insert-in-Some-clause-noted
returns-in_ok-insert-in-Some-clause-noted c ds all =
    let files = c.args.files.now in
    let row = c.args.row in
    let name = c.in-Some.name in
    let old = c.args.later.now.entries in
    let put = c.put_last.new.others in
    let called : name_of files row ≡ Some name.now = search rules in
    let first = c.in_ok-put_last-in-Some.ensures ∙ ap (λ xs. put_first row (reverse xs)) c.take_others-others.ensures.others in
    later_noted files row name old c.insert.new.self.entries put called first
    (λ q. c.in_ok-insert-in-Some.ensures.updates.0 q ∙ ap (cond (bytes_eq name.now q.now) (Some put)) (c.take_others-others.ensures.kept q) ∙ put_again (bytes_eq name.now q.now) put (entry_of_name old q))
    ds all

pub returns-in-None-clause-clash : goal.returns-in-None-clause-clash
returns-in-None-clause-clash c ds all =
    let none : name_of c.args.files.now c.args.row ≡ None = search rules in
    no_name_differs c.args.files.now c.args.row none ds
