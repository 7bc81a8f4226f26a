use Rattle.std.proofs.Common.{◌≡◌, ◌∙◌, true, false, Some, None, rules}
use Rattle.dae_unit.specs.Clashes.{name_of}
use Rattle.dae_unit.specs.Linkage.{defines}
use Rattle.dae_unit.proofs.Kept.{clash_is_next, next_noted, no_definition_clashes, no_name_clashes}
use Rattle.dae_unit.proofs.clashes.next_definition.Goals as goal

pub returns-then-not-defines-clause-clash : goal.returns-then-not-defines-clause-clash
returns-then-not-defines-clause-clash c ds all =
    let no : defines c.args.row ≡ false = search rules in
    no_definition_clashes c.args.files.now c.args.row no ds

pub returns-in_ok-insert-in-Some-clause-clash : goal.returns-in_ok-insert-in-Some-clause-clash
returns-in_ok-insert-in-Some-clause-clash c ds all =
    let yes : defines c.args.row ≡ true = search rules in
    let called : name_of c.args.files.now c.args.row ≡ Some c.in-Some.name.now = search rules in
    c.in_ok-insert-in-Some.ensures.old ∙ clash_is_next c.args.files.now c.args.row c.in-Some.name c.args.next.now.entries yes called ds all

pub returns-in_ok-insert-in-Some-clause-noted : goal.returns-in_ok-insert-in-Some-clause-noted
returns-in_ok-insert-in-Some-clause-noted c ds all =
    let yes : defines c.args.row ≡ true = search rules in
    let called : name_of c.args.files.now c.args.row ≡ Some c.in-Some.name.now = search rules in
    next_noted c.args.files.now c.args.row c.in-Some.name c.args.next.now.entries c.insert.new.self.entries yes called (λ q. c.in_ok-insert-in-Some.ensures.updates.0 q) ds all

pub returns-in-None-clause-clash : goal.returns-in-None-clause-clash
returns-in-None-clause-clash c ds all =
    let no : name_of c.args.files.now c.args.row ≡ None = search rules in
    no_name_clashes c.args.files.now c.args.row no ds
