use Rattle.std.proofs.Common.{◌≡◌, ◌++◌, List, length, ap, ◌∙◌, arith}
use Rattle.std.proofs.lemmas.Bool.Decides.{nat_tests}
use Rattle.std.proofs.lemmas.Result.{on_ok_weaker}
use Rattle.dae_ir.specs.Streams.{actions_of}
use Rattle.dae_select_walks.specs.declared.Fact.{Fact}
use Rattle.dae_select_walks.specs.Facts.{is_set}
use Rattle.dae_select_live.specs.Members.{member}
use Rattle.dae_select_facts.proofs.Setting.{less_none, less_by_one}
use Rattle.dae_select_facts.proofs.sets.push_unset.Goals as goal

pub returns-then-is_empty : goal.returns-then-is_empty
returns-then-is_empty c =
    let empty = c.is_empty.ensures in let is = c.if-is_empty.true in
    let none : length c.args.facts.now ≡ 0 = grind (arith, nat_tests) in
    less_none (is_set (actions_of c.args.steps.now)) c.args.kept.now.items c.args.facts.now none

pub returns : goal.returns
returns c =
    on_ok_weaker c.push_others.result (λ h. h ∙ ap (λ (l : List Fact). c.args.kept.now.items ++ l)
    (less_by_one c.args.steps.now c.args.facts.now (member c.new-set.result) (member c.add_sets.new.set) c.new-set.ensures c.in_ok-add_sets.ensures)) c.push_others.ensures
