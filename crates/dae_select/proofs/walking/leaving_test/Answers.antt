use Rattle.std.proofs.Common.{◌≡◌, ◌<◌, false, ◌&&◌, List, length, ap, sym, ◌∙◌, arith}
use Rattle.std.proofs.lemmas.Bool.Decides.{nat_tests}
use Rattle.dae_ir.specs.Streams.{actions_of}
use Rattle.dae_ir.specs.declared.stream.Step.{Step}
use Rattle.dae_select_walks.specs.Compiled.{is_told}
use Rattle.dae_select_walks.specs.Facts.{only_leaves}
use Rattle.dae_select_blocks.specs.Code.{does_nothing, leaves_first}
use Rattle.dae_select.specs.Growing.{first_test}
use Rattle.dae_select.proofs.Counted.{leaving_if, leaving_act, leaving_loop, none_if, some_if, all_three, not_first, not_last}
use Rattle.dae_select.proofs.walking.leaving_test.Goals as goal
use Rattle.dae_select.proofs.walking.leaving_test.Goals.{else-is_told-via-then-is_told+then-does_nothing+else-only_leaves, else-is_told-via-then-is_told+else-does_nothing, else-is_told-via-else-is_told}

pub returns-then-only_leaves : goal.returns-then-only_leaves
returns-then-only_leaves c =
    let body = c.args.body.now in let i = c.in-If in
    let empty = c.is_empty.ensures in let not_empty = c.if-is_empty.false in
    let some : 0 < length body = grind (arith, nat_tests) in
    let l = leaving_if body c.index-body-0.result i.mark i.branch i.p i.q some c.index-body-0.is i.is in
    let told = sym c.is_told.ensures ∙ c.if-is_told.true in
    let one = sym (c.does_nothing.ensures ∙ ap (λ (s : List Step). does_nothing (actions_of s)) c.deref.ensures.value) ∙ c.if-does_nothing.true in
    let two = sym (c.only_leaves.ensures ∙ ap (λ (s : List Step). only_leaves (actions_of s)) c.deref-then-does_nothing.ensures.value) ∙ c.if-only_leaves.true in
    some_if (leaves_first (actions_of body)) (first_test (actions_of body)) _ (l.1 ∙ all_three (is_told i.branch) (does_nothing (actions_of i.p.items)) (only_leaves (actions_of i.q.items)) told one two) l.0

pub returns-else-is_told : goal.returns-else-is_told
returns-else-is_told c =
    let body = c.args.body.now in let i = c.in-If in
    let empty = c.is_empty.ensures in let not_empty = c.if-is_empty.false in
    let some : 0 < length body = grind (arith, nat_tests) in
    let l = leaving_if body c.index-body-0.result i.mark i.branch i.p i.q some c.index-body-0.is i.is in
    let lists = does_nothing (actions_of i.p.items) && only_leaves (actions_of i.q.items) in
    let no : leaves_first (actions_of body) ≡ false = l.1 ∙ (elim c.else-is_told.branch [
      | else-is_told-via-then-is_told+then-does_nothing+else-only_leaves w ↦ not_last (is_told i.branch) lists (not_last (does_nothing (actions_of i.p.items)) (only_leaves (actions_of i.q.items))
          (sym (w.only_leaves.ensures ∙ ap (λ (s : List Step). only_leaves (actions_of s)) w.deref-then-does_nothing.ensures.value) ∙ w.if-only_leaves.false))
      | else-is_told-via-then-is_told+else-does_nothing w ↦ not_last (is_told i.branch) lists (not_first (does_nothing (actions_of i.p.items)) (only_leaves (actions_of i.q.items))
          (sym (w.does_nothing.ensures ∙ ap (λ (s : List Step). does_nothing (actions_of s)) w.deref.ensures.value) ∙ w.if-does_nothing.false))
      | else-is_told-via-else-is_told w ↦ not_first (is_told i.branch) lists (sym c.is_told.ensures ∙ w.if-is_told.false)
    ]) in
    none_if (leaves_first (actions_of body)) (first_test (actions_of body)) no

pub returns-in-Act : goal.returns-in-Act
returns-in-Act c =
    let body = c.args.body.now in let i = c.in-Act in
    let empty = c.is_empty.ensures in let not_empty = c.if-is_empty.false in
    let some : 0 < length body = grind (arith, nat_tests) in
    none_if (leaves_first (actions_of body)) (first_test (actions_of body)) (leaving_act body c.index-body-0.result i.field-0 i.field-1 some c.index-body-0.is i.is)

pub returns-in-Loop : goal.returns-in-Loop
returns-in-Loop c =
    let body = c.args.body.now in let i = c.in-Loop in
    let empty = c.is_empty.ensures in let not_empty = c.if-is_empty.false in
    let some : 0 < length body = grind (arith, nat_tests) in
    none_if (leaves_first (actions_of body)) (first_test (actions_of body)) (leaving_loop body c.index-body-0.result i.field-0 i.field-1 i.field-2 some c.index-body-0.is i.is)
