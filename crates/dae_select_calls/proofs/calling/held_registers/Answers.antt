use Rattle.std.proofs.Common.{ℕ, ◌&&◌, List, length, get_or, ap, ◌∙◌, arith}
use Rattle.std.specs.Prelude.{nat_lt}
use Rattle.std.proofs.lemmas.List.{take_all}
use Rattle.dae_select_walks.specs.Live.{with_all}
use Rattle.dae_select_values.specs.Tables.{home_by}
use Rattle.dae_select_live.specs.Members.{member}
use Rattle.dae_select_blocks.specs.Blocks.{is_register}
use Rattle.dae_select_calls.proofs.Listed.{held, none_held, held_more}
use Rattle.dae_select_calls.proofs.calling.held_registers.Goals as goal

pub loop-variable-init : goal.loop-variable-init
loop-variable-init c = c.new-held.ensures ∙ none_held c.args.variables (home_by c.args.homes)

pub loop-variable-preserved : goal.loop-variable-preserved
loop-variable-preserved c =
    let a = c.args in let i = c.loop-variable.variable-index in let home = home_by a.homes in
    let same = ap (λ (l : List ℕ). length l) c.variables-variable-items.ensures in
    let test = c.loop-variable-test.true in
    held_more a.variables home a.live.now i c.loop-variable.held c.hold.new.held (omega arith) c.loop-variable.invariant
    (c.in_ok-hold.ensures ∙ ap (λ (l : List ℕ). with_all (λ r. nat_lt (get_or l i 0) a.variables && is_register r (home (get_or l i 0))) (member c.loop-variable.held)) c.variables-variable-items.ensures)

pub returns : goal.returns
returns c =
    let a = c.args in let i = c.loop-variable.variable-index in
    let same = ap (λ (l : List ℕ). length l) c.variables-variable-items.ensures in
    let end = c.loop-variable-test.false in
    c.loop-variable.invariant ∙ ap (held a.variables (home_by a.homes)) (take_all i a.live.now (omega arith))
