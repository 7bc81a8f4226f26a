use Rattle.std.proofs.Common.{◌≡◌, Bool, true, false, ◌&&◌, ap, sym, ◌∙◌, arith}
use Rattle.std.specs.Prelude.{nat_lt}
use Rattle.std.proofs.lemmas.Bool.Decides.{nat_tests}
use Rattle.std.proofs.lemmas.Result.{on_ok_weaker}
use Rattle.dae_select_walks.specs.Live.{with_all}
use Rattle.dae_select_values.specs.Tables.{home_by}
use Rattle.dae_select_walks.specs.declared.Home.{Home}
use Rattle.dae_select_live.specs.Members.{member}
use Rattle.dae_select_blocks.specs.Blocks.{is_register}
use Rattle.dae_select_calls.proofs.calling.hold.Goals as goal

pub returns-then-variable-variables : goal.returns-then-variable-variables
returns-then-variable-variables c =
    let a = c.args in let old = member a.held.now in let test = c.if-variable-variables.true in
    let below : nat_lt a.variable a.variables ≡ true = grind (arith, nat_tests) in
    on_ok_weaker c.hold_home.result (λ e. e ∙ ap (λ (h : Home). with_all (λ r. is_register r h) old) c.home_of.ensures.home
    ∙ ap (λ (b : Bool). with_all (λ r. b && is_register r (home_by a.homes a.variable)) old) (sym below)) c.hold_home.ensures

pub returns-else-variable-variables : goal.returns-else-variable-variables
returns-else-variable-variables c =
    let a = c.args in let old = member a.held.now in let test = c.if-variable-variables.false in
    let above : nat_lt a.variable a.variables ≡ false = grind (arith, nat_tests) in
    ap (λ (b : Bool). with_all (λ r. b && is_register r (home_by a.homes a.variable)) old) (sym above)
