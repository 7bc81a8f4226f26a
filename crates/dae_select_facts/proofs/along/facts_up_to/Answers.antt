use Rattle.std.proofs.Common.{◌≡◌, ◌≤◌, false, sym, ◌∙◌, arith}
use Rattle.std.specs.Prelude.{nat_lt}
use Rattle.std.proofs.lemmas.Bool.Decides.{nat_tests}
use Rattle.std.proofs.lemmas.Result.{IfOk-weaker}
use Rattle.dae_select_facts.proofs.along.facts_up_to.Goals as goal

pub returns-then-more_ask : goal.returns-then-more_ask
returns-then-more_ask c = IfOk-weaker c.facts_after.result _ _ (λ new h more. h) c.facts_after.ensures

pub returns-else-more_ask : goal.returns-else-more_ask
returns-else-more_ask c = λ more.
    let is : nat_lt c.args.next c.args.asked ≡ false = sym c.more_ask.ensures ∙ c.if-more_ask.false in
    let le : c.args.asked ≤ c.args.next = grind (arith, nat_tests) in
    absurd (omega (arith, more, le))
