use Rattle.std.proofs.Common.{ℕ, ◌++◌, ap, ◌∙◌}
use Rattle.std.proofs.lemmas.Result.{on_ok_weaker}
use Rattle.dae_ir.specs.declared.form.Operand.TheVariants.{Variable}
use Rattle.dae_select_walks.specs.declared.Home.{Home}
use Rattle.dae_select_blocks.specs.Blocks.{value_code, register_or, keep, own_code, take_code, move_code}
use Rattle.dae_select.proofs.walking.action_code.Goals as goal

pub returns-in-Set : goal.returns-in-Set
returns-in-Set c =
    let i = c.in-Set in
    on_ok_weaker c.set_code.result (λ e. rw i.is (e ∙ ap (λ (home : ℕ → Home). c.args.code.now.items ++ (value_code home (register_or 5 (home i.variable)) i.value ++ keep (home i.variable))) c.requires.homes)) c.set_code.ensures

pub returns-in-Own : goal.returns-in-Own
returns-in-Own c =
    let i = c.in-Own in
    on_ok_weaker c.own_code.result (λ e. rw i.is (e ∙ ap (λ (home : ℕ → Home). c.args.code.now.items ++ own_code home i.variable i.kind i.operand) c.requires.homes)) c.own_code.ensures

pub returns-in-Receive : goal.returns-in-Receive
returns-in-Receive c =
    let i = c.in-Receive in
    on_ok_weaker c.receive_code.result (λ e. rw i.is (e ∙ ap (λ (home : ℕ → Home). c.args.code.now.items ++ take_code 30 (home i.variable)) c.requires.homes)) c.receive_code.ensures

pub returns-in-Accept : goal.returns-in-Accept
returns-in-Accept c =
    let i = c.in-Accept in
    on_ok_weaker c.receive_code-in-Accept.result (λ e. rw i.is (e ∙ ap (λ (home : ℕ → Home). c.args.code.now.items ++ take_code 28 (home i.variable)) c.requires.homes)) c.receive_code-in-Accept.ensures

pub returns-in-Offer : goal.returns-in-Offer
returns-in-Offer c =
    let i = c.in-Offer in
    on_ok_weaker c.move_code-in-Offer.result (λ e. rw i.is (e ∙ ap (λ (home : ℕ → Home). c.args.code.now.items ++ move_code home 28 (Variable i.variable)) c.requires.homes)) c.move_code-in-Offer.ensures
