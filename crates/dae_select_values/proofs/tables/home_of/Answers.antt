use Rattle.std.proofs.Common.{arith, sym, ◌∙◌, subst}
use Rattle.dae_select_walks.specs.declared.Home.{Home}
use Rattle.dae_select_values.specs.Tables.{IsNear}
use Rattle.dae_select_walks.proofs.LawsOfWalks.{variable_home}
use Rattle.dae_select_values.proofs.tables.home_of.Goals as goal

pub returns-clause-home : goal.returns-clause-home
returns-clause-home c = c.home_at.ensures ∙ sym (variable_home c.args.homes.homes.now c.args.homes.residents.now c.args.variable (let small = c.ranges.variable in omega (arith, small)))

pub returns-clause-near : goal.returns-clause-near
returns-clause-near c = λ near.
    subst (λ (h : Home). IsNear h) (sym (c.home_at.ensures ∙ sym (variable_home c.args.homes.homes.now c.args.homes.residents.now c.args.variable (let small = c.ranges.variable in omega (arith, small))))) (near c.args.variable)
