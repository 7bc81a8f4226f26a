use Rattle.dae_lower_maker.proofs.maker.Maker.branch.Goals as goal

pub returns-in_ok-choice : goal.returns-in_ok-choice
returns-in_ok-choice c = rw (c.if-condition.true) (c.in_ok-choice.ensures)

pub returns-in_ok-choice-2 : goal.returns-in_ok-choice-2
returns-in_ok-choice-2 c = rw (c.if-condition.false) (c.in_ok-choice-2.ensures)
