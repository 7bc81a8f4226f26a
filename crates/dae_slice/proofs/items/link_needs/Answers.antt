use Rattle.dae_slice.proofs.items.link_needs.Goals as goal

pub returns-in-Assign : goal.returns-in-Assign
returns-in-Assign c = rw c.in-Assign.is c.link_sent.ensures

pub returns-in-Store : goal.returns-in-Store
returns-in-Store c = rw c.in-Store.is c.seed_operand.ensures

pub returns-in-Print : goal.returns-in-Print
returns-in-Print c = rw c.in-Print.is c.seed_operand-in-Print.ensures

pub returns-in-Halt : goal.returns-in-Halt
returns-in-Halt c = rw c.in-Halt.is c.seed_operand-in-Halt.ensures

pub returns-in-Expect : goal.returns-in-Expect
returns-in-Expect c = rw c.in-Expect.is c.seed_checked.ensures

pub returns-in-Call : goal.returns-in-Call
returns-in-Call c = rw c.in-Call.is (rw c.as_slice.ensures at c.link_call.ensures)

pub returns-in-Return : goal.returns-in-Return
returns-in-Return c = rw c.in-Return.is c.link_operand.ensures
