use Rattle.dae_slice.proofs.Leads.{test_seeded}
use Rattle.dae_slice.proofs.items.seed_test.Goals as goal

pub returns : goal.returns
returns c =
    test_seeded c.args.function c.args.test c.args.graph.now c.seed_operand.new.graph c.seed_operand-2.new.graph c.in_ok-seed_operand.ensures c.in_ok-seed_operand-2.ensures
