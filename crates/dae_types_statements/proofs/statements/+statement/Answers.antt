use Rattle.dae_types_statements.proofs.Rows.{block_gives, switch_block_gives}
use Rattle.dae_types_statements.proofs.statements.+statement.Goals as goal

pub statement-returns-in-Block : goal.statement-returns-in-Block
statement-returns-in-Block t c = block_gives _ _ _ _ c.in-Block.inner _ c.in-Block.is c.scope.ensures

pub switch_body-returns-in-Block : goal.switch_body-returns-in-Block
switch_body-returns-in-Block t c = switch_block_gives _ _ _ _ c.in-Block.inner _ c.in-Block.is c.switch_block.ensures
