use Rattle.dae_parse_nodes.proofs.Blocks.{not_block}
use Rattle.dae_parse_nodes.proofs.declarations.block_of.Goals as goal

pub returns-in-Block : goal.returns-in-Block
returns-in-Block c = record { some = λ b e. cc; none = λ p ds ss e never. cc }

pub returns-in_default : goal.returns-in_default
returns-in_default c = record { some = λ b e. cc; none = λ p ds ss e never. not_block c.args.statement p ds ss c.in_default.not-Block e }
