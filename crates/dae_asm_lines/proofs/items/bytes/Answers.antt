use Rattle.dae_asm_lines.specs.Tokens.{tokens_of}
use Rattle.dae_asm_lines.proofs.Counted.{bytes_said}
use Rattle.dae_asm_lines.proofs.items.bytes.Goals as goal

pub returns-then-count-le16 : goal.returns-then-count-le16
returns-then-count-le16 c = bytes_said (tokens_of c.args.line.now) c.in_ok-count.count c.in_ok-count.ensures c.if-count-ge1.true c.if-count-le16.true
