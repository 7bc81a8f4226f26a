use Rattle.dae_asm_lines.specs.Tokens.{tokens_of}
use Rattle.dae_asm_lines.proofs.Counted.{name_said}
use Rattle.dae_asm_lines.proofs.items.file_name.Goals as goal

pub returns : goal.returns
returns c = name_said (tokens_of c.args.line.now) c.in_ok-count_numbers.field-0 c.in_ok-count_numbers.ensures
