use Rattle.dae_asm_lines.specs.Tokens.{tokens_of}
use Rattle.dae_asm_lines.specs.Lines.{numbers_in}
use Rattle.dae_asm_data.proofs.Naming.{no_name_put}
use Rattle.dae_asm_data.proofs.names.name_of.Goals as goal

pub returns : goal.returns
returns c =
    no_name_put (numbers_in (tokens_of c.args.line.now)) c.new-bytes.result.items c.put_bytes.new.out.items c.as_slice.result.now c.in_ok-put_bytes.field-0 c.new-bytes.ensures.items c.in_ok-put_bytes.ensures c.if-not-branch.false c.as_slice.ensures.value c.in-None.ensures
