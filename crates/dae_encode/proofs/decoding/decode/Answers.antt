use Rattle.std.proofs.Common.{◌∙◌, sym, arith}
use Rattle.dae_encode.proofs.Listed.{decode_is, where_some, where_none}
use Rattle.dae_encode.proofs.decoding.decode.Goals as goal

pub returns-clause-told : goal.returns-clause-told
returns-clause-told c = c.by_opcode.ensures ∙ sym (decode_is c.args.word (omega arith))

pub returns-clause-some : goal.returns-clause-some
returns-clause-some c = where_some c.args.word (omega arith) c.by_opcode.result (c.by_opcode.ensures ∙ sym (decode_is c.args.word (omega arith)))

pub returns-clause-none : goal.returns-clause-none
returns-clause-none c = where_none c.args.word c.by_opcode.result (c.by_opcode.ensures ∙ sym (decode_is c.args.word (omega arith)))
