use Rattle.std.proofs.Common.{sym, ◌∙◌}
use Rattle.dae_asm_lines.specs.Tokens.{tokens_of}
use Rattle.dae_asm_data.proofs.Bytes.{numbers_from, fewer}
use Rattle.dae_asm_data.proofs.data.next_number.Goals as goal

pub loop-token-preserved : goal.loop-token-preserved
loop-token-preserved c =
    let next = tokens_of c.in-Some.after.now in
    sym (numbers_from (tokens_of c.loop-token.rest.now) next _ c.in-Some.ensures ∙ c.in_default-number_of.ensures.none next) ∙ c.loop-token.invariant

pub loop-token-smaller : goal.loop-token-smaller
loop-token-smaller c = fewer (tokens_of c.loop-token.rest.now) (tokens_of c.in-Some.after.now) _ c.in-Some.ensures
