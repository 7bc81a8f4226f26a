-- Digits that are no number's text below 2^40.
use Rattle.std.proofs.Common.{rules, arith}
use Rattle.dae_trace.proofs.Spelled.{not_parsed, not_utf8, other_number}
use Rattle.dae_trace.proofs.reading.slot_number.Goals as goal
use Rattle.dae_trace.proofs.reading.slot_number.Goals.{then-number-ge1099511627776-via-then-number-ge1099511627776, then-number-ge1099511627776-via-else-number-ge1099511627776+then-ne}

pub returns-in_default : goal.returns-in_default
returns-in_default c = not_utf8 c.args.digits.now c.in_default.ensures.cases.0

pub returns-in_default-parse : goal.returns-in_default-parse
returns-in_default-parse c =
    not_parsed c.args.digits.now c.in-Ok.text.now c.parse.result c.in_default-parse.field-0 c.in-Ok.ensures.cases.0 c.parse.ensures.value.0 (search rules)

pub returns-then-number-ge1099511627776 : goal.returns-then-number-ge1099511627776
returns-then-number-ge1099511627776 c = elim c.then-number-ge1099511627776.branch [
  | then-number-ge1099511627776-via-then-number-ge1099511627776 w ↦
      other_number c.args.digits.now c.in-Ok.text.now c.parse.result c.in-Ok-parse.number c.in-Ok.ensures.cases.0 c.parse.ensures.value.0 (search rules)
      (λ lt. absurd (omega (arith, w.if-number-ge1099511627776.true)))
  | then-number-ge1099511627776-via-else-number-ge1099511627776+then-ne w ↦
      other_number c.args.digits.now c.in-Ok.text.now c.parse.result c.in-Ok-parse.number c.in-Ok.ensures.cases.0 c.parse.ensures.value.0 (search rules)
      (λ lt. search rules)
]
