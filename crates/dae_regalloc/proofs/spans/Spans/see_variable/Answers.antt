use Rattle.std.proofs.Common.{◌≡◌, ℕ, length, refl, ap, sym, ◌∙◌, arith}
use Rattle.dae_regalloc.specs.declared.Span.{Span}
use Rattle.dae_regalloc.specs.declared.spans.Spans.{Spans}
use Rattle.dae_regalloc.specs.Seen.{number_in, with_number}
use Rattle.dae_regalloc.proofs.Widening.{widened_further, begun_further, beyond_further}
use Rattle.dae_regalloc.proofs.spans.Spans.see_variable.Goals as goal

pub returns-then-number-len : goal.returns-then-number-len
returns-then-number-len c =
    widened_further c.args.self.now c.widen.new.self c.args.variable c.in-Some.number (sym c.number.ensures ∙ c.in-Some.is) c.widen.ensures.spans c.widen.ensures.numbers c.widen.ensures.places

pub returns-else-number-len : goal.returns-else-number-len
returns-else-number-len c =
    beyond_further c.args.self.now c.args.self.now c.args.variable c.in-Some.number (sym c.number.ensures ∙ c.in-Some.is) (let f = c.if-number-len.false in let l = c.len.ensures in omega arith) refl refl refl

pub returns-in_ok-push-in-None : goal.returns-in_ok-push-in-None
returns-in_ok-push-in-None c =
    let old = c.args.self.now in let v = c.args.variable in
    let new : Spans = record { spans = c.push.new.self; numbers = c.put.new.self; places = old.places } in
    let s : Span = record { variable = v; first = old.places; last = old.places } in
    begun_further old new v s refl refl refl (sym c.number.ensures ∙ c.in-None.is)
    (c.in_ok-put-in-None.ensures.number ∙ ap (λ (k : ℕ). with_number v k (number_in old.numbers)) (let l = c.len-in-None.ensures in let long : c.len-in-None.result ≡ length old.spans.items = omega arith in long)) c.in_ok-push-in-None.ensures.items refl c.in_ok-put-in-None.ensures.few
