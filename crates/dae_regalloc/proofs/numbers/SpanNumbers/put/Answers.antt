use Rattle.std.proofs.Common.{ℕ, ◌<◌, length, List, Option, ap, sym, ◌∙◌, subst, arith}
use Rattle.dae_regalloc.specs.Seen.{number_in, with_number}
use Rattle.dae_regalloc.proofs.Numbering.{number_set}
use Rattle.dae_regalloc.proofs.numbers.SpanNumbers.put.Goals as goal

pub returns-clause-number : goal.returns-clause-number
returns-clause-number c =
    let long = c.in_ok-grow.ensures.long in
    let v = c.args.variable in
    number_set c.self.inside.inside.items v c.args.number (subst (λ (l : List (Option ℕ)). v < length l) (sym c.self.view_is) (omega arith))
    ∙ ap (λ (l : List (Option ℕ)). with_number v c.args.number (number_in l)) c.self.view_is ∙ ap (with_number v c.args.number) c.in_ok-grow.ensures.same
