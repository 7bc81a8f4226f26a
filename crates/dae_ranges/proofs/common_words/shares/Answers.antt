use Rattle.std.proofs.Common.{◌≡◌, ◌+◌, ◌∙◌, true, false, refl, sym, arith}
use Rattle.std.specs.Prelude.{nat_le}
use Rattle.std.proofs.lemmas.Bool.Decides.{nat_tests}
use Rattle.dae_ranges.proofs.Closed.{shares_told}
use Rattle.dae_ranges.proofs.common_words.shares.Goals as goal

pub returns-then-low-turns : goal.returns-then-low-turns
returns-then-low-turns c =
    let n = c.from-in-Some.ensures in
    let l = c.if-low-turns.true in
    let h = c.from-then-low-turns.ensures in let k = c.from-then-low-turns-2.ensures in
    let low = c.below_count-low.result in
    let e : nat_le (low + c.in-Some.turns) c.args.x.count ≡ true = grind (arith, nat_tests) in
    let told = shares_told c.args.x c.args.y c.requires.x c.requires.y c.from.result low c.from-step.result c.from-2.result c.from-3.result c.from-4.result c.from-5.result c.in-Some.turns
    c.from.ensures c.below_count-low.ensures c.from-step.ensures c.from-2.ensures c.from-3.ensures c.from-4.ensures c.from-5.ensures c.in-Some.ensures.some in
    c.has.ensures ∙ rw (h, k) (sym (told ∙ rw e refl))

pub returns-else-low-turns : goal.returns-else-low-turns
returns-else-low-turns c =
    let n = c.from-in-Some.ensures in
    let l = c.if-low-turns.false in
    let low = c.below_count-low.result in
    let e : nat_le (low + c.in-Some.turns) c.args.x.count ≡ false = grind (arith, nat_tests) in
    let e' : nat_le (low + c.in-Some.turns) c.from-in-Some.result ≡ false = grind (arith, nat_tests) in
    let told = shares_told c.args.x c.args.y c.requires.x c.requires.y c.from.result low c.from-step.result c.from-2.result c.from-3.result c.from-4.result c.from-5.result c.in-Some.turns
    c.from.ensures c.below_count-low.ensures c.from-step.ensures c.from-2.ensures c.from-3.ensures c.from-4.ensures c.from-5.ensures c.in-Some.ensures.some in
    e' ∙ sym (told ∙ rw e refl)
