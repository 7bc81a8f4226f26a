-- The marks of an image are inside its codes.
use Rattle.std.proofs.Common.{rules, arith}
use Rattle.dae_debug.proofs.Flags.{image_inside}
use Rattle.dae_debug.proofs.breaks.Breaks.none.Goals as goal

pub invariant_of-result : goal.invariant_of-result
invariant_of-result c =
    let a = c.in_ok-words_a.words_a.ok.0 in
    let e = c.in_ok-words_e.words_e.ok.0 in
    let m = c.in_ok-words_a.ensures.len in
    let n = c.in_ok-words_e.ensures.len in
    let k = c.len.ensures in
    let l = c.len-2.ensures in
    image_inside c.args.image c.in_ok-words_a.words_a.items c.in_ok-words_e.words_e.items (first_of (omega (arith, a, m, k), search rules)) (first_of (omega (arith, e, n, l), search rules))
