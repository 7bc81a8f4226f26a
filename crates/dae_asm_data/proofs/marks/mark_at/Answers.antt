use Rattle.std.proofs.Common.{refl, sym, ◌∙◌, rules, arith}
use Rattle.std.proofs.lemmas.Int.{ints, to_z-of_z}
use Rattle.dae_asm_data.proofs.Marking.{spelled_says, spells_none, stands, stands_not}
use Rattle.dae_asm_data.proofs.marks.mark_at.Goals as goal

pub returns-in_default-mark_of_numbers : goal.returns-in_default-mark_of_numbers
returns-in_default-mark_of_numbers c = λ row_before last.
    let side = c.in-Some.side in
    let w = c.in-Some.word in
    let f = c.in-Some.file in
    let l = c.in-Some.line in (
      (c.args.row.now.line, side, w, f, l),
      (
        record { is = c.in-Some.ensures.some; line = refl },
        spells_none c.args.counts c.args.before row_before c.args.row.now.line side w f l _ _ _ c.in_default-mark_of_numbers.ensures.none (first_of (cc, search (rules, to_z-of_z), grind (arith, ints, to_z-of_z))) (first_of (cc, search (rules, to_z-of_z), grind (arith, ints, to_z-of_z))) (first_of (cc, search (rules, to_z-of_z), grind (arith, ints, to_z-of_z))) (omega arith) (omega arith) (omega arith),
      ),
    )

pub returns-then-may_stand : goal.returns-then-may_stand
returns-then-may_stand c = λ row_before last.
    let side = c.in-Some.side in
    let w = c.in-Some.word in
    let f = c.in-Some.file in
    let l = c.in-Some.line in
    let m = c.in-Some-mark_of_numbers.mark in
    let s = c.in-Some-mark_of_numbers.ensures.some in (
      (c.args.row.now.line, side, w, f, l),
      (
        record { is = c.in-Some.ensures.some; line = refl },
        stands c.args.counts c.args.before row_before c.args.last (c.args.row.now.line, side, w, f, l) m last
            (spelled_says c.args.row.now.line side w f l _ _ _ m s (first_of (cc, search (rules, to_z-of_z), grind (arith, ints, to_z-of_z))) (first_of (cc, search (rules, to_z-of_z), grind (arith, ints, to_z-of_z))) (first_of (cc, search (rules, to_z-of_z), grind (arith, ints, to_z-of_z)))) s.line.1 (sym c.may_stand.ensures ∙ c.if-may_stand.true),
      ),
    )

pub returns-else-may_stand : goal.returns-else-may_stand
returns-else-may_stand c = λ row_before last.
    let side = c.in-Some.side in
    let w = c.in-Some.word in
    let f = c.in-Some.file in
    let l = c.in-Some.line in
    let m = c.in-Some-mark_of_numbers.mark in
    let s = c.in-Some-mark_of_numbers.ensures.some in (
      (c.args.row.now.line, side, w, f, l),
      (
        record { is = c.in-Some.ensures.some; line = refl },
        stands_not c.args.counts c.args.before row_before c.args.last (c.args.row.now.line, side, w, f, l) m last
            (spelled_says c.args.row.now.line side w f l _ _ _ m s (first_of (cc, search (rules, to_z-of_z), grind (arith, ints, to_z-of_z))) (first_of (cc, search (rules, to_z-of_z), grind (arith, ints, to_z-of_z))) (first_of (cc, search (rules, to_z-of_z), grind (arith, ints, to_z-of_z)))) (sym c.may_stand.ensures ∙ c.if-may_stand.false),
      ),
    )
