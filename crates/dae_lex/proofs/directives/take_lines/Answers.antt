use Rattle.std.proofs.Common.{◌≡◌, ◌+◌, ◌-◌, ◌||◌, map, ap, sym, ◌∙◌, take, drop, arith}
use Rattle.std.proofs.lemmas.List.{take_rest}
use Rattle.dae_tree.specs.Directives.{lines_of, line_of, line_items, macros_after, replaced_lines, includes}
use Rattle.dae_tree.specs.declared.headers.Header.TheVariants.{Stdio, Stdlib}
use Rattle.dae_tree.specs.declared.tokens.Includes.{Includes}
use Rattle.dae_lex_scan.specs.Cuts.{cut_of}
use Rattle.dae_lex.specs.Numbers.{definitions_of}
use Rattle.dae_lex.specs.Settling.{state_of, settle}
use Rattle.dae_lex.proofs.LineSteps.{line_more, seen_more}
use Rattle.dae_lex.proofs.Turns.{settle_ok, fails_on, fails_along}
use Rattle.dae_lex.proofs.directives.take_lines.Goals as goal

pub returns-in-Err-clause-settles : goal.returns-in-Err-clause-settles
returns-in-Err-clause-settles c =
    let l = c.loop-at in
    let ps = c.args.pieces.now in
    let at = l.at in
    let n = c.line_length-n.result in
    let room = c.args.out.now.room.replacements in
    let ms = definitions_of l.macros in
    let line = map cut_of (take n (drop at ps)) in
    let ahead = rw (take_rest ps at) at c.line_length-n.ensures.value in
    let more = line_more ps at n (omega arith) ahead in
    let cut : (at + n) - at ≡ n = omega arith in
    let failed = rw cut at (c.in-Err.ensures.settles room (omega (arith, l.invariant.left))) in
    fails_along c.in-Err.e _ _ (ap (λ ls. settle (state_of l.out) (replaced_lines room ms ls)) (sym more) ∙ l.invariant.so_far)
    (fails_on c.in-Err.e (state_of l.out) (line_items room ms (line_of line)) (replaced_lines room (macros_after ms (line_of line)) (lines_of (map cut_of (drop (at + (n + 1)) ps)))) failed)

pub loop-at-preserved : goal.loop-at-preserved
loop-at-preserved c =
    let l = c.loop-at in
    let ps = c.args.pieces.now in
    let at = l.at in
    let n = c.line_length-n.result in
    let room = c.args.out.now.room.replacements in
    let ms = definitions_of l.macros in
    let line = map cut_of (take n (drop at ps)) in
    let ahead = rw (take_rest ps at) at c.line_length-n.ensures.value in
    let more = line_more ps at n (omega arith) ahead in
    let cut : (at + n) - at ≡ n = omega arith in
    let settled = rw cut at (c.in-Ok.ensures.settles room (omega (arith, l.invariant.left))) in
    let defined = rw cut at c.in-Ok.ensures.macros in
    let found = rw cut at c.in-Ok.ensures.header in
    let t = state_of c.take_line.new.out in
    let rest = lines_of (map cut_of (drop (at + (n + 1)) ps)) in
    record {
      left = omega (arith, c.in-Ok.ensures.left, l.invariant.left);
      so_far = ap (λ m. settle t (replaced_lines room m rest)) defined
          ∙ sym (settle_ok (state_of l.out) t (line_items room ms (line_of line)) (replaced_lines room (macros_after ms (line_of line)) rest) settled)
          ∙ ap (λ ls. settle (state_of l.out) (replaced_lines room ms ls)) (sym more) ∙ l.invariant.so_far;
      defined = c.in-Ok.ensures.defined;
      read = c.in-Ok.ensures.read;
      stdio = ap (λ (s : Includes). s.stdio || includes Stdio rest) c.with_header-seen.ensures
          ∙ seen_more l.seen.stdio Stdio c.in-Ok.found line rest found
          ∙ ap (λ ls. l.seen.stdio || includes Stdio ls) (sym more) ∙ l.invariant.stdio;
      stdlib = ap (λ (s : Includes). s.stdlib || includes Stdlib rest) c.with_header-seen.ensures
          ∙ seen_more l.seen.stdlib Stdlib c.in-Ok.found line rest found
          ∙ ap (λ ls. l.seen.stdlib || includes Stdlib ls) (sym more) ∙ l.invariant.stdlib;
    }
