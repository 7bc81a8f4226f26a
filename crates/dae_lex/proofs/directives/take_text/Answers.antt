use Rattle.std.proofs.Common.{◌+◌, [], map, ap, sym, ◌∙◌, drop, get_or, arith}
use Rattle.std.proofs.lemmas.List.{drop_all}
use Rattle.dae_tree.specs.Replacing.{expand}
use Rattle.dae_tree.specs.Directives.{replaced_text}
use Rattle.dae_lex_scan.specs.Cuts.{cut_of}
use Rattle.dae_lex.specs.Numbers.{definitions_of}
use Rattle.dae_lex.specs.Settling.{state_of, settle}
use Rattle.dae_lex.proofs.Kept.{keeps_on, defined_still}
use Rattle.dae_lex.proofs.LineSteps.{nowhere, text_more}
use Rattle.dae_lex.proofs.Turns.{settle_ok, fails_on, fails_along}
use Rattle.dae_lex.proofs.directives.take_text.Goals as goal

pub take_piece-requires-clause-defined : goal.take_piece-requires-clause-defined
take_piece-requires-clause-defined c =
    let l = c.loop-piece in
    defined_still c.args.numbers.now l.numbers l.invariant.keeps c.args.macros.now c.requires.defined

pub returns-in-Err-clause-settles : goal.returns-in-Err-clause-settles
returns-in-Err-clause-settles c = λ n h.
    let l = c.loop-piece in
    let ms = definitions_of c.args.macros.now in
    let ps = c.args.pieces.now in
    let i = l.piece-index in
    let p = cut_of (get_or ps i nowhere) in
    let rest = replaced_text n ms (map cut_of (drop (i + 1) ps)) in
    fails_along c.in-Err.e _ _ (ap (settle (state_of l.out)) (sym (text_more n ms ps i nowhere (omega arith))) ∙ l.invariant.so_far n h)
    (fails_on c.in-Err.e (state_of l.out) (expand n ms [] p p) rest (c.in-Err.ensures.settles n (omega (arith, l.invariant.left))))

pub loop-piece-preserved : goal.loop-piece-preserved
loop-piece-preserved c =
    let l = c.loop-piece in
    let ms = definitions_of c.args.macros.now in
    let ps = c.args.pieces.now in
    let i = l.piece-index in
    let p = cut_of (get_or ps i nowhere) in
    let t = state_of c.take_piece.new.out in
    record {
      left = omega (arith, c.in-Ok.ensures.left, l.invariant.left);
      so_far = λ n h.
          let rest = replaced_text n ms (map cut_of (drop (i + 1) ps)) in
          sym (settle_ok (state_of l.out) t (expand n ms [] p p) rest (c.in-Ok.ensures.settles n (omega (arith, l.invariant.left))))
          ∙ ap (settle (state_of l.out)) (sym (text_more n ms ps i nowhere (omega arith))) ∙ l.invariant.so_far n h;
      keeps = keeps_on _ _ _ l.invariant.keeps c.in-Ok.ensures.keeps;
      read = c.in-Ok.ensures.read;
    }

pub returns-clause-settles : goal.returns-clause-settles
returns-clause-settles c = λ n h.
    let l = c.loop-piece in
    sym (l.invariant.so_far n h)
    ∙ ap (λ qs. settle (state_of l.out) (replaced_text n (definitions_of c.args.macros.now) (map cut_of qs))) (drop_all l.piece-index c.args.pieces.now (omega arith))
