use Rattle.std.proofs.Common.{◌+◌, ◌++◌, [], ◌∷◌, ap, sym, ◌∙◌, append_assoc, arith, drop, get_or, map}
use Rattle.dae_tree.specs.Directives.{marks_of}
use Rattle.dae_lex_scan.specs.Cuts.{cut_of}
use Rattle.dae_lex.specs.Numbers.{cuts_of}
use Rattle.dae_lex.proofs.Kept.{keeps_on}
use Rattle.dae_lex.proofs.LineSteps.{nowhere, mark_more}
use Rattle.dae_lex.proofs.directives.marks.Goals as goal
use Rattle.dae_lex.proofs.directives.marks.Goals.{then-not-blank_kind+in_ok-push_numbered, else-not-blank_kind}

pub loop-piece-preserved : goal.loop-piece-preserved
loop-piece-preserved c =
    let l = c.loop-piece in
    let ps = c.args.pieces.now in
    let rest = marks_of (map cut_of (drop (l.piece-index + 1) ps)) in
    elim c.if-not-blank_kind.branch [
      | then-not-blank_kind+in_ok-push_numbered w ↦ rw (w.numbers-is, w.all-is) (record {
        so_far = ap (λ qs. qs ++ rest) w.in_ok-push_numbered.ensures.pieces
            ∙ append_assoc (cuts_of l.all.items) (cut_of (get_or ps l.piece-index nowhere) ∷ []) rest
            ∙ ap (λ qs. cuts_of l.all.items ++ qs) (sym (mark_more ps l.piece-index nowhere _ (omega arith) (sym c.blank_kind.ensures ∙ w.if-not-blank_kind.true)))
            ∙ l.invariant.so_far;
        numbered = w.in_ok-push_numbered.ensures.numbered;
        keeps = keeps_on _ _ _ l.invariant.keeps w.in_ok-push_numbered.ensures.keeps;
      })
      | else-not-blank_kind w ↦ rw (w.numbers-is, w.all-is) (record {
        so_far = ap (λ qs. cuts_of l.all.items ++ qs) (sym (mark_more ps l.piece-index nowhere _ (omega arith) (sym c.blank_kind.ensures ∙ w.if-not-blank_kind.false)))
            ∙ l.invariant.so_far;
        numbered = l.invariant.numbered;
        keeps = l.invariant.keeps;
      })
    ]
