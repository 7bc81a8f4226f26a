use Rattle.std.proofs.Common.{List, ap, sym, subst, ◌∙◌, option_map, IfSome, All, nat_eq}
use Rattle.std.specs.Borrow.{Bor}
use Rattle.std.specs.Map.{lookup}
use Rattle.dae_tree.specs.Replacing.{is_word_kind}
use Rattle.dae_lex.specs.declared.macros.Macro.{Macro}
use Rattle.dae_lex.specs.declared.numbers.NumberedPiece.{NumberedPiece}
use Rattle.dae_lex_scan.specs.Cuts.{cut_of}
use Rattle.dae_lex.specs.Numbers.{IsNumbered, IsNumberedBy, cuts_of, definitions_of}
use Rattle.dae_lex.specs.Pending.{frames_of, names_of}
use Rattle.dae_lex.proofs.Found.{mapped_twice, some_from_mapped, open_word, defined_word, defined_body, stays, goes}
use Rattle.dae_lex.proofs.replace.replacement_of.Goals as goal

pub returns-then-holds-clause-body : goal.returns-then-holds-clause-body
returns-then-holds-clause-body c = λ w d o h.
    let p = c.args.next in
    let is = subst (λ k. IsNumberedBy k w p.number p.piece.spelling.now) c.in-Word.is h in
    sym (stays (definitions_of c.args.macros.now) (names_of (frames_of c.args.stack.now)) (cut_of p.piece) (ap is_word_kind c.in-Word.is)
    (open_word w p.number c.args.stack.now p.piece.spelling.now is o ∙ sym c.holds.ensures ∙ c.if-holds.true))

pub returns-else-holds-clause-body : goal.returns-else-holds-clause-body
returns-else-holds-clause-body c = λ w d o h.
    let p = c.args.next in
    let m = c.args.macros.now in
    let is = subst (λ k. IsNumberedBy k w p.number p.piece.spelling.now) c.in-Word.is h in
    mapped_twice (λ (b : Bor (List NumberedPiece)). b.now) cuts_of c.find.result ∙ ap (option_map cuts_of) c.find.ensures.body
    ∙ sym (mapped_twice (λ (x : Macro). x.body.items) cuts_of (lookup (nat_eq p.number) m.bodies.entries))
    ∙ defined_word w p.number m p.piece.spelling.now is d
    ∙ sym (goes (definitions_of m) (names_of (frames_of c.args.stack.now)) (cut_of p.piece) (ap is_word_kind c.in-Word.is)
    (open_word w p.number c.args.stack.now p.piece.spelling.now is o ∙ sym c.holds.ensures ∙ c.if-holds.false))

pub returns-else-holds-clause-numbered : goal.returns-else-holds-clause-numbered
returns-else-holds-clause-numbered c = λ w d.
    some_from_mapped (λ (b : Bor (List NumberedPiece)). b.now) (All (IsNumbered w)) c.find.result
    (subst (λ o. IfSome o (All (IsNumbered w))) (sym c.find.ensures.body) (defined_body w c.args.next.number c.args.macros.now d))
