use Rattle.std.proofs.Common.{◌≡◌, suc, List, [], ◌∷◌, length, refl, ap, sym, ◌∙◌, false}
use Rattle.std.proofs.lemmas.Bool.{and_right}
use Rattle.std.proofs.lemmas.List.{length-map}
use Rattle.std.specs.Str.{bytes_eq}
use Rattle.dae_tree.specs.Pieces.{Cut}
use Rattle.dae_lex_scan.specs.Cuts.{cut_of}
use Rattle.dae_lex.specs.Numbers.{cuts_of}
use Rattle.dae_tree.specs.Directives.{same_spellings}
use Rattle.dae_lex.proofs.directives.same_body.Goals as goal

differ : (xs ys : List Cut) → (length xs ≡ length ys → ⊥) → same_spellings xs ys ≡ false
differ [] [] h = absurd (h refl)
differ [] (y ∷ ys) h = refl
differ (x ∷ xs) [] h = refl
differ (x ∷ xs) (y ∷ ys) h = and_right (bytes_eq x.spelling y.spelling) (same_spellings xs ys) (differ xs ys (λ e. h (ap suc e)))

pub returns-then-a-b : goal.returns-then-a-b
returns-then-a-b c =
    sym (differ (cuts_of c.args.a.now) (cuts_of c.args.b.now)
    (λ e. c.if-a-b.true (sym (length-map c.args.a.now (λ p. cut_of p.piece)) ∙ e ∙ length-map c.args.b.now (λ p. cut_of p.piece))))
