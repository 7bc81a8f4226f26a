-- A token that is no literal, put behind a literal that is over with it.
use Rattle.std.proofs.Common.{◌≡◌, ℕ, List, [], ◌∷◌, refl, ap, sym, ◌∙◌, append_assoc, Option, Some, None}
use Rattle.dae_tree.specs.declared.tokens.Token.{Token}
use Rattle.dae_tree.specs.Replacing.{TokenRead}
use Rattle.dae_tree.specs.Tokens.{literal_of, before, before_by, token_of, numbered, names_with, names_after, literals_with, literals_after}
use Rattle.dae_lex.specs.declared.finish.OpenLiteral.{OpenLiteral}
use Rattle.dae_lex.specs.Finishing.{Built, read_literal, waiting, finished, added, closed}

alone : (t : TokenRead) (rest : List TokenRead) → literal_of t.meaning ≡ None → before t rest ≡ t ∷ rest
alone t [] h = refl
alone t (u ∷ us) h = ap (λ o. before_by o (literal_of u.meaning) t u us) h

finished_more : (b : Built) (t : TokenRead) (rest : List TokenRead) → finished (added b t) rest ≡ finished b (t ∷ rest)
finished_more b t rest =
    let all = λ (ts : List Token). built ts (names_after (names_with b.names t.meaning) rest) (literals_after (literals_with b.literals t.meaning) rest) in
    ap all (append_assoc b.tokens (token_of b.names b.literals t ∷ []) (numbered (names_with b.names t.meaning) (literals_with b.literals t.meaning) rest))
  where
    built : List Token → List (List ℕ) → List (List ℕ) → Built
    built ts ns ls = record { tokens = ts; names = ns; literals = ls }

pub finished_closed : (b : Built) (held : Option OpenLiteral) (t : TokenRead) (rest : List TokenRead) → literal_of t.meaning ≡ None
    → finished (added (closed b held) t) rest ≡ finished b (waiting held (before t rest))
finished_closed b None t rest h = finished_more b t rest ∙ ap (finished b) (sym (alone t rest h))
finished_closed b (Some l) t rest h =
    finished_more (added b (read_literal l)) t rest ∙ finished_more b (read_literal l) (t ∷ rest)
    ∙ ap (λ o. finished b (before_by (Some l.bytes.items) o (read_literal l) t rest)) (sym h) ∙ ap (λ ts. finished b (before (read_literal l) ts)) (sym (alone t rest h))
