-- The tokens behind the next.
use Rattle.std.proofs.Common.{◌≡◌, ℕ, zero, suc, List, [], ◌∷◌, drop, refl}
use Rattle.dae_tree.specs.declared.tokens.Token.{Token}
use Rattle.dae_tree.specs.Marks.{marks}
use Rattle.dae_parse_grammar.specs.Stuck.{behind}

pub behind_next : (i : ℕ) (xs : List Token) → marks (drop (suc i) xs) ≡ behind (marks (drop i xs))
behind_next zero [] = refl
behind_next zero (x ∷ xs) = refl
behind_next (suc i) [] = refl
behind_next (suc i) (x ∷ xs) = behind_next i xs
