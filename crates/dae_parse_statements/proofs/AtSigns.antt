-- Where the machine goes at a sign behind an operand: on with the operation that the sign begins, or to what takes the operand.
use Rattle.std.proofs.Common.{◌≡◌, ℕ, ◌≤◌, ◌<◌, leb, ◌&&◌, Bool, true, false, List, ◌∷◌, Some, refl, sym, subst, arith}
use Rattle.dae_base.specs.declared.Place.{Place}
use Rattle.dae_tree.specs.declared.signs.Sign.{Sign}
use Rattle.dae_tree.specs.Marks.{TokenMark, sign}
use Rattle.dae_tree.specs.Names.{Names}
use Rattle.dae_tree.specs.Grammar.{level}
use Rattle.dae_tree.specs.Trees.{Expression}
use Rattle.dae_parse_grammar.specs.Frames.{Frame, state, gave}
use Rattle.dae_parse_grammar.specs.Machine.{Operation, operation, reach, left_level, goes_on, operate, operated_at}

both : (a b m n : ℕ) → a ≤ m → b ≤ n → (leb a m && leb b n) ≡ true
both a b m n h k = grind arith

first_fails : (a m : ℕ) (b : Bool) → m < a → (leb a m && b) ≡ false
first_fails a m b h = grind arith

second_fails : (b : Bool) (a m : ℕ) → m < a → (b && leb a m) ≡ false
second_fails true a m h = grind arith
second_fails false a m h = refl

pub binds : (o : Operation) (e : Expression) (l m n k : ℕ) → m ≡ reach o → n ≡ left_level o → k ≡ level e → m ≤ l → k ≤ n → goes_on o e l ≡ true
binds o e l m n k reaches left high h i = both (reach o) (level e) l (left_level o) (subst (λ z. z ≤ l) reaches h) (subst (λ z. z ≤ left_level o) high (subst (λ z. k ≤ z) left i))

pub too_loose : (o : Operation) (e : Expression) (l m : ℕ) → m ≡ reach o → l < m → goes_on o e l ≡ false
too_loose o e l m reaches h = first_fails (reach o) l (leb (level e) (left_level o)) (subst (λ z. l < z) reaches h)

pub too_high : (o : Operation) (e : Expression) (l n k : ℕ) → n ≡ left_level o → k ≡ level e → n < k → goes_on o e l ≡ false
too_high o e l n k left high h = second_fails (leb (reach o) l) (level e) (left_level o) (subst (λ z. left_level o < z) high (subst (λ z. z < k) left h))

module _ (g : Sign) (o : Operation) (e : Expression) (p : Place) (l : ℕ) (s : List Frame) (names : Names) (ts us : List TokenMark) (at : ts ≡ sign g p ∷ us) (begins : o ≡ operation g) where
  pub goes : goes_on o e l ≡ true → operated_at e l s names ts ≡ operate o e p l s names us
  goes h = rw (at, sym begins, h) refl

  pub stays : goes_on o e l ≡ false → operated_at e l s names ts ≡ Some (state (gave e) s names ts)
  stays h = rw (at, sym begins, h) refl
