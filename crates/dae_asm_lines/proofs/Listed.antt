-- The table of names holds one instruction of each name.
use Rattle.std.proofs.Common.{◌≡◌, ℕ, Bool, true, false, if◌then◌else◌, List, [], ◌∷◌, map, Option, Some, refl, ap, ◌∙◌}
use Rattle.std.specs.Str.{bytes_eq}
use Rattle.std.proofs.lemmas.Slice.Eq.{bytes_eq-Decides}
use Rattle.dae_encode.specs.declared.Inst.{Inst}
use Rattle.dae_asm_lines.specs.declared.instructions.TheConstants.{NAMED}
use Rattle.dae_asm_lines.specs.Names.{name_of, named, row_of}

abbrev AreNamed : List (List ℕ × Inst) → Type 0
AreNamed [] = Unit {0}
AreNamed (r ∷ rs) = (r.0 ≡ name_of r.1) × AreNamed rs

by_row : (w : List ℕ) (i j : Inst) (name : List ℕ) (other : Option Inst) (t : Bool) → bytes_eq w name ≡ t → name ≡ name_of j → (other ≡ Some i → w ≡ name_of i) → (if t then Some j else other) ≡ Some i → w ≡ name_of i
by_row w i j name other true k h there e = let same : j ≡ i = cc in (bytes_eq-Decides w name).0 k ∙ h ∙ ap name_of same
by_row w i j name other false k h there e = there e

row_is : (rows : List (List ℕ × Inst)) → AreNamed rows → (w : List ℕ) (i : Inst) → row_of rows w ≡ Some i → w ≡ name_of i
row_is [] all w i e = absurd cc
row_is (r ∷ rs) (h, hs) w i e = by_row w i r.1 r.0 (row_of rs w) (bytes_eq w r.0) refl h (row_is rs hs w i) e

all_named : AreNamed (map (λ r. (r.0.now, r.1)) NAMED)
unfolding name_of
all_named = (refl, (refl, (refl, (refl, (refl, (refl, (refl, (refl, (refl, (refl, (refl, (refl, (refl, (refl, (refl, (refl, (refl, (refl, (refl, (refl, (refl, (refl, (refl, (refl, (refl, (refl, (refl, (refl, (refl, (refl, (refl, (refl, (refl, (refl, (refl, (refl, (refl, (refl, (refl, (refl, (refl, (refl, (refl, (refl, (refl, (refl, tt))))))))))))))))))))))))))))))))))))))))))))))

pub named_is : (w : List ℕ) (i : Inst) → named w ≡ Some i → w ≡ name_of i
unfolding named
named_is w i e = row_is (map (λ r. (r.0.now, r.1)) NAMED) all_named w i e
