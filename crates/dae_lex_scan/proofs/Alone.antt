-- A byte that begins one sign alone is that sign, whatever stands behind it, and others are where a blank does.
use Rattle.std.proofs.Common.{◌≡◌, ℕ, ◌≤◌, Bool, true, false, cond, nat_eq, List, [], ◌∷◌, length, map, slice_index, Option, Some, None, IfSome, refl, ap, sym, subst, ◌∙◌, arith, eqb-true}
use Rattle.dae_tree.specs.Tables.{first_row, sign_of, IsLongestRow}
use Rattle.dae_tree.specs.declared.pieces.PieceKind.{PieceKind}
use Rattle.dae_tree.specs.declared.pieces.PieceKind.TheVariants.{Mark}
use Rattle.dae_tree.specs.declared.signs.Sign.{Sign}
use Rattle.dae_tree.specs.declared.signs.TheConstants.{SIGNS}
use Rattle.dae_lex_scan.specs.Lone.{lone_sign, lone_signs, sign_among, spaced_sign, spaced_signs}
use Rattle.dae_lex_scan.proofs.Longest.{longest}

abbrev one : Sign → Option (ℕ × PieceKind)
one g = Some (1, Mark g)

-- each of these bytes is its sign
abbrev AreAlone : List (ℕ × Sign) → Type 0
AreAlone [] = Unit {0}
AreAlone (r ∷ rows) = ((rest : List ℕ) → sign_of (r.0 ∷ rest) ≡ one r.1) × AreAlone rows

lone_are : AreAlone lone_signs
unfolding sign_of
lone_are =
    (λ rest. refl, (λ rest. refl, (λ rest. refl, (λ rest. refl, (λ rest. refl, (λ rest. refl, (λ rest. refl, (λ rest. refl, (λ rest. refl, (λ rest. refl, (λ rest. refl, tt)))))))))))

by_row : (rows : List (ℕ × Sign)) → AreAlone rows → (b : ℕ) (rest : List ℕ) (g : Sign) → sign_among rows b ≡ Some g → sign_of (b ∷ rest) ≡ one g
by_row [] alone b rest g e = (let none : None ≡ Some g = e in absurd cc)
by_row (r ∷ rows) alone b rest g e = by (nat_eq b r.0) (by_row rows alone.1 b rest g) refl e
  where
    by : (t : Bool) → (sign_among rows b ≡ Some g → sign_of (b ∷ rest) ≡ one g) → nat_eq b r.0 ≡ t → cond t (Some r.1) (sign_among rows b) ≡ Some g → sign_of (b ∷ rest) ≡ one g
    by true behind p found =
        let some : Some r.1 ≡ Some g = found in
        let same : r.1 ≡ g = cc in
        ap (λ (k : ℕ). sign_of (k ∷ rest)) (eqb-true b r.0 p) ∙ alone.0 rest ∙ ap one same
    by false behind p later = behind later

-- at the front of some bytes
pub record IsAlone (bytes : List ℕ) (g : Sign) : Type 0 where
  pub value : one g ≡ sign_of bytes
  pub within : 1 ≤ length bytes
  pub longest : IsLongestRow (map (λ r. (r.0.now, r.1)) SIGNS) bytes 1

pub alone_at : (bytes : List ℕ) (g : Sign) → Some g ≡ lone_sign (slice_index bytes 0) → IsAlone bytes g
unfolding sign_of
alone_at [] g e = (let some : Some g ≡ None = e in absurd cc)
alone_at (b ∷ rest) g e =
    let is : sign_of (b ∷ rest) ≡ one g = by_row lone_signs lone_are b rest g (sym e) in
    let rows = map (λ r. (r.0.now, r.1)) SIGNS in
    let first : first_row rows (b ∷ rest) ≡ one g = is in
    record {
      value = sym is;
      within = omega arith;
      longest = subst (λ (o : Option (ℕ × PieceKind)). IfSome o (λ f. IsLongestRow rows (b ∷ rest) f.0)) first (longest 3 rows (b ∷ rest) refl);
    }

-- each of these bytes is its sign before a blank
abbrev AreSpaced : List (ℕ × Sign) → Type 0
AreSpaced [] = Unit {0}
AreSpaced (r ∷ rows) = ((rest : List ℕ) → sign_of (r.0 ∷ 32 ∷ rest) ≡ one r.1) × AreSpaced rows

spaced_are : AreSpaced spaced_signs
unfolding sign_of
spaced_are =
    (λ rest. refl, (λ rest. refl, (λ rest. refl, (λ rest. refl, (λ rest. refl, (λ rest. refl, (λ rest. refl, (λ rest. refl, (λ rest. refl, (λ rest. refl, (λ rest. refl, tt)))))))))))

by_spaced : (rows : List (ℕ × Sign)) → AreSpaced rows → (b : ℕ) (rest : List ℕ) (g : Sign) → sign_among rows b ≡ Some g → sign_of (b ∷ 32 ∷ rest) ≡ one g
by_spaced [] spaced b rest g e = (let none : None ≡ Some g = e in absurd cc)
by_spaced (r ∷ rows) spaced b rest g e = by (nat_eq b r.0) (by_spaced rows spaced.1 b rest g) refl e
  where
    by : (t : Bool) → (sign_among rows b ≡ Some g → sign_of (b ∷ 32 ∷ rest) ≡ one g) → nat_eq b r.0 ≡ t → cond t (Some r.1) (sign_among rows b) ≡ Some g → sign_of (b ∷ 32 ∷ rest) ≡ one g
    by true behind p found =
        let some : Some r.1 ≡ Some g = found in
        let same : r.1 ≡ g = cc in
        ap (λ (k : ℕ). sign_of (k ∷ 32 ∷ rest)) (eqb-true b r.0 p) ∙ spaced.0 rest ∙ ap one same
    by false behind p later = behind later

pub spaced_at : (bytes : List ℕ) (g : Sign) → slice_index bytes 1 ≡ 32 → Some g ≡ spaced_sign (slice_index bytes 0) → IsAlone bytes g
unfolding sign_of
spaced_at [] g blank e = (let some : Some g ≡ None = e in absurd cc)
spaced_at (b ∷ []) g blank e = (let none : 0 ≡ 32 = blank in absurd (omega arith))
spaced_at (b ∷ k ∷ rest) g blank e =
    let spaced : sign_of (b ∷ 32 ∷ rest) ≡ one g = by_spaced spaced_signs spaced_are b rest g (sym e) in
    let is : sign_of (b ∷ k ∷ rest) ≡ one g = ap (λ (n : ℕ). sign_of (b ∷ n ∷ rest)) blank ∙ spaced in
    let rows = map (λ r. (r.0.now, r.1)) SIGNS in
    let first : first_row rows (b ∷ k ∷ rest) ≡ one g = is in
    record {
      value = sym is;
      within = omega arith;
      longest = subst (λ (o : Option (ℕ × PieceKind)). IfSome o (λ f. IsLongestRow rows (b ∷ k ∷ rest) f.0)) first (longest 3 rows (b ∷ k ∷ rest) refl);
    }
