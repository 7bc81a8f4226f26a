-- What is known of the types of each two files stays so.
use Rattle.std.proofs.Common.{◌≡◌, ℕ, Bool, true, false, cond, List, [], Option, Some, None, refl, sym, ap, subst, ◌∙◌, slice_get, arith}
use Rattle.std.proofs.lemmas.Bool.{and_parts}
use Rattle.std.proofs.lemmas.Bool.Decides.{nat_tests}
use Rattle.std.specs.HashMap.{HashMap}
use Rattle.std.specs.Map.{lookup}
use Rattle.std.specs.Prelude.{nat_eq}
use Rattle.dae_types_typed.specs.declared.files.FileParts.{FileParts}
use Rattle.dae_types_typed.specs.Linkage.{type_in}
use Rattle.dae_unit.specs.declared.couples.Couple.{Couple}
use Rattle.dae_unit.specs.declared.couples.CoupleVerdict.{CoupleVerdict}
use Rattle.dae_unit.specs.declared.rows.FileRow.{FileRow}
use Rattle.dae_unit.specs.Across.{same_across}
use Rattle.dae_unit.specs.Clashes.{same_types}
use Rattle.dae_unit.specs.Linkage.{entity_of}
use Rattle.dae_unit.specs.Couples.{AreKnown, AreKnownOf, entries_or_none, same_couple, same_two}

pub nothing_known : (f g : FileParts) (known : List (Couple × CoupleVerdict)) → known ≡ [] → AreKnown f g known
nothing_known f g known h c v found = let none : lookup (same_couple c) known ≡ None = ap (lookup (same_couple c)) h in absurd cc

pub none_known : {S : Type 0} → (files : List FileParts) (known : List ((ℕ × ℕ) × HashMap Couple CoupleVerdict S)) → known ≡ [] → AreKnownOf files known
none_known files known h x y f g couples one other found = let none : lookup (same_two (x, y)) known ≡ None = ap (lookup (same_two (x, y))) h in absurd cc

two_same : (a b : ℕ × ℕ) → same_two a b ≡ true → a ≡ b
two_same a b h =
    let parts = and_parts (nat_eq a.0 b.0) (nat_eq a.1 b.1) h in
    let left : a.0 ≡ b.0 = grind (arith, nat_tests, parts.0) in
    let right : a.1 ≡ b.1 = grind (arith, nat_tests, parts.1) in
    λ i. (left i, right i)

module _ {S : Type 0} (files : List FileParts) (two : ℕ × ℕ) (f g : FileParts) (one : slice_get files two.0 ≡ Some f) (other : slice_get files two.1 ≡ Some g) where
  pub known_taken : (known : List ((ℕ × ℕ) × HashMap Couple CoupleVerdict S)) → AreKnownOf files known → (entries : List (Couple × CoupleVerdict)) → entries ≡ entries_or_none (lookup (same_two two) known) → AreKnown f g entries
  known_taken known all entries is = by (lookup (same_two two) known) refl is
    where
      by : (o : Option (HashMap Couple CoupleVerdict S)) → lookup (same_two two) known ≡ o → entries ≡ entries_or_none o → AreKnown f g entries
      by None at e = nothing_known f g entries e
      by (Some couples) at e = subst (λ z. AreKnown f g z) (sym e) (all two.0 two.1 f g couples one other at)

  pub known_put : (old mid new : List ((ℕ × ℕ) × HashMap Couple CoupleVerdict S)) (couples : HashMap Couple CoupleVerdict S) → AreKnown f g couples.entries
      → ((q : ℕ × ℕ) → lookup (same_two q) mid ≡ cond (same_two two q) None (lookup (same_two q) old))
      → ((q : ℕ × ℕ) → lookup (same_two q) new ≡ cond (same_two two q) (Some couples) (lookup (same_two q) mid))
      → AreKnownOf files old → AreKnownOf files new
  known_put old mid new couples these kept put all x y a b found left right at = by (same_two two (x, y)) refl (sym (put (x, y) ∙ ap (cond (same_two two (x, y)) (Some couples)) (kept (x, y))) ∙ at)
    where
      by : (t : Bool) → same_two two (x, y) ≡ t → cond t (Some couples) (cond t None (lookup (same_two (x, y)) old)) ≡ Some found → AreKnown a b found.entries
      by true is e =
          let here = two_same two (x, y) is in
          let first : two.0 ≡ x = ap (λ (t : ℕ × ℕ). t.0) here in
          let second : two.1 ≡ y = ap (λ (t : ℕ × ℕ). t.1) here in
          let f_is : f ≡ a = cc in
          let g_is : g ≡ b = cc in
          let these_are : couples ≡ found = cc in
          subst (λ z. AreKnown z b found.entries) f_is (subst (λ z. AreKnown f z found.entries) g_is (subst (λ (z : HashMap Couple CoupleVerdict S). AreKnown f g z.entries) these_are these))
      by false is e = all x y a b found left right e

pub types_told : (files : List FileParts) (x y : FileRow) (f g : FileParts) → slice_get files x.file ≡ Some f → slice_get files y.file ≡ Some g
    → (m n : ℕ) → m ≡ type_in f (entity_of x) → n ≡ type_in g (entity_of y) → (b : Bool) → b ≡ same_across f g m n
    → b ≡ same_types (slice_get files x.file) (slice_get files y.file) (entity_of x) (entity_of y)
types_told files x y f g one other m n left right b h =
    h
    ∙ ap (λ z. same_across f g z n) left
    ∙ ap (λ z. same_across f g (type_in f (entity_of x)) z) right
    ∙ sym (ap (λ o. same_types o (Some g) (entity_of x) (entity_of y)) one)
    ∙ sym (ap (λ o. same_types (slice_get files x.file) o (entity_of x) (entity_of y)) other)
