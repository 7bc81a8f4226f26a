-- Objects and functions are one exactly where one identity stands for both.
use Rattle.std.proofs.Common.{◌≡◌, ◌≢◌, ◌⊎◌, ℕ, Bool, true, false, ◌&&◌, ◌||◌, not, inl, inr, List, [], ◌∷◌, ◌++◌, if◌then◌else◌, Option, Some, None, refl, sym, ap, subst, ◌∙◌, arith}
use Rattle.std.proofs.lemmas.Bool.{false≢true, and_parts, or_cases, false_from_ne_true, or_from, and_right}
use Rattle.std.proofs.lemmas.Bool.Decides.{nat_tests}
use Rattle.std.proofs.lemmas.Slice.Eq.{bytes_eq-Decides}
use Rattle.std.specs.Prelude.{nat_eq}
use Rattle.std.specs.List.{list_any}
use Rattle.std.specs.Str.{bytes_eq}
use Rattle.dae_base.proofs.Laws.{same_tests}
use Rattle.indexmap.specs.IndexSet.{insert_key}
use Rattle.dae_types_kinds.specs.declared.tables.Entity.{Entity}
use Rattle.dae_types_kinds.specs.declared.tables.Entity.TheVariants as entity
use Rattle.dae_types_typed.specs.declared.files.FileParts.{FileParts}
use Rattle.dae_types_typed.specs.Linkage.{same_name}
use Rattle.dae_types_typed.specs.Sound.{same_entity}
use Rattle.dae_unit.specs.declared.identities.Identity.{Identity}
use Rattle.dae_unit.specs.declared.identities.Identity.TheVariants.{Named, Object, Function}
use Rattle.dae_unit.specs.contracts.identities.IdentityPartialEq.TheImpl.{ghosts}
use Rattle.dae_unit.specs.Identities.{IsIdentity, same_identity}
use Rattle.dae_unit.specs.Linkage.{external_name, is_one}

pub bytes_same : (x y : List ℕ) → bytes_eq x y ≡ true → x ≡ y
bytes_same x y h = grind (arith, bytes_eq-Decides x y)

pub bytes_alike : (x y : List ℕ) → x ≡ y → bytes_eq x y ≡ true
bytes_alike x y h = grind (arith, bytes_eq-Decides x y)

pub entities_same : (x y : Entity) → same_entity x y ≡ true → x ≡ y
entities_same (entity.Object m) (entity.Object n) h = let e : m ≡ n = grind (arith, nat_tests) in ap entity.Object e
entities_same (entity.Function m) (entity.Function n) h = let e : m ≡ n = grind (arith, nat_tests) in ap entity.Function e
entities_same x y h = absurd (false≢true h)

unlike_left : (x y : Entity) → same_entity x x ≡ false → same_entity x y ≡ false
unlike_left (entity.Object n) y h = absurd (grind (arith, nat_tests))
unlike_left (entity.Function n) y h = absurd (grind (arith, nat_tests))
unlike_left x y h = refl

unlike_right : (x y : Entity) → same_entity y y ≡ false → same_entity x y ≡ false
unlike_right x y h = false_from_ne_true (same_entity x y) (λ e. false≢true (sym h ∙ subst (λ z. same_entity z y ≡ true) (entities_same x y e) e))

no_left : (p q : Option (List ℕ)) → p ≡ None → same_name p q ≡ false
no_left p q h = rw h refl

no_right : (p q : Option (List ℕ)) → q ≡ None → same_name p q ≡ false
no_right None q h = refl
no_right (Some x) q h = rw h refl

turned : (a b m n : ℕ) → (nat_eq a b && nat_eq m n) ≡ (nat_eq b a && nat_eq n m)
turned a b m n = rw (flipped a b, flipped m n) refl
  where
    flipped : (x y : ℕ) → nat_eq x y ≡ nat_eq y x
    flipped x y = same_tests (nat_eq x y) (nat_eq y x) (λ e. grind (arith, nat_tests)) (λ e. grind (arith, nat_tests))

abbrev pub is_same_identity : (query row : Option Identity) → Bool
is_same_identity None row = false
is_same_identity (Some i) None = false
is_same_identity (Some i) (Some j) = same_identity j i

module _ (files : List FileParts) (j : ℕ) (x : Entity) (k : ℕ) (y : Entity) where
  -- in one file each thing has one name
  one_name : (nat_eq j k && same_entity x y) ≡ true → external_name files j x ≡ external_name files k y
  one_name h =
      let parts = and_parts (nat_eq j k) (same_entity x y) h in
      let file : j ≡ k = grind (arith, nat_tests, parts.0) in
      ap (λ m. external_name files m x) file ∙ ap (external_name files k) (entities_same x y parts.1)

  other_names : external_name files j x ≢ external_name files k y → (nat_eq j k && same_entity x y) ≡ false
  other_names h = false_from_ne_true (nat_eq j k && same_entity x y) (λ e. h (one_name e))

  by_names : (m n : List ℕ) → external_name files j x ≡ Some m → external_name files k y ≡ Some n →
      (same_name (external_name files j x) (external_name files k y) || (nat_eq j k && same_entity x y)) ≡ bytes_eq n m
  by_names m n p q =
      same_tests (same_name (external_name files j x) (external_name files k y) || (nat_eq j k && same_entity x y)) (bytes_eq n m)
      (λ e. bytes_alike n m (sym (one (or_cases (same_name (external_name files j x) (external_name files k y)) (nat_eq j k && same_entity x y) e))))
      (λ e. rw (p, q, bytes_alike m n (sym (bytes_same n m e))) refl)
    where
      inside : Some m ≡ Some n → m ≡ n
      inside e = cc

      one : (same_name (external_name files j x) (external_name files k y) ≡ true) ⊎ ((nat_eq j k && same_entity x y) ≡ true) → m ≡ n
      one (inl e) = bytes_same m n (subst (λ z. same_name (Some m) z ≡ true) q (subst (λ z. same_name z (external_name files k y) ≡ true) p e))
      one (inr e) = inside (sym p ∙ one_name e ∙ q)

  pub one_by_identity : (a b : Option Identity) → IsIdentity files j x a → IsIdentity files k y b → is_one files j x k y ≡ is_same_identity a b
  unfolding is_one
  one_by_identity None b h g = or_from _ _ (no_left _ _ h.0) (and_right _ _ (unlike_left x y h.1))
  one_by_identity (Some i) None h g = or_from _ _ (no_right _ _ g.0) (and_right _ _ (unlike_right x y g.1))
  one_by_identity (Some (Named m)) (Some (Named n)) h g = by_names m.now n.now h g
  one_by_identity (Some (Named m)) (Some (Object b n)) h g = or_from _ _ (no_right _ _ g.0) (other_names (λ e. absurd cc))
  one_by_identity (Some (Named m)) (Some (Function b n)) h g = or_from _ _ (no_right _ _ g.0) (other_names (λ e. absurd cc))
  one_by_identity (Some (Object a m)) (Some (Named n)) h g = or_from _ _ (no_left _ _ h.0) (other_names (λ e. absurd cc))
  one_by_identity (Some (Function a m)) (Some (Named n)) h g = or_from _ _ (no_left _ _ h.0) (other_names (λ e. absurd cc))
  one_by_identity (Some (Object a m)) (Some (Object b n)) h g = rw (h.0, h.2, g.2, sym h.1, sym g.1) (turned a b m n)
  one_by_identity (Some (Function a m)) (Some (Function b n)) h g = rw (h.0, h.2, g.2, sym h.1, sym g.1) (turned a b m n)
  one_by_identity (Some (Object a m)) (Some (Function b n)) h g = or_from _ _ (no_left _ _ h.0) (and_right (nat_eq j k) (same_entity x y) (rw (h.2, g.2) refl))
  one_by_identity (Some (Function a m)) (Some (Object b n)) h g = or_from _ _ (no_left _ _ h.0) (and_right (nat_eq j k) (same_entity x y) (rw (h.2, g.2) refl))

pub nothing_is_one : (files : List FileParts) (j : ℕ) (x : Entity) (k : ℕ) (y : Entity) → IsIdentity files j x None → is_one files j x k y ≡ false
unfolding is_one
nothing_is_one files j x k y h = or_from _ _ (no_left _ _ h.0) (and_right _ _ (unlike_left x y h.1))

-- ---- the derived `==`

equal_is_same : (a b : Identity) → ghosts.eq a b ≡ same_identity a b
equal_is_same (Named x) (Named y) = refl
equal_is_same (Object j m) (Object k n) = refl
equal_is_same (Function j m) (Function k n) = refl
equal_is_same (Named x) (Object k n) = refl
equal_is_same (Named x) (Function k n) = refl
equal_is_same (Object j m) (Named y) = refl
equal_is_same (Object j m) (Function k n) = refl
equal_is_same (Function j m) (Named y) = refl
equal_is_same (Function j m) (Object k n) = refl

pub equals_are_same : ghosts.eq ≡ same_identity
equals_are_same = λ i a b. equal_is_same a b i

module _ (i : Identity) (old : List Identity) where
  chosen : (b : Bool) → not b ≡ false → (if b then old else old ++ i ∷ []) ≡ old
  chosen true h = refl
  chosen false h = absurd (false≢true (sym h))

  -- keys stay where one is not new
  pub keys_stay : (b : Bool) → b ≡ not (list_any (ghosts.eq i) old) → b ≡ false → insert_key ghosts.eq old i ≡ old
  keys_stay b h fails = chosen (list_any (ghosts.eq i) old) (sym h ∙ fails)
