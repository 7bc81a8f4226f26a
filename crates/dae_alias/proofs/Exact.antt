-- The relation of two symbolic addresses is exact.
use Rattle.std.proofs.Common.{◌≡◌, ◌⊎◌, ℕ, ◌+◌, ◌%◌, ◌^◌, ◌<◌, ◌≤◌, Bool, true, false, ◌&&◌, ◌||◌, nat_eq, if◌then◌else◌, inl, inr, refl, ap, sym, ◌∙◌, subst, arith}
use Rattle.std.proofs.lemmas.Bool.{eqb-true, and_parts, or_left, or_right}
use Rattle.std.specs.Prelude.{nat_lt}
use Rattle.dae_base.specs.Words.{minus, size}
use Rattle.dae_base.specs.declared.Width.{Width}
use Rattle.dae_base.specs.declared.Width.TheVariants.{B1, B2, B4}
use Rattle.dae_alias.specs.declared.addresses.Base.{Base}
use Rattle.dae_alias.specs.declared.addresses.SymAddr.{SymAddr}
use Rattle.dae_alias.specs.declared.addresses.Relation.{Relation}
use Rattle.dae_alias.specs.declared.addresses.Relation.TheVariants.{Same, Apart, Unknown}
use Rattle.dae_alias.specs.Addresses.{same_base, same_width, ranges_meet, relation, ShareByte, IsExactly, RelationIsExact}
use Rattle.dae_alias.proofs.Facts.{same_base_is, same_place_is, eq_refl}
use Rattle.dae_alias.proofs.Renaming.{same_base_refl}
use Rattle.dae_alias.proofs.Words.{size_some}

same_width_is : (x y : Width) → same_width x y ≡ true → x ≡ y
same_width_is x y h = grind (arith, h)

same_width_refl : (x : Width) → same_width x x ≡ true
same_width_refl B1 = refl
same_width_refl B2 = refl
same_width_refl B4 = refl

first_meets : (x y s : ℕ) → x < 2 ^ 32 → y < 2 ^ 32 → minus y x < s → (x + minus y x) % 2 ^ 32 ≡ (y + 0) % 2 ^ 32
first_meets x y s hx hy h = omega (arith, hx, hy, h)

or_cases : (b c : Bool) → (b || c) ≡ true → (b ≡ true) ⊎ (c ≡ true)
or_cases true c h = inl refl
or_cases false c h = inr h

lt_is : (a b : ℕ) → nat_lt a b ≡ true → a < b
lt_is a b h = grind (arith, h)

meets_share : (x y : ℕ) (wx wy : Width) → x < 2 ^ 32 → y < 2 ^ 32 → ranges_meet x wx y wy ≡ true → ShareByte x wx y wy
meets_share x y wx wy hx hy h = by (or_cases (nat_lt (minus y x) (size wx)) (nat_lt (minus x y) (size wy)) h) where
  by : (nat_lt (minus y x) (size wx) ≡ true) ⊎ (nat_lt (minus x y) (size wy) ≡ true) → ShareByte x wx y wy
  by (inl e) =
      let l = lt_is (minus y x) (size wx) e in
      record { first = minus y x; second = 0; among = l; among' = (let s = size_some wy in omega (arith, s)); same = first_meets x y (size wx) hx hy l }
  by (inr e) =
      let l = lt_is (minus x y) (size wy) e in
      record { first = 0; second = minus x y; among = (let s = size_some wx in omega (arith, s)); among' = l; same = sym (first_meets y x (size wy) hy hx l) }

shares_near : (x y i j s t : ℕ) → x < 2 ^ 32 → y < 2 ^ 32 → i < s → j < t → s ≤ 4 → t ≤ 4 → (x + i) % 2 ^ 32 ≡ (y + j) % 2 ^ 32 → (minus y x < s) ⊎ (minus x y < t)
shares_near x y i j s t hx hy hi hj hs ht h = by (nat_lt i j) refl where
  by : (b : Bool) → nat_lt i j ≡ b → (minus y x < s) ⊎ (minus x y < t)
  by true e = inr (let l = lt_is i j e in omega (arith, l, hx, hy, hi, hj, hs, ht, h))
  by false e = inl (let l : j ≤ i = grind (arith, e) in omega (arith, l, hx, hy, hi, hj, hs, ht, h))

size_most : (w : Width) → size w ≤ 4
size_most B1 = omega arith
size_most B2 = omega arith
size_most B4 = omega arith

is_lt : (a b : ℕ) → a < b → nat_lt a b ≡ true
is_lt a b h = grind (arith, h)

share_meets : (x y : ℕ) (wx wy : Width) → x < 2 ^ 32 → y < 2 ^ 32 → ShareByte x wx y wy → ranges_meet x wx y wy ≡ true
share_meets x y wx wy hx hy s = by (shares_near x y s.first s.second (size wx) (size wy) hx hy s.among s.among' (size_most wx) (size_most wy) s.same) where
  by : (minus y x < size wx) ⊎ (minus x y < size wy) → ranges_meet x wx y wy ≡ true
  by (inl l) = or_left _ _ (is_lt (minus y x) (size wx) l)
  by (inr l) = or_right _ _ (is_lt (minus x y) (size wy) l)

-- ---- by the flags

picked : Bool → Bool → Bool → Relation
picked b s m = if b then (if s then Same else (if m then Unknown else Apart)) else Unknown

picks_same : (b s m : Bool) → picked b s m ≡ Same → (b ≡ true) × (s ≡ true)
unfolding picked
picks_same true true m h = (refl, refl)
picks_same true false true h = cc
picks_same true false false h = cc
picks_same false s m h = cc

picks_apart : (b s m : Bool) → picked b s m ≡ Apart → (b ≡ true) × (s ≡ false) × (m ≡ false)
unfolding picked
picks_apart true true m h = cc
picks_apart true false true h = cc
picks_apart true false false h = (refl, refl, refl)
picks_apart false s m h = cc

apart_picked : (b s m : Bool) → (b && (if s then false else (if m then false else true))) ≡ true → picked b s m ≡ Apart
unfolding picked
apart_picked true true m h = cc
apart_picked true false true h = cc
apart_picked true false false h = refl
apart_picked false s m h = cc

is_apart : (b s m : Bool) → b ≡ true → s ≡ false → m ≡ false → (b && (if s then false else (if m then false else true))) ≡ true
is_apart b s m hb hs hm = rw (hb, hs, hm) refl

module _ (x y : SymAddr) (wx wy : Width) (hx : x.offset < 2 ^ 32) (hy : y.offset < 2 ^ 32) where
  abbrev b : Bool
  b = same_base x.base y.base

  abbrev s : Bool
  s = nat_eq x.offset y.offset && same_width wx wy

  abbrev m : Bool
  m = ranges_meet x.offset wx y.offset wy

  is_picked : relation x wx y wy ≡ picked b s m
  unfolding picked
  is_picked = refl

  -- what is the same has a byte in common
  no_share : (ShareByte x.offset wx y.offset wy → ⊥) → (s ≡ false) × (m ≡ false)
  no_share none = (by_s s refl, by_m m refl) where
    by_m : (c : Bool) → m ≡ c → c ≡ false
    by_m true e = absurd (none (meets_share x.offset y.offset wx wy hx hy e))
    by_m false e = refl

    by_s : (c : Bool) → s ≡ c → c ≡ false
    by_s true e =
        let p = and_parts (nat_eq x.offset y.offset) (same_width wx wy) e in
        absurd (none (record { first = 0; second = 0; among = (let k = size_some wx in omega (arith, k)); among' = (let k = size_some wy in omega (arith, k)); same = ap (λ (a : ℕ). (a + 0) % 2 ^ 32) (eqb-true x.offset y.offset p.0) }))
    by_s false e = refl

  exact : IsExactly x wx y wy
  exact = record {
    same = (
      λ h. (let p = picks_same b s m (sym is_picked ∙ h) in
          let q = and_parts (nat_eq x.offset y.offset) (same_width wx wy) p.1 in
          (same_place_is x y (both b (nat_eq x.offset y.offset) p.0 q.0), same_width_is wx wy q.1)),
      λ h. is_same h.0 h.1,
    );
    apart = (
      λ h. (let p = picks_apart b s m (sym is_picked ∙ h) in
          (same_base_is x.base y.base p.0, λ share. (let k = share_meets x.offset y.offset wx wy hx hy share in absurd (let e : true ≡ false = sym k ∙ p.2 in cc)))),
      λ h. (let n = no_share h.1 in is_picked ∙ apart_picked b s m (is_apart b s m (same_is h.0) n.0 n.1)),
    );
    apart' = (λ h. is_picked ∙ apart_picked b s m h, λ h. (let p = picks_apart b s m (sym is_picked ∙ h) in is_apart b s m p.0 p.1 p.2));
  } where
    both : (c d : Bool) → c ≡ true → d ≡ true → (c && d) ≡ true
    both true d h k = k
    both false d h k = cc

    same_is : x.base ≡ y.base → b ≡ true
    same_is e = subst (λ (c : Base). same_base x.base c ≡ true) e (same_base_refl x.base)

    is_same : x ≡ y → wx ≡ wy → relation x wx y wy ≡ Same
    is_same e w = subst (λ (z : SymAddr). relation x wx z wy ≡ Same) e (subst (λ (v : Width). relation x wx x v ≡ Same) w (rw (same_base_refl x.base, eq_refl x.offset, same_width_refl wx) refl))

pub relation_is_exact : RelationIsExact
relation_is_exact x y wx wy hx hy = exact x y wx wy hx hy
