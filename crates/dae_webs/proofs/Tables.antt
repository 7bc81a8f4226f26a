-- What a table of webs holds behind a change.
use Rattle.std.proofs.Common.{◌≡◌, ◌⊎◌, ℕ, zero, suc, ◌+◌, ◌<◌, Bool, true, false, nat_eq, if◌then◌else◌, [], ◌∷◌, ◌++◌, set, Option, Some, None, inl, inr, refl, ap, sym, ◌∙◌, arith}
use Rattle.std.proofs.lemmas.Option.{same_Some}
use Rattle.dae_base.proofs.Laws.{zero_suc, suc_zero, suc_suc}
use Rattle.dae_webs.specs.Current.{Current, web_of, or_own, written_as, own_webs}

-- what is left of an entry that may be taken away
abbrev pub hide : Bool → Option ℕ → Option ℕ
hide b x = if b then None else x

hide_none : (b : Bool) → None ≡ hide b None
hide_none true = refl
hide_none false = refl

pub set_none : (m : Current) (v w : ℕ) → web_of (set m v None) w ≡ hide (nat_eq w v) (web_of m w)
set_none [] v w = hide_none (nat_eq w v)
set_none (x ∷ m) zero zero = refl
set_none (x ∷ m) zero (suc w) = rw (suc_zero w) refl
set_none (x ∷ m) (suc v) zero = rw (zero_suc v) refl
set_none (x ∷ m) (suc v) (suc w) = rw (suc_suc w v) (set_none m v w)

pub set_some : (m : Current) (v u w x : ℕ) → web_of (set m v (Some u)) w ≡ Some x → ((nat_eq w v ≡ true) × (u ≡ x)) ⊎ ((nat_eq w v ≡ false) × (web_of m w ≡ Some x))
set_some [] v u w x e = absurd cc
set_some (y ∷ m) zero u zero x e = inl (refl, same_Some u x e)
set_some (y ∷ m) zero u (suc w) x e = inr (suc_zero w, e)
set_some (y ∷ m) (suc v) u zero x e = inr (zero_suc v, e)
set_some (y ∷ m) (suc v) u (suc w) x e = elim (set_some m v u w x e) [ inl h ↦ inl (suc_suc w v ∙ h.0, h.1) | inr h ↦ inr (suc_suc w v ∙ h.0, h.1) ]

pub set_other : (m : Current) (v w : ℕ) (o : Option ℕ) → nat_eq w v ≡ false → web_of (set m v o) w ≡ web_of m w
set_other [] v w o e = refl
set_other (x ∷ m) zero zero o e = absurd cc
set_other (x ∷ m) zero (suc w) o e = refl
set_other (x ∷ m) (suc v) zero o e = refl
set_other (x ∷ m) (suc v) (suc w) o e = set_other m v w o (sym (suc_suc w v) ∙ e)

-- ---- variables that are their own webs

pub own_at : (k c v u : ℕ) → web_of (own_webs k c) v ≡ Some u → (u ≡ k + v) × (v < c)
own_at k zero v u e = absurd cc
own_at k (suc c) zero u e = let h = same_Some k u e in (omega (arith, h), omega arith)
own_at k (suc c) (suc v) u e =
    let h = own_at (suc k) c v u e in
    let a = h.0 in
    let b = h.1 in
    (omega (arith, a), omega (arith, b))

pub own_there : (k c v : ℕ) → v < c → web_of (own_webs k c) v ≡ Some (k + v)
own_there k zero v lt = absurd (omega (arith, lt))
own_there k (suc c) zero lt = let e : k ≡ k + 0 = omega arith in ap (λ (i : ℕ). Some i) e
own_there k (suc c) (suc v) lt = let e : suc k + v ≡ k + suc v = omega arith in own_there (suc k) c v (omega (arith, lt)) ∙ ap (λ (i : ℕ). Some i) e

pub own_end : (k c : ℕ) → own_webs k (suc c) ≡ own_webs k c ++ Some (k + c) ∷ []
own_end k zero = let e : k ≡ k + 0 = omega arith in ap (λ (i : ℕ). Some i ∷ []) e
own_end k (suc c) =
    let e : suc k + c ≡ k + suc c = omega arith in
    ap (λ (l : Current). Some k ∷ l) (own_end (suc k) c ∙ ap (λ (i : ℕ). own_webs (suc k) c ++ Some i ∷ []) e)

pub written_own : (c v : ℕ) → written_as (own_webs 0 c) v ≡ v
written_own c v = by (web_of (own_webs 0 c) v) refl where
  by : (o : Option ℕ) → web_of (own_webs 0 c) v ≡ o → or_own v o ≡ v
  by None e = refl
  by (Some u) e = let h = (own_at 0 c v u e).0 in omega (arith, h)

-- one variable more
pub own_next : (webs webs' : Current) (v : ℕ) → webs ≡ own_webs 0 v → webs' ≡ webs ++ Some v ∷ [] → webs' ≡ own_webs 0 (v + 1)
own_next webs webs' v h k =
    let none : v ≡ 0 + v = omega arith in
    let one : suc v ≡ v + 1 = omega arith in
    k ∙ ap (λ (l : Current). l ++ Some v ∷ []) h ∙ ap (λ (i : ℕ). own_webs 0 v ++ Some i ∷ []) none ∙ sym (own_end 0 v) ∙ ap (own_webs 0) one
