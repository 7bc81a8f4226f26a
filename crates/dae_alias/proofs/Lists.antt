-- Lists of loads that are held.
use Rattle.std.proofs.Common.{◌≡◌, ℕ, zero, suc, ◌+◌, ◌<◌, Bool, true, false, ◌&&◌, if◌then◌else◌, List, [], ◌∷◌, ◌++◌, length, take, get_or, Option, Some, None, refl, ap, sym, ◌∙◌, subst, arith}
use Rattle.std.proofs.Math.Seq.{take-suc}
use Rattle.dae_base.specs.Words.{width_of}
use Rattle.dae_base.specs.declared.LoadKind.{LoadKind}
use Rattle.dae_base.specs.declared.Width.{Width}
use Rattle.dae_alias.specs.declared.addresses.SymAddr.{SymAddr}
use Rattle.dae_alias.specs.declared.held.Held.{Held}
use Rattle.dae_alias.specs.Addresses.{same_kind, same_place, are_apart}
use Rattle.dae_alias.specs.Reuse.{held_in, still_held}

abbrev pub is_for : Held → LoadKind → SymAddr → Bool
is_for x kind at = same_kind x.kind kind && same_place x.at at

cons_none : (b : Bool) (x : Held) (o : Option Held) → (if b then Some x else o) ≡ None → (b ≡ false) × (o ≡ None)
cons_none true x o h = cc
cons_none false x o h = (refl, h)

pub found_at : (kind : LoadKind) (at : SymAddr) (xs : List Held) (i : ℕ) (d : Held) → i < length xs → held_in (take i xs) kind at ≡ None → is_for (get_or xs i d) kind at ≡ true → Some (get_or xs i d) ≡ held_in xs kind at
found_at kind at [] i d lt none is = absurd (omega (arith, lt))
found_at kind at (x ∷ xs) zero d lt none is = rw is refl
found_at kind at (x ∷ xs) (suc i) d lt none is =
    let p = cons_none (is_for x kind at) x (held_in (take i xs) kind at) none in
    rw p.0 (found_at kind at xs i d (omega (arith, lt)) p.1 is)

none_end : (kind : LoadKind) (at : SymAddr) (xs : List Held) (x : Held) → held_in xs kind at ≡ None → is_for x kind at ≡ false → held_in (xs ++ x ∷ []) kind at ≡ None
none_end kind at [] x none no' = rw no' refl
none_end kind at (y ∷ ys) x none no' =
    let p = cons_none (is_for y kind at) y (held_in ys kind at) none in rw p.0 (none_end kind at ys x p.1 no')

pub take_one : {X : Type 0} (xs : List X) (i : ℕ) (d : X) → i < length xs → take (i + 1) xs ≡ take i xs ++ get_or xs i d ∷ []
take_one xs i d lt = let one : suc i ≡ i + 1 = omega arith in subst (λ (k : ℕ). take k xs ≡ take i xs ++ get_or xs i d ∷ []) one (take-suc xs i d lt)

pub none_next : (kind : LoadKind) (at : SymAddr) (xs : List Held) (i : ℕ) (d : Held) → i < length xs → held_in (take i xs) kind at ≡ None → is_for (get_or xs i d) kind at ≡ false → held_in (take (i + 1) xs) kind at ≡ None
none_next kind at xs i d lt none no' = rw (take_one xs i d lt) (none_end kind at (take i xs) (get_or xs i d) none no')

still_end : (at : SymAddr) (width : Width) (xs : List Held) (x : Held) → still_held (xs ++ x ∷ []) at width ≡ (if are_apart x.at (width_of x.kind) at width then still_held xs at width ++ x ∷ [] else still_held xs at width)
still_end at width [] x = by (are_apart x.at (width_of x.kind) at width) where
  by : (b : Bool) → (if b then x ∷ [] else []) ≡ (if b then x ∷ [] else [])
  by b = refl
still_end at width (y ∷ ys) x = by (are_apart y.at (width_of y.kind) at width) (are_apart x.at (width_of x.kind) at width) (still_end at width ys x) where
  by : (c b : Bool) → still_held (ys ++ x ∷ []) at width ≡ (if b then still_held ys at width ++ x ∷ [] else still_held ys at width)
      → (if c then y ∷ still_held (ys ++ x ∷ []) at width else still_held (ys ++ x ∷ []) at width)
      ≡ (if b then (if c then y ∷ still_held ys at width else still_held ys at width) ++ x ∷ [] else (if c then y ∷ still_held ys at width else still_held ys at width))
  by true true e = ap (λ (zs : List Held). y ∷ zs) e
  by true false e = ap (λ (zs : List Held). y ∷ zs) e
  by false true e = e
  by false false e = e

pub still_kept : (at : SymAddr) (width : Width) (xs : List Held) (i : ℕ) (d : Held) → i < length xs → (let x = get_or xs i d in are_apart x.at (width_of x.kind) at width) ≡ true
    → still_held (take i xs) at width ++ get_or xs i d ∷ [] ≡ still_held (take (i + 1) xs) at width
still_kept at width xs i d lt is = rw (take_one xs i d lt, still_end at width (take i xs) (get_or xs i d), is) refl

pub still_left : (at : SymAddr) (width : Width) (xs : List Held) (i : ℕ) (d : Held) → i < length xs → (let x = get_or xs i d in are_apart x.at (width_of x.kind) at width) ≡ false
    → still_held (take i xs) at width ≡ still_held (take (i + 1) xs) at width
still_left at width xs i d lt is = rw (take_one xs i d lt, still_end at width (take i xs) (get_or xs i d), is) refl

module _ (at : SymAddr) (width : Width) (xs : List Held) (i : ℕ) (d : Held) (lt : i < length xs) (r : Bool) (wide : Width) (is_wide : wide ≡ (let x = get_or xs i d in width_of x.kind))
    (is : r ≡ (let x = get_or xs i d in are_apart x.at wide at width)) (ys : List Held) (so_far : ys ≡ still_held (take i xs) at width) where
  abbrev x : Held
  x = get_or xs i d

  told : (b : Bool) → r ≡ b → are_apart x.at (width_of x.kind) at width ≡ b
  told b e = ap (λ (w : Width). are_apart x.at w at width) (sym is_wide) ∙ sym is ∙ e

  pub kept_next : r ≡ true → ys ++ x ∷ [] ≡ still_held (take (i + 1) xs) at width
  kept_next e = ap (λ (zs : List Held). zs ++ x ∷ []) so_far ∙ still_kept at width xs i d lt (told true e)

  pub left_next : r ≡ false → ys ≡ still_held (take (i + 1) xs) at width
  left_next e = so_far ∙ still_left at width xs i d lt (told false e)
