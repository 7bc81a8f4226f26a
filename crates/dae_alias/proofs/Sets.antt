-- What is known behind one more set, and where nothing was set.
use Rattle.std.proofs.Common.{◌≡◌, ℕ, ◌+◌, ◌^◌, ◌≤◌, ◌<◌, Bool, true, false, nat_eq, if◌then◌else◌, Option, Some, None, refl, ap, sym, subst, ◌∙◌, arith}
use Rattle.std.proofs.Math.Path.{fun_ext}
use Rattle.std.proofs.lemmas.Bool.{eqb-true}
use Rattle.std.proofs.lemmas.Bool.Decides.{nat_tests}
use Rattle.indexmap.specs.IndexMap.{IndexMap, IsEmpty, Updates}
use Rattle.dae_ir.specs.declared.form.Item.{Item}
use Rattle.dae_ir.specs.declared.form.Item.TheVariants.{Assign, Load, Store, Expect}
use Rattle.dae_alias.specs.declared.addresses.SymAddr.{SymAddr}
use Rattle.dae_alias.specs.declared.held.Held.{Held}
use Rattle.dae_alias.specs.declared.stretch.Latest.{Latest}
use Rattle.dae_alias.specs.Listed.{known_of}
use Rattle.dae_alias.specs.Reuse.{known_behind}
use Rattle.dae_alias.specs.Stretches.{KnownInStretch, nothing, renewed, set, followed, after, IsSetOnceMore, IsSetSeldom}

abbrev known : (ℕ → SymAddr) → (ℕ → ℕ) → KnownInStretch
known values times = record { value = values; times = times }

both_known : (f g : ℕ → SymAddr) (a b : ℕ → ℕ) → ((v : ℕ) → f v ≡ g v) → ((v : ℕ) → a v ≡ b v) → known f a ≡ known g b
both_known f g a b values times = ap (λ (h : ℕ → SymAddr). known h a) (fun_ext values) ∙ ap (λ (h : ℕ → ℕ). known g h) (fun_ext times)

pub known_empty : {S : Type 0} (sets : IndexMap ℕ Latest S) → IsEmpty sets → known_of sets ≡ nothing
known_empty sets empty = both_known (known_of sets).value nothing.value (known_of sets).times nothing.times (λ v. rw empty refl) (λ v. rw empty refl)

pub known_insert : {S : Type 0} (old new : IndexMap ℕ Latest S) (v : ℕ) (x : SymAddr) (n : ℕ) → n ≡ (known_of old).times v + 1
    → Updates nat_eq old new v (Some (record { value = x; times = n })) → known_of new ≡ set (known_of old) v (Some x)
known_insert {S} old new v x n one_more updates =
    both_known (known_of new).value (set (known_of old) v (Some x)).value (known_of new).times (set (known_of old) v (Some x)).times value times where
      turned : (u : ℕ) (b : Bool) → nat_eq v u ≡ b → nat_eq u v ≡ b
      turned u true p = grind (arith, nat_tests, p)
      turned u false p = grind (arith, nat_tests, p)

      value : (u : ℕ) → (known_of new).value u ≡ (set (known_of old) v (Some x)).value u
      value u = by (nat_eq v u) refl where
        by : (b : Bool) → nat_eq v u ≡ b → (known_of new).value u ≡ (set (known_of old) v (Some x)).value u
        by true p = rw (updates.0 u, p, turned u true p) refl
        by false p = rw (updates.0 u, p, turned u false p) refl

      times : (u : ℕ) → (known_of new).times u ≡ (set (known_of old) v (Some x)).times u
      times u = by (nat_eq v u) refl where
        by : (b : Bool) → nat_eq v u ≡ b → (known_of new).times u ≡ (set (known_of old) v (Some x)).times u
        by true p = rw (updates.0 u, p, turned u true p) (one_more ∙ ap (λ w. (known_of old).times w + 1) (eqb-true v u p))
        by false p = rw (updates.0 u, p, turned u false p) refl

pub set_none : (K : KnownInStretch) (v : ℕ) (y : SymAddr) → y ≡ renewed K v → set K v (Some y) ≡ set K v None
set_none K v y e = ap (λ (z : SymAddr). set K v (Some z)) e

-- ---- how often variables were set

set_once : (s : KnownInStretch) (v : ℕ) (x : Option SymAddr) → IsSetOnceMore s (set s v x)
set_once s v x u = by (nat_eq u v)
  where
    by : (b : Bool) → (if b then s.times u + 1 else s.times u) ≤ s.times u + 1
    by true = omega arith
    by false = omega arith

behind_once : (s : KnownInStretch) (v : ℕ) (given : Option Held) → IsSetOnceMore s (known_behind s v given)
behind_once s v None = set_once s v None
behind_once s v (Some e) = set_once s v (Some e.value)

nothing_once : (s : KnownInStretch) → IsSetOnceMore s nothing
nothing_once s v = omega arith

as_it_was : (s : KnownInStretch) → IsSetOnceMore s s
as_it_was s v = omega arith

after_once : (s : KnownInStretch) (item : Item) → IsSetOnceMore s (after s item)
after_once s (Assign v x) = set_once s v (followed s x)
after_once s (Load v kind x) = set_once s v None
after_once s (Store width x y) = as_it_was s
after_once s (Expect check) = as_it_was s
after_once s item = nothing_once s

pub met_once : (s t : KnownInStretch) (v : ℕ) (given : Option Held) → t ≡ known_behind s v given → IsSetOnceMore s t
met_once s t v given is = subst (λ (k : KnownInStretch). IsSetOnceMore s k) (sym is) (behind_once s v given)

pub passed_once : (s t : KnownInStretch) (item : Item) → t ≡ after s item → IsSetOnceMore s t
passed_once s t item is = subst (λ (k : KnownInStretch). IsSetOnceMore s k) (sym is) (after_once s item)

pub begun_once : (s t : KnownInStretch) → t ≡ nothing → IsSetOnceMore s t
begun_once s t is = subst (λ (k : KnownInStretch). IsSetOnceMore s k) (sym is) (nothing_once s)

-- before statement i of a list each was set at most i times in its stretch
pub further_seldom : (s t : KnownInStretch) (i : ℕ) → ((v : ℕ) → s.times v ≤ i) → IsSetOnceMore s t → (v : ℕ) → t.times v ≤ i + 1
further_seldom s t i few once v = let a = few v in let b = once v in omega (arith, a, b)

pub still_seldom : (s : KnownInStretch) (i n : ℕ) → ((v : ℕ) → s.times v ≤ i) → i < n → n < 2 ^ 64 → IsSetSeldom s
still_seldom s i n few lt small v = let a = few v in omega (arith, a, lt, small)

pub begun_seldom : (s : KnownInStretch) (i : ℕ) → s ≡ nothing → (v : ℕ) → s.times v ≤ i
begun_seldom s i is v = let none = ap (λ (k : KnownInStretch). k.times v) is in omega (arith, none)
