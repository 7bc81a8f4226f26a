-- Homes that are clear of each other are right: two variables that are live at one place have different ones.
use Rattle.std.proofs.Common.{◌≡◌, ◌≢◌, ℕ, ◌+◌, inl, inr, List, [], ◌∷◌, refl, sym, ◌∙◌, arith}
use Rattle.std.specs.List.{AllByRecursion}
use Rattle.dae_ir.specs.Classes.{VariableSet}
use Rattle.dae_select_walks.specs.declared.Home.{Home}
use Rattle.dae_select_walks.specs.Homes.{AreApart}
use Rattle.dae_regalloc.specs.declared.Span.{Span}
use Rattle.dae_regalloc.specs.Scan.{Overlap, IsClear, AreClear, IsPaired, AreCovered}

clear_of : (x : Span) (h : Home) (y : Span) (g : Home) (ys : List Span) (gs : List Home) → IsClear x h ys gs → IsPaired y g ys gs → Overlap x y → x.variable ≢ y.variable → h ≢ g
clear_of x h y g [] gs clear pair over ne = absurd pair
clear_of x h y g (z ∷ zs) [] clear pair over ne = absurd pair
clear_of x h y g (z ∷ zs) (f ∷ fs) clear pair over ne = elim pair [
  | inl e ↦ rw e.1 (clear.0 (rw e.0 at over) (rw e.0 at ne))
  | inr e ↦ clear_of x h y g zs fs clear.1 e over ne
]

pub clear_apart : (x y : Span) (h g : Home) (zs : List Span) (fs : List Home) → AreClear zs fs → IsPaired x h zs fs → IsPaired y g zs fs → Overlap x y → x.variable ≢ y.variable → h ≢ g
clear_apart x y h g [] fs clear a b over ne = absurd a
clear_apart x y h g (z ∷ zs) [] clear a b over ne = absurd a
clear_apart x y h g (z ∷ zs) (f ∷ fs) clear a b over ne = elim a [
  | inl e ↦ elim b [
    | inl d ↦ absurd (ne (let same : x ≡ y = e.0 ∙ sym d.0 in rw same refl))
    | inr d ↦ (let same : h ≡ f = e.1 in let c : f ≢ g = clear_of z f y g zs fs clear.0 d (rw e.0 at over) (rw e.0 at ne) in λ p. c (sym same ∙ p))
  ]
  | inr e ↦ elim b [
    | inl d ↦ (let back : Overlap y x = (over.1, over.0) in let c : f ≢ h = clear_of z f x h zs fs clear.0 e (rw d.0 at back) (λ p. ne (sym p ∙ (let q : z ≡ y = sym d.0 in rw q refl))) in λ p. c (sym d.1 ∙ sym p))
    | inr d ↦ clear_apart x y h g zs fs clear.1 e d over ne
  ]
]

pub covered_apart : (places : List VariableSet) (k : ℕ) (home : ℕ → Home) (xs : List Span) (hs : List Home) → AreClear xs hs → AreCovered places k home xs hs → AllByRecursion (AreApart home) places
covered_apart [] k home xs hs clear covered = tt
covered_apart (lives ∷ rest) k home xs hs clear covered = (
  (λ u v a b ne.
      let x = covered.0 u a in let y = covered.0 v b in
      clear_apart x.0 y.0 (home u) (home v) xs hs clear x.4 y.4 (omega arith, omega arith) (λ same. ne (sym x.1 ∙ (same ∙ y.1)))),
  covered_apart rest (k + 1) home xs hs clear covered.1,
)
