-- A couple that is to be noted is made of all that is to be done before, so where something of that differs, it does too.
use Rattle.std.proofs.Common.{ℕ, List, [], ◌∷◌, ◌++◌}
use Rattle.std.specs.List.{AllByRecursion}
use Rattle.dae_base.proofs.Laws.{all_join}
use Rattle.dae_types_typed.specs.declared.files.FileParts.{FileParts}
use Rattle.dae_unit.specs.declared.couples.Couple.{Couple}
use Rattle.dae_unit.specs.declared.couples.Goal.{Goal}
use Rattle.dae_unit.specs.declared.couples.CoupleTask.{CoupleTask}
use Rattle.dae_unit.specs.declared.couples.CoupleTask.TheVariants.{Compare, Note}
use Rattle.dae_unit.specs.Couples.{AreOther, Needs, goals_at, couple_of, AreEnclosed, IsNotedOther}

-- ---- lists

before_last : {X : Type 0} (P : X → Type 0) (xs : List X) (y : X) → AllByRecursion P (xs ++ y ∷ []) → AllByRecursion P xs × P y
before_last P [] y h = (tt, h.0)
before_last P (x ∷ xs) y h = let rest = before_last P xs y h.1 in ((h.0, rest.0), rest.1)

-- ---- tasks

module _ (f g : FileParts) where
  -- what a couple needs, of which each of these goals is a part
  goals_needed : (c d : Couple) (k : ℕ) (cs : List Couple) → Needs f g c d → AllByRecursion (λ p. Needs f g d p) cs → AllByRecursion (λ t. Needs f g c (couple_of t)) (goals_at k cs)
  goals_needed c d k [] h parts = tt
  goals_needed c d k (p ∷ cs) h parts = (λ other. h (parts.0 other), goals_needed c d k cs h parts.1)

  goals_enclosed : (k : ℕ) (cs : List Couple) → AreEnclosed f g (goals_at k cs)
  goals_enclosed k [] = tt
  goals_enclosed k (p ∷ cs) = goals_enclosed k cs

  -- the last task is done
  pub enclosed_before : (rest : List CoupleTask) (t : CoupleTask) → AreEnclosed f g (rest ++ t ∷ []) → AreEnclosed f g rest
  enclosed_before [] t h = tt
  enclosed_before (Compare x ∷ rest) t h = enclosed_before rest t h
  enclosed_before (Note c ∷ rest) t h = (let all = before_last (λ t. Needs f g c (couple_of t)) rest t h.0 in all.0, enclosed_before rest t h.1)

  -- the last is a couple, which is to be noted behind its parts
  pub enclosed_further : (x : Goal) (k : ℕ) (cs : List Couple) → AllByRecursion (λ p. Needs f g x.couple p) cs → (rest : List CoupleTask) → AreEnclosed f g (rest ++ Compare x ∷ []) → AreEnclosed f g ((rest ++ Note x.couple ∷ []) ++ goals_at k cs)
  enclosed_further x k cs parts [] h = (goals_needed x.couple x.couple k cs (λ other. other) parts, goals_enclosed k cs)
  enclosed_further x k cs parts (Compare y ∷ rest) h = enclosed_further x k cs parts rest h
  enclosed_further x k cs parts (Note c ∷ rest) h =
      let all = before_last (λ t. Needs f g c (couple_of t)) rest (Compare x) h.0 in (
        all_join (λ t. Needs f g c (couple_of t)) (rest ++ Note x.couple ∷ []) (goals_at k cs)
            (all_join (λ t. Needs f g c (couple_of t)) rest (Note x.couple ∷ []) all.0 (all.1, tt))
            (goals_needed c x.couple k cs all.1 parts),
        enclosed_further x k cs parts rest h.1,
      )

  -- the last differs, so that all that are to be noted do
  around_differ : (x : Goal) → AreOther f g x.couple → (rest : List CoupleTask) → AreEnclosed f g (rest ++ Compare x ∷ []) → AllByRecursion (IsNotedOther f g) rest
  around_differ x other [] h = tt
  around_differ x other (Compare y ∷ rest) h = (tt, around_differ x other rest h)
  around_differ x other (Note c ∷ rest) h = (let all = before_last (λ t. Needs f g c (couple_of t)) rest (Compare x) h.0 in all.1 other, around_differ x other rest h.1)

  pub noted_differ : (x : Goal) → AreOther f g x.couple → (rest : List CoupleTask) → AreEnclosed f g (rest ++ Compare x ∷ []) → AllByRecursion (IsNotedOther f g) (rest ++ Note x.couple ∷ [])
  noted_differ x other rest h = all_join (IsNotedOther f g) rest (Note x.couple ∷ []) (around_differ x other rest h) (other, tt)
