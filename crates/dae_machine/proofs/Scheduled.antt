-- The turns of a schedule are a run.
use Rattle.std.proofs.Common.{◌≡◌, ℕ, zero, suc, ◌+◌, ◌⊎◌, inl, inr, [], ◌∷◌, length, refl, ap}
use Rattle.std.specs.Prelude.{Option, Some, None}
use Rattle.dae_base.proofs.Laws.{some_of}
use Rattle.dae_machine.specs.declared.Pick.{Pick}
use Rattle.dae_machine.specs.Machine.{Setup, State, step, Runs, IsCounted, IsQuiet}
use Rattle.dae_machine.specs.Schedules.{and_then_on, scheduled, turned}
use Rattle.dae_machine.specs.Turns.{pick_of}
use Rattle.dae_machine.proofs.Diamond.{counted_step}
use Rattle.dae_machine.proofs.Turns.{picked_goes, quiet_where_none}

-- a run of so many turns, or a shorter one that came to rest
abbrev pub IsTurned : Setup → State → (ℕ → ℕ) → ℕ → Type 0
IsTurned setup s words k = (t : State) × Runs setup s (scheduled setup s words k) t × ((length (scheduled setup s words k) ≡ k) ⊎ IsQuiet setup t)

module _ (setup : Setup) (s : State) (words : ℕ → ℕ) (k : ℕ) (c : IsCounted s) (later : (t : State) → IsCounted t → IsTurned setup t (λ i. words (i + 1)) k) where
  goes_on : (p : Pick) (t : State) → pick_of setup s (words 0) ≡ Some p → step setup s p ≡ Some t → IsTurned setup s words (suc k)
  goes_on p t picks steps =
      let first : turned setup s (words 0) ≡ Some (p, t) = rw (picks, steps) in
      let run = later t (counted_step setup s t p c steps) in
      let list : scheduled setup s words (suc k) ≡ p ∷ scheduled setup t (λ i. words (i + 1)) k = ap (λ (o : Option (Pick × State)). and_then_on o (λ t. scheduled setup t (λ i. words (i + 1)) k)) first in (
        run.0,
        rw (list, steps) run.1,
        rw list (elim run.2 [ inl e ↦ inl (ap suc e) | inr q ↦ inr q ]),
      )

  turn_by : (o : Option Pick) → pick_of setup s (words 0) ≡ o → IsTurned setup s words (suc k)
  turn_by None picks =
      let none : turned setup s (words 0) ≡ None = rw picks in
      let list : scheduled setup s words (suc k) ≡ [] = ap (λ (o : Option (Pick × State)). and_then_on o (λ t. scheduled setup t (λ i. words (i + 1)) k)) none in
      (s, rw list, inr (quiet_where_none setup s (words 0) picks))
  turn_by (Some p) picks =
      let found = some_of (step setup s p) (picked_goes setup s c (words 0) p picks) in goes_on p found.0 picks found.1

pub is_turned : (setup : Setup) (s : State) (words : ℕ → ℕ) (k : ℕ) → IsCounted s → IsTurned setup s words k
is_turned setup s words zero c = (s, refl, inl refl)
is_turned setup s words (suc k) c = turn_by setup s words k c (λ t d. is_turned setup t (λ i. words (i + 1)) k d) (pick_of setup s (words 0)) refl
