-- What comes before a branch.
use Rattle.std.specs.Prelude.{◌≡◌, ℕ, Bool, List, [], ◌++◌}
use Rattle.dae_encode.specs.declared.Inst.{Inst}
use Rattle.dae_meaning.specs.declared.Comparison.{Comparison}

-- behind old, new has all of this code but what goes on elsewhere where registers compare so, whatever that is
pub record IsFront {X : Type 0} (code : (Comparison → ℕ → ℕ → List Inst) → X → Bool → List Inst) (x : X) (way : Bool) (old new : List Inst) (relation : Comparison) (first second : ℕ) : Type 0 where
  pub front : new ≡ old ++ code (λ relation first second. []) x way
  pub whole : (go : Comparison → ℕ → ℕ → List Inst) → code go x way ≡ code (λ relation first second. []) x way ++ go relation first second
