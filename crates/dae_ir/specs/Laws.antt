-- What is proved of forms.
use Rattle.std.specs.Prelude.{◌≡◌, ℕ, suc, ◌+◌, ◌≤◌, Bool, true, List}
use Rattle.dae_meaning.specs.Worlds.{World, KeepsMemory}
use Rattle.dae_meaning.specs.Results.{Over, Going, world_of}
use Rattle.dae_meaning.specs.Alike.{Alike, LoadsApart, AtMost, AtLeast, IsUnder}
use Rattle.dae_meaning.specs.Variables.{Env}
use Rattle.dae_ir.specs.Form.{Program, calls_of}

-- which loads are counted, by function and variable
abbrev pub Counting : Type 0
Counting = ℕ → ℕ → Bool

-- one turn more: what has ended stays so, and what goes on has printed a front of what it prints then
abbrev pub MoreTurns : Program → Counting → Type 0
MoreTurns p counted =
    (n limit f : ℕ) (xs : List ℕ) (w : World) → IsUnder (calls_of p counted n limit f xs w) (calls_of p counted (suc n) limit f xs w)

-- where a bound on turns ran out, at least so many items were executed
abbrev pub GoingTakesTurns : Program → Counting → Type 0
GoingTakesTurns p counted =
    (n limit f : ℕ) (xs : List ℕ) (w u : World) → calls_of p counted n limit f xs w ≡ Over Going u → w.items + n ≤ u.items

-- each load that is counted in one way is so in the other
abbrev pub IsWithinLoads : Counting → Counting → Type 0
IsWithinLoads counted more = (f v : ℕ) → counted f v ≡ true → more f v ≡ true

abbrev pub SameVariables : Env → Env → Type 0
SameVariables x y = x ≡ y

-- the two ways of counting end alike, with the same variables, and one has counted no more loads than the other
pub record FewerLoads (p : Program) (counted more : Counting) : Type 0 where
  pub fewer : (n limit f : ℕ) (xs : List ℕ) (w : World)
      → Alike SameVariables (LoadsApart AtMost) (calls_of p counted n limit f xs w) (calls_of p more n limit f xs w)
  pub more' : (n limit f : ℕ) (xs : List ℕ) (w : World)
      → Alike SameVariables (LoadsApart AtLeast) (calls_of p more n limit f xs w) (calls_of p counted n limit f xs w)

-- however it ends, memory is as long as before, and holds bytes where it did
abbrev pub MemoryKept : Program → Counting → Type 0
MemoryKept p counted =
    (n limit f : ℕ) (xs : List ℕ) (w : World) → KeepsMemory w (world_of (calls_of p counted n limit f xs w))
