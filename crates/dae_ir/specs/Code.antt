-- Structured code over items and tests of any kind, each with a mark, as the place that it comes from.
use Rattle.std.specs.Prelude.{ℕ, Bool, true, ◌&&◌, if◌then◌else◌}
use Rattle.dae_meaning.specs.Worlds.{ticked}
use Rattle.dae_meaning.specs.Results.{At, Next, Run, ◌▷◌, turns}

-- each constructor holds what comes behind it
pub data Code (M L T : Type 0) : Type 0 where
  Done : Code M L T
  Do : (mark : M) (item : L) (k : Code M L T) → Code M L T
  If : (mark : M) (test : T) (p q k : Code M L T) → Code M L T
  Loop : (mark : M) (body step k : Code M L T) → Code M L T

-- what items do and when tests hold, over what the variables are kept in
pub record CodeMeaning (L T E : Type 0) : Type 0 where
  pub does : L → Run E
  pub holds : T → E → Bool

-- what code does, where each loop makes at most n turns. A condition counts as an item
abbrev pub exec : {M L T E : Type 0} → CodeMeaning L T E → ℕ → Code M L T → Run E
exec m n Done e w = At Next e w
exec m n (Do mark item k) e w = m.does item e w ▷ exec m n k
exec m n (If mark test p q k) e w =
    (if m.holds test e then exec m n p e (ticked w) else exec m n q e (ticked w)) ▷ exec m n k
exec m n (Loop mark body step k) e w = turns (exec m n body) (exec m n step) n e w ▷ exec m n k

-- each item and each test is of this kind
abbrev pub Each : {M L T : Type 0} → (L → Type 0) → (T → Type 0) → Code M L T → Type 0
Each I J Done = Unit {0}
Each I J (Do mark item k) = I item × Each I J k
Each I J (If mark test p q k) = J test × Each I J p × Each I J q × Each I J k
Each I J (Loop mark body step k) = Each I J body × Each I J step × Each I J k

-- the same by tests
abbrev pub every : {M L T : Type 0} → (L → Bool) → (T → Bool) → Code M L T → Bool
every f h Done = true
every f h (Do mark item k) = f item && every f h k
every f h (If mark test p q k) = h test && (every f h p && (every f h q && every f h k))
every f h (Loop mark body step k) = every f h body && (every f h step && every f h k)
