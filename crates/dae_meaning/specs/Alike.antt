-- When one stretch ends as another does, or as far as it came.
use Rattle.std.specs.Prelude.{◌≡◌, ◌≤◌, ℕ, List, ◌++◌}
use Rattle.dae_meaning.specs.Worlds.{World, with_loads}
use Rattle.dae_meaning.specs.Results.{End, Going, Astray, Way, Result, At, Over, Run, world_of}

-- the two end alike: with variables that Q relates, in worlds that W relates. Where the first goes astray, nothing is said
-- of the second
pub data Alike {E F : Type 0} (Q : E → F → Type 0) (W : World → World → Type 0) : Result E → Result F → Type 0 where
  BothAt : (way : Way) (e : E) (f : F) (w u : World) → Q e f → W w u → Alike Q W (At way e w) (At way f u)
  BothOver : (end : End) (w u : World) → W w u → Alike Q W (Over end w) (Over end u)
  FirstStrays : (w : World) (s : Result F) → Alike Q W (Over Astray w) s

-- from variables and worlds that are so related
abbrev pub Alikes : {E F : Type 0} → (E → F → Type 0) → (World → World → Type 0) → Run E → Run F → Type 0
Alikes {E} {F} Q W r s = (e : E) (f : F) (w u : World) → Q e f → W w u → Alike Q W (r e w) (s f u)

-- in one world
abbrev pub Same : World → World → Type 0
Same w u = w ≡ u

-- in worlds that differ in the numbers of counted loads alone, which R relates
pub data LoadsApart (R : ℕ → ℕ → Type 0) : World → World → Type 0 where
  Apart : (w : World) (a b : ℕ) → R a b → LoadsApart R (with_loads a w) (with_loads b w)

abbrev pub AtMost : ℕ → ℕ → Type 0
AtMost a b = a ≤ b

abbrev pub AtLeast : ℕ → ℕ → Type 0
AtLeast a b = b ≤ a

-- what is printed only grows
abbrev pub IsFront : List ℕ → List ℕ → Type 0
IsFront xs ys = (more : List ℕ) × (ys ≡ xs ++ more)

-- the first is the second, or goes on and has printed a front of what the second prints
pub data IsUnder {E : Type 0} : Result E → Result E → Type 0 where
  Stays : (r : Result E) → IsUnder r r
  Grows : (w : World) (r : Result E) → IsFront w.printed (world_of r).printed → IsUnder (Over Going w) r
