-- How a stretch of a program ends, whatever its variables are kept in.
use Rattle.std.specs.Prelude.{ℕ, zero, suc, Option, Some, None}
use Rattle.dae_meaning.specs.Worlds.{World, ticked}

-- how a program ends. It goes on where a bound on the turns of loops ran out. It goes astray at an access that isn't well
-- placed and isn't checked, and at a call that passes a limit and isn't checked: what it does then is not said
pub data End : Type 0 where
  Halted : (status : ℕ) → End
  Trapped : (code : ℕ) → End
  Going : End
  Astray : End

-- where a stretch goes on: behind it, behind the loop, at the loop's step, behind the call (C90 6.6.6)
pub data Way : Type 0 where
  Next : Way
  Leaves : Way
  Skips : Way
  Returns : Way

-- E is what the variables are kept in
pub data Result (E : Type 0) : Type 0 where
  At : (way : Way) (e : E) (w : World) → Result E
  Over : (end : End) (w : World) → Result E

-- what goes on from variables and a world
abbrev pub Run : Type 0 → Type 0
Run E = E → World → Result E

abbrev pub world_of : {E : Type 0} → Result E → World
world_of (At way e w) = w
world_of (Over end w) = w

-- one stretch, and then another
infixl 10 ◌▷◌
abbrev pub ◌▷◌ : {E : Type 0} → Result E → Run E → Result E
(At Next e w) ▷ f = f e w
(At Leaves e w) ▷ f = At Leaves e w
(At Skips e w) ▷ f = At Skips e w
(At Returns e w) ▷ f = At Returns e w
(Over end w) ▷ f = Over end w

-- a loop's body or step, and then what follows it in the loop
infixl 10 ◌↻◌
abbrev pub ◌↻◌ : {E : Type 0} → Result E → Run E → Result E
(At Next e w) ↻ f = f e w
(At Leaves e w) ↻ f = At Next e w
(At Skips e w) ↻ f = f e w
(At Returns e w) ↻ f = At Returns e w
(Over end w) ↻ f = Over end w

-- at most n turns, each of which counts as an item
abbrev pub turns : {E : Type 0} → Run E → Run E → ℕ → Run E
turns body step zero e w = Over Going w
turns body step (suc n) e w = body e (ticked w) ↻ λ e w. step e w ↻ turns body step n

-- it goes astray where there is a fault
abbrev pub within : {E : Type 0} → Option ℕ → World → Result E → Result E
within None w r = r
within (Some code) w r = Over Astray w

-- it traps where there is a fault, by the fault's code
abbrev pub checked : {E : Type 0} → Option ℕ → Run E
checked None e w = At Next e w
checked (Some code) e w = Over (Trapped code) w
