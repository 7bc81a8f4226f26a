-- Which pick a word selects.
use Rattle.std.specs.Prelude.{ℕ, ◌+◌, ◌/◌, ◌%◌, Bool, ◌==◌, if◌then◌else◌, List, [], ◌∷◌, ◌++◌, map, filter, length, Option, None, is_some, slice_get}
use Rattle.dae_base.specs.declared.Side.{Side}
use Rattle.dae_base.specs.declared.Side.TheVariants.{A, E}
use Rattle.dae_queues.specs.declared.Slot.{Slot}
use Rattle.dae_machine.specs.declared.Pick.{Pick}
use Rattle.dae_machine.specs.declared.Pick.TheVariants.{A as MoveA, E as MoveE, Fill, Drain}
pub use Rattle.dae_queues.specs.Lists.{can_be_filled}
use Rattle.dae_machine.specs.Memory.{loads_of}
use Rattle.dae_machine.specs.Machine.{Setup, State, step}

abbrev pub is_enabled : Setup → State → Pick → Bool
is_enabled setup s p = is_some (step setup s p)

-- the enabled fills of a side, by slot number
abbrev pub fills_of : Side → State → List Pick
fills_of side s = map (λ (slot : Slot). Fill side slot.number) (filter (can_be_filled s.queues.stores.sa) (loads_of side s.queues).slots)

abbrev pub alone : Setup → State → Pick → List Pick
alone setup s p = if is_enabled setup s p then p ∷ [] else []

-- the enabled picks of the kind at a place of the cycle
abbrev pub kind_at : Setup → State → ℕ → List Pick
kind_at setup s place =
    if place % 4 == 0 then alone setup s MoveA
    else (if place % 4 == 1 then alone setup s MoveE
    else (if place % 4 == 2 then fills_of A s ++ fills_of E s
    else alone setup s Drain))

-- the first kind with enabled picks, or [] where there is none
abbrev pub or_next : List Pick → List Pick → List Pick
or_next [] qs = qs
or_next (p ∷ ps) qs = p ∷ ps

abbrev pub kind_of : Setup → State → ℕ → List Pick
kind_of setup s word =
    or_next (kind_at setup s word) (or_next (kind_at setup s (word + 1)) (or_next (kind_at setup s (word + 2)) (kind_at setup s (word + 3))))

abbrev pub chosen : ℕ → List Pick → Option Pick
chosen n [] = None
chosen n (p ∷ ps) = slice_get (p ∷ ps) (n % length (p ∷ ps))

-- the pick that a word selects
abbrev pub pick_of : Setup → State → ℕ → Option Pick
pick_of setup s word = chosen (word / 4) (kind_of setup s word)
