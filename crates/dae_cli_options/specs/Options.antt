-- The ranges of the options of jobs.
use Rattle.std.specs.Prelude.{◌≡◌, ℕ, ◌%◌, ◌^◌, ◌≤◌}
use Rattle.dae_base.specs.declared.Depths.{Depths}
use Rattle.dae_base.specs.declared.Queue.{Queue}
use Rattle.dae_base.specs.Budgets.{depth}
use Rattle.dae_cli_options.specs.Ranges.{IsFromTo}
use Rattle.dae_cli_options.specs.declared.options.OptionValues.{OptionValues}

-- A memory has 64 to 2^26 bytes, a multiple of 16; 1 to 4,096 calls may stand inside one another; and 1 to 64 is
-- the most that a group may hold of loads for E, and of copies.
pub record AreInRange (memory calls cap : ℕ) : Type 0 where
  pub least : 64 ≤ memory
  pub most : memory ≤ 2 ^ 26
  pub aligned : memory % 16 ≡ 0
  pub called : 1 ≤ calls
  pub shallow : calls ≤ 4096
  pub some : 1 ≤ cap
  pub few : cap ≤ 64

-- each cost of a timed run is 1 to 1,000 ticks
pub record AreCosts (load mul div : ℕ) : Type 0 where
  pub load_least : 1 ≤ load
  pub load_most : load ≤ 1000
  pub mul_least : 1 ≤ mul
  pub mul_most : mul ≤ 1000
  pub div_least : 1 ≤ div
  pub div_most : div ≤ 1000

-- each queue is 1 to 4,096 items deep
abbrev pub AreDepths : Depths → Type 0
AreDepths d = (queue : Queue) → IsFromTo 1 4096 (depth queue d)

-- the depths are depths, and the steps are 1 to 1,000,000,000,000
pub record OptionsInRange (options : OptionValues) : Type 0 where
  pub depths : AreDepths options.depths
  pub steps : IsFromTo 1 1000000000000 options.steps
