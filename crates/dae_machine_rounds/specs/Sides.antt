-- What it is that code does a side of a pair.
use Rattle.std.specs.Prelude.{◌≡◌, ℕ, ◌≤◌, ◌*◌, Bool, List, Some}
use Rattle.std.specs.List.{AllByRecursion}
use Rattle.dae_encode.specs.declared.Halt.{Halt}
use Rattle.dae_encode.specs.declared.Halt.TheVariants.{Plain, Status, Trap}
use Rattle.dae_encode.specs.Processor.{Processor}
use Rattle.dae_machine.specs.Machine.{Setup}
use Rattle.dae_machine.specs.Walks.{Walks}
use Rattle.dae_ir.specs.Form.{Program}
use Rattle.dae_ir.specs.Streams.{Actions}
use Rattle.dae_ir.specs.Programs.{side}
use Rattle.dae_ir.specs.Deeds.{Quit, Plainly, WithStatus, WithTrap}
use Rattle.dae_machine.specs.Uses.{Use, PushesWord}
use Rattle.dae_machine_rounds.specs.Follows.{IsFit}
use Rattle.dae_machine_rounds.specs.Spots.{weight, Spot, Came, Arrives, Halted, Moves}

abbrev pub halt_of : Quit → Halt
halt_of Plainly = Plain
halt_of (WithStatus n) = Status n
halt_of (WithTrap n) = Trap n

-- the processor agrees with the spot, or has halted so
abbrev pub Agrees : (Spot → Processor → Type 0) → Came → Processor → Type 0
Agrees At (Arrives s) p = At s p
Agrees At (Halted quit) p = p.halt ≡ Some (halt_of quit)

-- at least and at most so many instructions lead to a processor that agrees
pub record SideWalked (setup : Setup) (by_a : Bool) (At : Spot → Processor → Type 0) (least most : ℕ) (p : Processor) (uses : List Use) (c : Came) : Type 0 where
  pub after : Processor
  pub steps : ℕ
  pub walks : Walks setup (side by_a) p uses steps after
  pub agrees : Agrees At c after
  pub some : least ≤ steps
  pub few : steps ≤ most
  pub words : AllByRecursion PushesWord uses

-- the side's code does its stream: from each processor that agrees with a spot each move is a walk, of so many instructions
-- at most for each unit of its weight
pub record Implements (setup : Setup) (p : Program) (by_a : Bool) (body : ℕ → Actions) (most : ℕ) (At : Spot → Processor → Type 0) : Type 0 where
  pub moves : {n : ℕ} {s : Spot} {uses : List Use} {c : Came} (q : Processor) → At s q → Moves p by_a setup.memory body n s uses c
      → AllByRecursion (IsFit setup.memory) uses → SideWalked setup by_a At n (most * weight s) q uses c
