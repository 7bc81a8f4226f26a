-- What the form of a program in memory has of that memory.
use Rattle.std.specs.Prelude.{◌≤◌, ◌-◌, ◌^◌, length}
use Rattle.dae_ir.specs.declared.form.Ir.{Ir}
use Rattle.dae_program.specs.declared.program.Program.{Program}

-- at most 2^26 bytes, in which frames begin, and there is room for the program's data behind the first 16
pub record HasRoom (p : Program) (ir : Ir) : Type 0 where
  pub most : ir.memory ≤ 2 ^ 26
  pub frames : ir.frames ≤ ir.memory
  pub room : length p.content ≤ ir.memory - 16
