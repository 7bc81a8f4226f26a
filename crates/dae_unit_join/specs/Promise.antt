-- What typed files join to is a lawful program, and files that join have functions with the parameters of their types.
use Rattle.std.specs.Prelude.{◌≡◌, ℕ, ◌≤◌, ◌^◌, true, List}
use Rattle.std.specs.List.{AllByRecursion}
use Rattle.dae_program.specs.declared.program.Program.{Program}
use Rattle.dae_program.specs.Lawful.{is_lawful}
use Rattle.dae_types_typed.specs.declared.files.FileParts.{FileParts}
use Rattle.dae_types_typed.specs.Sound.{IsSound}
use Rattle.dae_unit.specs.Parameters.{HasParameters}
use Rattle.dae_unit_join.specs.declared.parts.ProgramParts.{ProgramParts}
use Rattle.dae_unit_join.specs.Joined.{Joins}

abbrev pub IsLawful : (memory : ℕ) → ProgramParts → Type 0
IsLawful memory p = is_lawful memory p.frames p.content p.links p.functions p.main ≡ true

-- whatever files without a broken rule join to
abbrev pub JoinedIsLawful : Type 0
JoinedIsLawful =
    (files : List FileParts) (memory : ℕ) (p : ProgramParts) →
    AllByRecursion IsSound files → memory ≤ 2 ^ 26 → Joins files memory p → IsLawful memory p

-- each function of a file has the parameters of its type
abbrev pub HaveParameters : FileParts → Type 0
HaveParameters file = AllByRecursion (HasParameters file) file.functions

-- in files without a broken rule, where they join
abbrev pub JoinedHaveParameters : Type 0
JoinedHaveParameters =
    (files : List FileParts) (memory : ℕ) (p : ProgramParts) →
    AllByRecursion IsSound files → memory ≤ 2 ^ 26 → Joins files memory p → AllByRecursion HaveParameters files

-- a program, but for the size of its memory
abbrev pub parts_of : Program → ProgramParts
parts_of p = record { content = p.content; frames = p.frames; links = p.links; functions = p.functions; main = p.main }

-- in a memory of so many bytes that is the program of these files
pub record IsJoinedTo (files : List FileParts) (memory : ℕ) (p : Program) : Type 0 where
  pub size : p.memory ≡ memory
  pub parts : Joins files memory (parts_of p)
