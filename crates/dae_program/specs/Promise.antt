-- What a program in memory promises.
use Rattle.std.specs.Prelude.{◌≡◌, ◌≢◌, ℕ, Bool, true, [], length}
use Rattle.dae_meaning.specs.Worlds.{World}
use Rattle.dae_meaning.specs.Results.{Astray}
use Rattle.dae_program.specs.declared.program.Program.{Program}
use Rattle.dae_program.specs.Calls.{call}
use Rattle.dae_program.specs.Lawful.{is_lawful}
use Rattle.dae_program.specs.Placed.{KeepsFrames, IsBegin}
use Rattle.dae_program.specs.Programs.{program_of, variables_of, meaning_of, program_end, start}
use Rattle.dae_program.specs.Scope.{KeepsScope}
use Rattle.dae_program.specs.Trees as tree

-- its variables, numbers and calls keep to the rules, its objects by name lie in memory, and it begins with room
pub record KeepsRules (p : Program) (limit : ℕ) : Type 0 where
  pub scope : KeepsScope (program_of p limit) (variables_of p) p.main
  pub frames : KeepsFrames p.memory (program_of p limit)
  pub begins : IsBegin (start p.memory p.frames p.content)
  pub memory : length (let w = start p.memory p.frames p.content in w.memory) ≡ p.memory

abbrev pub LawfulKeepRules : Type 0
LawfulKeepRules = (p : Program) (limit : ℕ) → is_lawful p.memory p.frames p.content p.links p.functions p.main ≡ true → KeepsRules p limit

-- where objects by name lie in memory, no access goes astray that isn't checked, and no call either
abbrev pub NamedNeverStray : Type 0
NamedNeverStray =
    (p : tree.Program) (last : Bool) (n main : ℕ) (w : World) → KeepsFrames (length w.memory) p → IsBegin w →
    program_end (call p last n p.limit main [] w) ≢ Astray

-- so no program in memory does
abbrev pub NeverStrays : Type 0
NeverStrays = (p : Program) (limit n : ℕ) → is_lawful p.memory p.frames p.content p.links p.functions p.main ≡ true → program_end (meaning_of p limit n) ≢ Astray
