-- The form of a program keeps its meaning.
use Rattle.std.specs.Prelude.{◌≡◌, ◌≢◌, ℕ, suc, ◌+◌, ◌*◌, ◌≤◌, true, false, [], length, slice_get, Option, Some, None}
use Rattle.dae_base.specs.declared.Place.{Place}
use Rattle.dae_meaning.specs.Worlds.{World}
use Rattle.dae_meaning.specs.Results.{Result, End, Halted, Trapped, Going, Astray, world_of}
use Rattle.dae_meaning.specs.Alike.{IsFront}
use Rattle.dae_meaning.specs.Variables.{Env}
use Rattle.dae_ir.specs.Form.{calls_of, all_loads}
use Rattle.dae_ir.specs.Programs.{end_of}
use Rattle.dae_ir.specs.Scope.{closes}
use Rattle.dae_program.specs.Calls.{call}
use Rattle.dae_program.specs.Outcomes.{Outcome, last_world}
use Rattle.dae_program.specs.Placed.{KeepsFrames, IsBegin}
use Rattle.dae_program.specs.Printing.{most_bytes}
use Rattle.dae_program.specs.declared.program.Function.{Function}
use Rattle.dae_program.specs.declared.program.Program.{Program}
use Rattle.dae_program.specs.Lawful.{is_lawful}
use Rattle.dae_program.specs.Programs.{run, program_end, program_of, variables_of, meaning_of, start}
use Rattle.dae_program.specs.Scope.{KeepsScope}
use Rattle.dae_program.specs.Trees as tree
use Rattle.dae_lower.specs.Lowering.{program_form}

-- what is kept of a program's run in its form's: the end, memory, output, reads and writes. Its items and loads together
-- are at most 9 for each unit of work
pub record IsKept (r : Outcome ℕ) (q : Result Env) : Type 0 where
  pub end : end_of q ≡ program_end r
  pub memory : (world_of q).memory ≡ (last_world r).memory
  pub printed : (world_of q).printed ≡ (last_world r).printed
  pub loads : (world_of q).loads ≡ (last_world r).loads
  pub stores : (world_of q).stores ≡ (last_world r).stores
  pub items : (world_of q).items + (world_of q).loads ≤ 9 * (last_world r).items

-- with no item executed
abbrev pub with_no_items : World → World
with_no_items w = record w { items = 0 }

-- what the form of a program does, where main is called in a world
abbrev pub form_run : tree.Program → (ℕ → Place) → (ℕ → ℕ) → (main : ℕ) → World → ℕ → Result Env
form_run p place variables main w n =
    calls_of (program_form p place variables main) all_loads n p.limit main [] (with_no_items w)

-- for each world in which no load is counted yet, and each bound n on the turns of loops from some number on; the program
-- leaves out the test of the turn that can't begin
abbrev pub FormKeeps : Type 0
FormKeeps =
    (p : tree.Program) (place : ℕ → Place) (variables : ℕ → ℕ) (main : ℕ) → KeepsScope p variables main →
    (depth : ℕ) → p.limit ≡ suc depth → (w : World) → IsBegin w → w.loads ≡ 0 →
    (n : ℕ) → most_bytes ≤ n → IsKept (call p false n p.limit main [] w) (form_run p place variables main w n)

abbrev pub IsOver : End → Type 0
IsOver (Halted status) = Unit {0}
IsOver (Trapped code) = Unit {0}
IsOver Astray = Unit {0}
IsOver Going = ⊥

-- what a program does with n turns, and what its form does
pub record MeaningIsKept (program : ℕ → Outcome ℕ) (form : ℕ → Result Env) : Type 0 where
  pub ends : (n : ℕ) → IsOver (program_end (program n)) → (m : ℕ) × IsKept (program n) (form m)
  pub ends_only : (m : ℕ) → most_bytes ≤ m → IsOver (end_of (form m)) → IsKept (program m) (form m)
  pub prints : (n : ℕ) → (m : ℕ) × IsFront (last_world (program n)).printed (world_of (form m)).printed
  pub prints_only : (m : ℕ) → most_bytes ≤ m → IsFront (world_of (form m)).printed (last_world (program m)).printed

-- of each program with its form
abbrev pub MeaningKept : Type 0
MeaningKept =
    (p : tree.Program) (place : ℕ → Place) (variables : ℕ → ℕ) (main : ℕ) → KeepsScope p variables main →
    (depth : ℕ) → p.limit ≡ suc depth → (w : World) → IsBegin w → w.loads ≡ 0 →
    MeaningIsKept (λ n. run p n main w) (form_run p place variables main w)

-- The form of a program whose objects by name lie in memory makes no access that isn't good and isn't checked, and no call
-- that has no room and isn't checked: under no bound on turns
abbrev pub FormsNeverStray : Type 0
FormsNeverStray =
    (p : tree.Program) (place : ℕ → Place) (variables : ℕ → ℕ) (main : ℕ) → KeepsScope p variables main →
    (depth : ℕ) → p.limit ≡ suc depth → (w : World) → IsBegin w → w.loads ≡ 0 → KeepsFrames (length w.memory) p →
    (n : ℕ) → end_of (form_run p place variables main w n) ≢ Astray

-- no code of a form falls off its end
abbrev pub FormsClose : Type 0
FormsClose =
    (p : tree.Program) (place : ℕ → Place) (variables : ℕ → ℕ) (main f : ℕ) →
    closes (let q = program_form p place variables main in q.body f) ≡ true

-- ---- programs in memory

abbrev pub place_in : Option Function → Place
place_in None = record { file = 0; line = 0; col = 0 }
place_in (Some f) = f.place

-- what the form of a program in memory does, with a limit on calls inside one another
abbrev pub form_run_of : Program → (limit n : ℕ) → Result Env
form_run_of p limit n =
    form_run (program_of p limit) (λ f. place_in (slice_get p.functions f)) (variables_of p) p.main (start p.memory p.frames p.content) n

pub record ProgramKept (p : Program) (limit : ℕ) : Type 0 where
  pub meaning : MeaningIsKept (meaning_of p limit) (form_run_of p limit)
  pub stays : (n : ℕ) → end_of (form_run_of p limit n) ≢ Astray

-- each program in memory keeps its meaning, and its form never goes astray
abbrev pub ProgramsKept : Type 0
ProgramsKept = (p : Program) (depth : ℕ) → is_lawful p.memory p.frames p.content p.links p.functions p.main ≡ true → ProgramKept p (suc depth)
