-- What an image promises of a typed program: in every order of steps, and at all depths that reach the image's budget, it
-- does what the program means.
use Rattle.std.specs.Prelude.{◌≡◌, ℕ, suc, ◌+◌, ◌*◌, ◌/◌, ◌^◌, ◌≤◌, List, length, slice_get, Some}
use Rattle.std.specs.List.{AllByRecursion}
use Rattle.dae_base.specs.declared.Depths.{Depths}
use Rattle.dae_base.specs.Budgets.{Reaches}
use Rattle.dae_encode.specs.declared.Halt.{Halt}
use Rattle.dae_encode.specs.declared.Halt.TheVariants.{Status, Trap}
use Rattle.dae_image.specs.declared.Image.{Image}
use Rattle.dae_machine.specs.declared.Pick.{Pick}
use Rattle.dae_machine.specs.Machine.{State, Runs, IsFinal, IsStuck}
use Rattle.dae_machine.specs.Opened.{setup_of, opened}
use Rattle.dae_machine.specs.Ends.{CanOnlyEnd, GoesOn as RunsGoOn}
use Rattle.dae_meaning.specs.Worlds.{World}
use Rattle.dae_meaning.specs.Results.{End, Halted, Trapped, Going, Astray}
use Rattle.dae_meaning.specs.Alike.{Alike}
use Rattle.dae_ir.specs.Form.{form_of}
use Rattle.dae_ir.specs.Classes.{Classes, AreAddressesClosed, classes_of}
use Rattle.dae_ir.specs.Programs.{AreClassesOf, outcome, program_of}
use Rattle.dae_ir.specs.Scope.{IsScoped}
use Rattle.dae_ir.specs.SetFirst.{IsFunctionSetFirst}
use Rattle.dae_ir.specs.Sizes.{own_loads, conditions_a}
use Rattle.dae_ir.specs.declared.form.Function.{Function}
use Rattle.dae_ir.specs.declared.form.Ir.{Ir}
use Rattle.dae_ir.specs.declared.stream.Class.{Class}
use Rattle.dae_program.specs.Outcomes.{Outcome, last_world}
use Rattle.dae_alias.specs.Laws.{Cheaper, SameResult}
use Rattle.dae_program.specs.Programs.{meaning_of, program_end, start, GoesOn}
use Rattle.dae_program.specs.declared.program.Program.{Program}
use Rattle.dae_lower_formed.specs.Formed.{IsLowered}
use Rattle.dae_lower_formed.specs.Order.{DoesTheSame, IsKeptByFewer}
use Rattle.dae_machine_rounds.specs.Promises.{DoesForm}

-- ---- every run

-- every run can only end: in one final state, after one number of steps, whatever the depths. It has the program's halt,
-- memory and output, and each run has printed a front of that
pub record OnlyEnds (image : Image) (halt : Halt) (w : World) : Type 0 where
  pub end : State
  pub picks : List Pick
  pub short : length picks ≤ 4096 * (w.items / 4 + 1)
  pub halts : end.e.halt ≡ Some halt
  pub memory : end.memory ≡ w.memory
  pub printed : end.printed ≡ w.printed
  pub runs : (depths : Depths) → Reaches depths image.budget
      → Runs (setup_of image depths) (opened image) picks end
  pub final : (depths : Depths) → Reaches depths image.budget → IsFinal (setup_of image depths) end
  pub only : (depths : Depths) → Reaches depths image.budget
      → CanOnlyEnd (setup_of image depths) (opened image) end (length picks)

-- what a program has printed
abbrev pub output : Outcome ℕ → List ℕ
output r = let w = last_world r in w.printed

-- an end that a program has
abbrev pub IsAtEnd : End → Type 0
IsAtEnd (Halted status) = Unit {0}
IsAtEnd (Trapped code) = Unit {0}
IsAtEnd Going = ⊥
IsAtEnd Astray = ⊥

-- no run reaches a stuck state; a run ends only where the program ends or traps under some bound on the turns of loops; where it
-- ends or traps under a bound, every run can only end so; where it goes on, every run goes on, and prints nothing but its output
-- so far
pub record KeepsMeaning (p : Program) (limit : ℕ) (image : Image) : Type 0 where
  pub never_stuck : (depths : Depths) → Reaches depths image.budget → (picks : List Pick) (s : State)
      → Runs (setup_of image depths) (opened image) picks s → ¬ (IsStuck (setup_of image depths) s)
  pub ends_only : (depths : Depths) → Reaches depths image.budget → (picks : List Pick) (s : State)
      → Runs (setup_of image depths) (opened image) picks s → IsFinal (setup_of image depths) s
      → (n : ℕ) × IsAtEnd (program_end (meaning_of p limit n))
  pub ends : (n status : ℕ) → program_end (meaning_of p limit n) ≡ Halted status
      → OnlyEnds image (Status status) (last_world (meaning_of p limit n))
  pub traps : (n code : ℕ) → program_end (meaning_of p limit n) ≡ Trapped code
      → OnlyEnds image (Trap code) (last_world (meaning_of p limit n))
  pub goes_on : GoesOn (meaning_of p limit) → (depths : Depths) → Reaches depths image.budget
      → RunsGoOn (setup_of image depths) (opened image) (λ n. output (meaning_of p limit n))

-- ---- from a program to an image that does its form

-- In a memory as large as the form's it ends as the form does, under each bound on turns, with the same output, memory and status,
-- the same number of stores and no more loads, and at most one item more for each load. It is as well made, and sets each variable
-- before it reads it. By its least classes no function has more loads into variables that lead to addresses, nor more conditions
-- that A decides, than by any sets of the form before that keep what leads to addresses.
pub record KeepsLowered (ir later : Ir) : Type 0 where
  pub meaning : (n : ℕ) (memory : List ℕ) → length memory ≡ ir.memory → length memory ≤ 2 ^ 32
      → Alike SameResult Cheaper (outcome ir n memory) (outcome later n memory)
  pub scoped : IsScoped later
  pub first : AllByRecursion IsFunctionSetFirst ir.functions
      → AllByRecursion IsFunctionSetFirst later.functions
  pub access : (of : ℕ → Classes) → AreAddressesClosed (program_of ir) (λ k. (of k).s)
      → (tables : List (List Class)) → AreClassesOf later tables → (k : ℕ) (f g : Function)
      → slice_get ir.functions k ≡ Some f → slice_get later.functions k ≡ Some g
      → (own_loads (classes_of tables k) (form_of g.body) ≤ own_loads (of k) (form_of f.body))
      × (conditions_a (classes_of tables k) (form_of g.body)
      ≤ conditions_a (of k) (form_of f.body))

-- A form that passes from form to form may make of another one: it has that one's memory, frames and limit on calls; it ends as
-- that one does under each bound, with no more loads, and is as well made; and its access side loads and decides no more.
pub record IsLaterForm (ir later : Ir) : Type 0 where
  pub memory : later.memory ≡ ir.memory
  pub frames : later.frames ≡ ir.frames
  pub calls : later.calls ≡ ir.calls
  pub keeps : KeepsLowered ir later

-- a later form of a program does what the program does, with no more loads than the program reads
abbrev pub LaterFormsDoPrograms : Type 0
LaterFormsDoPrograms =
    (p : Program) (ir later : Ir) → IsLowered p ir → IsLaterForm ir later → (depth : ℕ) → later.calls ≡ suc depth
    → DoesTheSame IsKeptByFewer (meaning_of p (suc depth))
    (λ n. outcome later n (let w = start p.memory p.frames p.content in w.memory))

-- an image that holds a program's data, and does a later form of the program, with 14 instructions a move, keeps its meaning
abbrev pub ImageKeepsMeaning : Type 0
ImageKeepsMeaning =
    (p : Program) (depth : ℕ) (ir later : Ir) (image : Image) → IsLowered p ir → IsLaterForm ir later
    → later.calls ≡ suc depth → image.content ≡ p.content → DoesForm later image 14
    → KeepsMeaning p (suc depth) image
