-- What an image is that is compiled from a program, and what a program is that has none.
use Rattle.std.specs.Prelude.{◌≡◌, ℕ, ◌+◌, ◌-◌, ◌*◌, ◌^◌, ◌<◌}
use Rattle.std.specs.List.{AllByRecursion}
use Rattle.dae_alias.specs.Stretches.{HasNoSecond}
use Rattle.dae_image.specs.declared.Image.{Image}
use Rattle.dae_ir.specs.Form.{form_of}
use Rattle.dae_ir.specs.declared.form.Function.{Function}
use Rattle.dae_ir.specs.declared.form.Ir.{Ir}
use Rattle.dae_machine_rounds.specs.Promises.{DoesForm}
use Rattle.dae_program.specs.declared.program.Program.{Program}
use Rattle.dae_lower_formed.specs.Code.{loads_in}
use Rattle.dae_lower_formed.specs.Formed.{IsLowered}
use Rattle.dae_link.specs.Linked.{IsCompiledOf}
use Rattle.dae_report.specs.Reports.{IsReportOf}
use Rattle.dae_compile_promise.specs.Promises.{IsLaterForm}
use Rattle.dae_compile.specs.Generated.{HasFramesWithin, IsShort, NeedsTooMuch, words_of_form}
use Rattle.dae_compile.specs.declared.generating.Compiled.{Compiled}
use Rattle.dae_compile.specs.Sizes.{AreSmallBy}

-- words number the variables of a function, one more for every second one beyond 9, and one for each load
abbrev pub LeavesNumbers : Function → Type 0
LeavesNumbers f =
    2 * f.variables + (f.variables - 9) + 2 * loads_in (form_of f.body) < 2 ^ 33

-- and so those of each function of its lowered form
abbrev pub HasFewVariables : Program → Type 0
HasFewVariables p = (first : Ir) → IsLowered p first → AllByRecursion LeavesNumbers first.functions

-- A form of a program, under a limit on calls: it is the lowered form, or one that passes made of it. It means what the lowered
-- form means, and is little larger. No stretch of it holds two loads of one kind from one symbolic address, where each store
-- between them is apart from that address.
pub record IsFinalForm (p : Program) (calls : ℕ) (form : Ir) : Type 0 where
  pub first : Ir
  pub lowered : IsLowered p first
  pub later : IsLaterForm first form
  pub small : AreSmallBy first.functions form.functions
  pub no_second : AllByRecursion (λ (g : Function). HasNoSecond (form_of g.body)) form.functions
  pub depth : form.calls ≡ calls

-- It has the program's data, memory and limit on calls, and is compiled of a final form of the program, where a group holds at
-- most cap loads for E and as many copies. The image does the form in every order of steps, with at most 14 instructions a
-- move; for each bound under which the form goes on there is a run in canonical order that has printed what the form has.
-- The form bounds its code and its private memories.
pub record IsCompiledFrom (p : Program) (calls cap : ℕ) (image : Image) : Type 0 where
  pub form : Ir
  pub final : IsFinalForm p calls form
  pub compiled : IsCompiledOf form cap image
  pub does : DoesForm form image 14
  pub content : image.content ≡ p.content
  pub short : IsShort form image
  pub frames : HasFramesWithin form image

-- an image that is compiled from a program, and the report of the same form
pub record AreCompiledFrom (p : Program) (calls cap : ℕ) (c : Compiled) : Type 0 where
  pub image : IsCompiledFrom p calls cap c.image
  pub report : IsReportOf image.form c.report

-- what bounds the code of its form is larger than an image's code may be
pub record HasTooMuchCode (p : Program) (calls : ℕ) : Type 0 where
  pub form : Ir
  pub final : IsFinalForm p calls form
  pub long : 2 ^ 25 < words_of_form form

-- frames for all variables of its form need more private memory than an image may have
pub record HasTooMuchPrivate (p : Program) (calls : ℕ) : Type 0 where
  pub form : Ir
  pub final : IsFinalForm p calls form
  pub needs : NeedsTooMuch form
