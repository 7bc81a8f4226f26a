-- A final form fits a machine, and its image keeps the program's meaning and is compiled from it.
use Rattle.std.proofs.Common.{◌≡◌, ℕ, zero, suc, ◌%◌, ◌^◌, ◌<◌, ◌≤◌, List, length, arith, ◌∙◌}
use Rattle.std.specs.Prelude.{IsTrue, IfErr, IfOk, Result, Ok, Err}
use Rattle.std.specs.List.{All, list_all}
use Rattle.dae_image.specs.declared.Image.{Image}
use Rattle.dae_image.specs.Contents.{is_name}
use Rattle.dae_ir.specs.declared.form.Ir.{Ir}
use Rattle.dae_machine_rounds.specs.Promises.{DoesForm}
use Rattle.dae_link.specs.declared.error.CodeError.{CodeError}
use Rattle.dae_link.specs.declared.error.CodeError.TheVariants as errors
use Rattle.dae_program.specs.declared.program.Program.{Program}
use Rattle.dae_lower_programs.specs.Lowered.{HasRoom}
use Rattle.dae_link.specs.Linked.{IsCompiledOf}
use Rattle.dae_report.specs.Reports.{IsReportOf}
use Rattle.dae_compile.specs.declared.generating.Compiled.{Compiled}
use Rattle.dae_compile.specs.Generated.{FitsMachine, HasFramesWithin, IsShort, NeedsTooMuch, words_of_form}
use Rattle.dae_compile_promise.specs.Promises.{IsLaterForm, KeepsMeaning, ImageKeepsMeaning}
use Rattle.dae_compile.specs.Compiled.{AreCompiledFrom, IsFinalForm, HasTooMuchPrivate, HasTooMuchCode}

pub room_later : (p : Program) (first ir : Ir) → IsLaterForm first ir → HasRoom p first → HasRoom p ir
room_later p first ir later has = record { most = rw later.memory has.most; frames = rw (later.memory, later.frames) has.frames; room = rw later.memory has.room }

pub fits : (p : Program) (calls : ℕ) (ir : Ir) (content : List ℕ) (names : List (List ℕ)) → content ≡ p.content
    → IsFinalForm p calls ir → HasRoom p ir → 64 ≤ p.memory → p.memory % 16 ≡ 0 → 1 ≤ calls → calls ≤ 4096
    → All (λ b. b < 256) content → length names ≤ 1024 → IsTrue (list_all is_name names) → FitsMachine ir content names
fits p calls ir content names same of has least aligned some few bytes files named =
    let lowered = of.lowered in
    let form = lowered.form in
    let later = of.later in
    let memory : ir.memory ≡ p.memory = later.memory ∙ form.memory in
    record {
      least = rw memory least;
      most = has.most;
      aligned = rw memory aligned;
      frames = has.frames;
      some = rw of.depth some;
      few = rw of.depth few;
      room = rw same has.room;
      bytes = bytes;
      files = files;
      named = named;
    }

keeps : (p : Program) (calls : ℕ) (ir : Ir) (image : Image) → ImageKeepsMeaning → 1 ≤ calls → IsFinalForm p calls ir
    → image.content ≡ p.content → DoesForm ir image 14 → KeepsMeaning p calls image
keeps p zero ir image law some of content does = absurd (omega (arith, some))
keeps p (suc depth) ir image law some of content does = law p depth of.first ir image of.lowered of.later of.depth content does

pub keeps_if : (p : Program) (calls : ℕ) (ir : Ir) (result : Result Compiled CodeError) → ImageKeepsMeaning → 1 ≤ calls → IsFinalForm p calls ir
    → IfOk result (λ c. c.image.content ≡ p.content) → IfOk result (λ c. DoesForm ir c.image 14) → IfOk result (λ c. KeepsMeaning p calls c.image)
keeps_if p calls ir (Ok c) law some of is does = keeps p calls ir c.image law some of is does
keeps_if p calls ir (Err e) law some of is does = tt

pub compiled_if : (p : Program) (calls cap : ℕ) (ir : Ir) (result : Result Compiled CodeError) → IsFinalForm p calls ir
    → IfOk result (λ c. IsCompiledOf ir cap c.image) → IfOk result (λ c. IsReportOf ir c.report) → IfOk result (λ c. DoesForm ir c.image 14) → IfOk result (λ c. c.image.content ≡ p.content)
    → IfOk result (λ c. IsShort ir c.image) → IfOk result (λ c. HasFramesWithin ir c.image) → IfOk result (AreCompiledFrom p calls cap)
compiled_if p calls cap ir (Ok c) of compiled report does content short frames =
    record { image = record { form = ir; final = of; compiled = compiled; does = does; content = content; short = short; frames = frames }; report = report }
compiled_if p calls cap ir (Err e) of compiled report does content short frames = tt

pub long_if : (p : Program) (calls : ℕ) (ir : Ir) (result : Result Compiled CodeError) → IsFinalForm p calls ir → IfErr result (λ e. e ≡ errors.Code → 2 ^ 25 < words_of_form ir)
    → IfErr result (λ e. e ≡ errors.Code → HasTooMuchCode p calls)
long_if p calls ir (Ok c) of h = tt
long_if p calls ir (Err e) of h = λ code. record { form = ir; final = of; long = h code }

pub deep_if : (p : Program) (calls : ℕ) (ir : Ir) (result : Result Compiled CodeError) → IsFinalForm p calls ir
    → IfErr result (λ e. e ≡ errors.Private → NeedsTooMuch ir) → IfErr result (λ e. e ≡ errors.Private → HasTooMuchPrivate p calls)
deep_if p calls ir (Ok c) of h = tt
deep_if p calls ir (Err e) of h = λ private'. record { form = ir; final = of; needs = h private' }
