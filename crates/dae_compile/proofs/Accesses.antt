-- The form of an accepted program keeps the bounds on what its access side loads and decides.
use Rattle.std.proofs.Common.{◌≡◌, ℕ, zero, suc, ◌+◌, ◌≤◌, List, [], ◌∷◌, length, Option, Some, sym, ap, ◌∙◌, subst, arith}
use Rattle.std.proofs.lemmas.Option.{same_Some}
use Rattle.std.specs.Prelude.{slice_get}
use Rattle.std.specs.List.{AllByRecursion}
use Rattle.dae_image.specs.declared.Image.{Image}
use Rattle.dae_ir.specs.declared.form.Ir.{Ir}
use Rattle.dae_ir.specs.Programs.{outcome}
use Rattle.dae_program.specs.declared.program.Function.{Function}
use Rattle.dae_program.specs.declared.program.Program.{Program}
use Rattle.dae_program.specs.Programs.{meaning_of, program_of, start}
use Rattle.dae_program.specs.Resolved.{function_in}
use Rattle.dae_lower_bounds.specs.Bounds.{SetsBounded}
use Rattle.dae_lower_bounds.specs.Constants.{InitialisesConstants}
use Rattle.dae_lower_bounds.specs.Voids.{void_statements, void_tests}
use Rattle.dae_lower_formed.specs.Formed.{plain}
use Rattle.dae_lower_formed.specs.Order.{DoesTheSame, IsKeptByFewer}
use Rattle.dae_lower_formed.proofs.Laws.{form_there}
use Rattle.dae_compile_promise.specs.Promises.{LaterFormsDoPrograms}
use Rattle.dae_sizes.specs.Constants.{IsConstantFunction, FunctionsInitialiseConstants}
use Rattle.dae_sizes.specs.Tests.{TestsValues, FunctionsTestValues}
use Rattle.dae_accept.specs.Origins.{IsOfFiles}
use Rattle.dae_compile.specs.Accesses.{KeepsAccesses}
use Rattle.dae_compile.specs.Compiled.{IsCompiledFrom, IsFinalForm}

does_the_same : LaterFormsDoPrograms → (p : Program) (ir : Ir) (calls : ℕ) → IsFinalForm p calls ir → 1 ≤ calls
    → DoesTheSame IsKeptByFewer (meaning_of p calls) (λ n. outcome ir n (let w = start p.memory p.frames p.content in w.memory))
does_the_same law p ir zero of some = absurd (omega (arith, some))
does_the_same law p ir (suc depth) of some = law p of.first ir of.lowered of.later depth of.depth

constant : (p : Program) (fs : List Function) → AllByRecursion IsConstantFunction fs
    → AllByRecursion (λ (f : Function). InitialisesConstants (let g = plain p f in g.body)) fs
constant p fs h = h

at_most : (a b c : ℕ) → a ≤ b → b ≤ c → a ≤ c
at_most a b c h k = omega (arith, h, k)

-- no function tests what has no value
tested_at : (fs : List Function) (k : ℕ) (f : Function) → AllByRecursion TestsValues fs → slice_get fs k ≡ Some f → TestsValues f
tested_at [] k f h e = absurd cc
tested_at (g ∷ fs) zero f h e = subst TestsValues (same_Some g f e) h.0
tested_at (g ∷ fs) (suc k) f h e = tested_at fs k f h.1 e

no_void_tests : (p : Program) (calls k : ℕ) (f : Function) → AllByRecursion TestsValues p.functions → slice_get p.functions k ≡ Some f → void_tests (program_of p calls) k ≡ 0
no_void_tests p calls k f h e =
    ap (λ (o : Option Function). void_statements (let g = function_in (length p.functions) p.links o in g.body)) e ∙ tested_at p.functions k f h e

within_sum : (a b c d : ℕ) → a ≤ b → b ≤ c + d → d ≡ 0 → a ≤ c
within_sum a b c d h k e = omega (arith, h, k, e)

pub keeps_accesses : SetsBounded → LaterFormsDoPrograms → FunctionsInitialiseConstants → FunctionsTestValues
    → (texts : List (List ℕ)) (p : Program) (calls cap : ℕ) (image : Image) → 1 ≤ calls → IsOfFiles texts p
    → (made : IsCompiledFrom p calls cap image) → KeepsAccesses p calls made.form
keeps_accesses bounded same constants tests texts p calls cap image some o made =
    let ir = made.form in
    let of = made.final in
    let lowered = of.lowered in
    let form = lowered.form in
    let first = of.first in
    let tested = subst (AllByRecursion TestsValues) (sym o.functions) (tests o.files o.typed o.from) in
    let all = constant p p.functions (subst (AllByRecursion IsConstantFunction) (sym o.functions) (constants o.files o.typed o.from)) in
    let later = of.later in
    let kept = later.keeps in
    record {
      same = does_the_same same p ir calls of some;
      loads = λ wants keep tables classes k f g is made'.
          (let sets = bounded p first lowered all calls wants keep in
          let found = form_there p 0 p.functions first.functions form.functions k f is in
          at_most _ _ _ (kept.access sets.of sets.closed tables classes k found.0 g found.1 made').0 (sets.loads k f found.0 is found.1));
      decides = λ wants keep tables classes k f g is made'.
          (let sets = bounded p first lowered all calls wants keep in
          let found = form_there p 0 p.functions first.functions form.functions k f is in
          within_sum _ _ _ _ (kept.access sets.of sets.closed tables classes k found.0 g found.1 made').1 (sets.decides k f found.0 is found.1) (no_void_tests p calls k f tested is));
    }
