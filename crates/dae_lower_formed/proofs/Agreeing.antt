-- A form of a program does what the definition's form does, function by function. The two differ where there is no function,
-- which nobody calls.
use Rattle.std.proofs.Common.{◌≡◌, ℕ, zero, suc, ◌+◌, Bool, true, nat_eq, if◌then◌else◌, List, [], length, Option, Some, None, refl, ap, sym, ◌∙◌, subst}
use Rattle.std.specs.Prelude.{slice_get}
use Rattle.dae_base.proofs.Laws.{all_at}
use Rattle.dae_meaning.specs.Worlds.{World, ticked}
use Rattle.dae_meaning.specs.Variables.{Env, put, entered}
use Rattle.dae_meaning.specs.Results.{Result, Run, ◌▷◌, turns, within, checked}
use Rattle.dae_ir.specs.Code.{Done, Do, If, Loop, Each, exec, CodeMeaning}
use Rattle.dae_ir.specs.Form.{Form, Program as FormProgram, Calls, does, meaning, calls_of, all_loads, fault, values, holds, called, ended, deeper}
use Rattle.dae_ir.specs.Scope.{ItemIn, TestIn, TakesArguments, FunctionIn, IsMain, IsScoped}
use Rattle.dae_ir.specs.Programs.{body_in, frame_in, outcome}
use Rattle.dae_ir.specs.declared.form.Function.{Function as FormFunction}
use Rattle.dae_ir.specs.declared.form.Ir.{Ir}
use Rattle.dae_ir.specs.declared.form.Check.{Check}
use Rattle.dae_ir.specs.declared.form.Check.TheVariants.{Room}
use Rattle.dae_ir.specs.declared.form.Item.{Item}
use Rattle.dae_ir.specs.declared.form.Test.{Test}
use Rattle.dae_ir.specs.declared.form.Item.TheVariants.{Assign, Load, Store, Print, Expect, Break, Continue, Call, Return, Halt}
use Rattle.dae_ir.specs.declared.form.Check.TheVariants as check
use Rattle.dae_program.specs.declared.program.Function.{Function}
use Rattle.dae_program.specs.declared.program.Program.{Program}
use Rattle.dae_program.specs.Programs.{variables_of, meaning_of, start}
use Rattle.dae_program.specs.Resolved.{function_in, variables_in}
use Rattle.dae_lower.specs.Keeping.{IsKept, form_run_of, place_in}
use Rattle.dae_lower.specs.Lowering.{function_code}
use Rattle.dae_lower_formed.specs.Formed.{IsFunctionFormOf, IsLowered, FormsScoped}
use Rattle.dae_lower_formed.specs.Order.{DoesTheSame, FormsDoPrograms, LoweredDoPrograms}
use Rattle.dae_lower_formed.proofs.Programs.{form_there, function_there, number_is}

abbrev IsThere : List FormFunction → ℕ → Type 0
IsThere functions f = (g : FormFunction) × (slice_get functions f ≡ Some g)

takes_one : (functions : List FormFunction) (f arguments : ℕ) → TakesArguments (slice_get functions f) arguments → IsThere functions f
takes_one functions f arguments h = by (slice_get functions f) refl h where
  by : (o : Option FormFunction) → slice_get functions f ≡ o → TakesArguments o arguments → IsThere functions f
  by None e h = absurd h
  by (Some g) e h = (g, e)

abbrev then_run : Run Env → Run Env → Run Env
then_run a c e w = a e w ▷ c

abbrev then_branch : (Env → Bool) → Run Env → Run Env → Run Env → Run Env
then_branch t a c f e w = (if t e then a e (ticked w) else c e (ticked w)) ▷ f

abbrev then_turns : ℕ → Run Env → Run Env → Run Env → Run Env
then_turns n a c f e w = turns a c n e w ▷ f

one_after : {a b c d : Run Env} → a ≡ b → c ≡ d → then_run a c ≡ then_run b d
one_after {a} {b} {c} {d} h g = ap (λ (a : Run Env). then_run a c) h ∙ ap (λ (c : Run Env). then_run b c) g

branched : {a b c d f g : Run Env} (t : Env → Bool) → a ≡ b → c ≡ d → f ≡ g → then_branch t a c f ≡ then_branch t b d g
branched {a} {b} {c} {d} {f} {g} t h i j =
    ap (λ (a : Run Env). then_branch t a c f) h ∙ ap (λ (c : Run Env). then_branch t b c f) i ∙ ap (λ (f : Run Env). then_branch t b d f) j

looped : {a b c d f g : Run Env} (n : ℕ) → a ≡ b → c ≡ d → f ≡ g → then_turns n a c f ≡ then_turns n b d g
looped {a} {b} {c} {d} {f} {g} n h i j =
    ap (λ (a : Run Env). then_turns n a c f) h ∙ ap (λ (c : Run Env). then_turns n b c f) i ∙ ap (λ (f : Run Env). then_turns n b d f) j

-- two programs with the same frames and the same limit, whose calls of functions that are there are the same
module _ (functions : List FormFunction) (b c : ℕ → Form) (frame : ℕ → ℕ) (limit : ℕ) where
  abbrev one_form : FormProgram
  one_form = record { body = b; frame = frame; limit = limit }

  abbrev other_form : FormProgram
  other_form = record { body = c; frame = frame; limit = limit }

  same_faults : (k : Check) (w : World) (env : Env) → fault one_form k w env ≡ fault other_form k w env
  same_faults (check.Place width x) w env = refl
  same_faults (check.InBounds x offset) w env = refl
  same_faults (check.Zero x) w env = refl
  same_faults (check.Room f) w env = refl
  same_faults check.Frame w env = refl
  same_faults check.Abort w env = refl

  module _ (counted : ℕ → Bool) (d e : Calls) (agree : (f : ℕ) → IsThere functions f → (xs : List ℕ) (w : World) → d f xs w ≡ e f xs w) where
    same_does : (n : ℕ) (item : Item) → ItemIn functions n item → (env : Env) (w : World) → does one_form counted d item env w ≡ does other_form counted e item env w
    same_does n (Assign v x) h env w = refl
    same_does n (Load v kind x) h env w = refl
    same_does n (Store width x y) h env w = refl
    same_does n (Print spelling x) h env w = refl
    same_does n (Expect k) h env w = ap (λ (o : Option ℕ). checked o env (ticked w)) (same_faults k w env)
    same_does n Break h env w = refl
    same_does n Continue h env w = refl
    same_does n (Call v f xs) h env w =
        ap (λ (r : Result Env). within (fault one_form (Room f) w env) w (ended (λ (e : Env). put true v (e 0) env) w r)) (agree f (takes_one functions f (length xs) h.1) (values xs env) (called xs w))
    same_does n (Return x) h env w = refl
    same_does n (Halt x) h env w = refl

    abbrev one_meaning : CodeMeaning Item Test Env
    one_meaning = meaning one_form counted d

    abbrev other_meaning : CodeMeaning Item Test Env
    other_meaning = meaning other_form counted e

    same_exec : (n k : ℕ) (code : Form) → Each (ItemIn functions n) (TestIn n) code → exec one_meaning k code ≡ exec other_meaning k code
    same_exec n k Done h = refl
    same_exec n k (Do mark item rest) h = one_after (λ i env w. same_does n item h.0 env w i) (same_exec n k rest h.1)
    same_exec n k (If mark t p q rest) h = branched (λ env. holds t env) (same_exec n k p h.1) (same_exec n k q h.2) (same_exec n k rest h.3)
    same_exec n k (Loop mark body step rest) h = looped k (same_exec n k body h.0) (same_exec n k step h.1) (same_exec n k rest h.2)

  -- the same calls, where the bodies of functions that are there are the same
  same_calls : (counted : ℕ → ℕ → Bool) (names : (f : ℕ) → IsThere functions f → (m : ℕ) × Each (ItemIn functions m) (TestIn m) (b f)) (bodies : (f : ℕ) → IsThere functions f → b f ≡ c f) →
      (n depth f : ℕ) → IsThere functions f → (xs : List ℕ) (w : World) → calls_of one_form counted n depth f xs w ≡ calls_of other_form counted n depth f xs w
  same_calls counted names bodies n zero f t xs w = refl
  same_calls counted names bodies n (suc depth) f t xs w =
      ap (λ (r : Run Env). r (entered (λ _. true) 1 xs) (deeper one_form f w))
      (same_exec (counted f) (calls_of one_form counted n depth) (calls_of other_form counted n depth) (same_calls counted names bodies n depth) (names f t).0 n (b f) (names f t).1
      ∙ ap (λ (code : Form). exec (meaning other_form (counted f) (calls_of other_form counted n depth)) n code) (bodies f t))

-- ---- the form of a program

module _ (p : Program) (ir : Ir) (low : IsLowered p ir) (scoped : IsScoped ir) where
  forms : (k : ℕ) (f : Function) → slice_get p.functions k ≡ Some f → (g : FormFunction) × (slice_get ir.functions k ≡ Some g) × IsFunctionFormOf p (0 + k) f g
  forms k f e = form_there p 0 p.functions ir.functions (let h = low.form in h.functions) k f e

  function_of : (k : ℕ) (g : FormFunction) → slice_get ir.functions k ≡ Some g → (f : Function) × (slice_get p.functions k ≡ Some f) × IsFunctionFormOf p (0 + k) f g
  function_of k g e = function_there p 0 p.functions ir.functions (let h = low.form in h.functions) k g e

  abbrev definition_body : ℕ → Form
  definition_body f = function_code (place_in (slice_get p.functions f)) (nat_eq f p.main) (function_in (length p.functions) p.links (slice_get p.functions f)) (variables_of p f)

  abbrev form_frame : ℕ → ℕ
  form_frame f = frame_in (slice_get ir.functions f)

  abbrev definition_frame : ℕ → ℕ
  definition_frame f = let g = function_in (length p.functions) p.links (slice_get p.functions f) in g.frame

  bodies : (k : ℕ) → IsThere ir.functions k → body_in (slice_get ir.functions k) ≡ definition_body k
  bodies k t =
      let found = function_of k t.0 t.1 in
      let form = number_is p k found.0 t.0 found.2 in
      ap body_in t.1 ∙ form.body ∙ sym (ap (λ (o : Option Function). function_code (place_in o) (nat_eq k p.main) (function_in (length p.functions) p.links o) (variables_in o)) found.1)

  frames : (k : ℕ) → form_frame k ≡ definition_frame k
  frames k = by (slice_get ir.functions k) refl (slice_get p.functions k) refl where
    by : (o : Option FormFunction) → slice_get ir.functions k ≡ o → (q : Option Function) → slice_get p.functions k ≡ q → frame_in o ≡ (let g = function_in (length p.functions) p.links q in g.frame)
    by None e None i = refl
    by None e (Some f) i = let h = forms k f i in absurd (let c : None ≡ Some h.0 = sym e ∙ h.1 in cc)
    by (Some g) e None i = let h = function_of k g e in absurd (let c : None ≡ Some h.0 = sym i ∙ h.1 in cc)
    by (Some g) e (Some f) i =
        let h = forms k f i in
        let form = h.2 in
        ap frame_in (sym e ∙ h.1) ∙ form.frame

  names : (k : ℕ) → IsThere ir.functions k → (m : ℕ) × Each (ItemIn ir.functions m) (TestIn m) (body_in (slice_get ir.functions k))
  names k t =
      let g = t.0 in
      let h = all_at (FunctionIn ir.functions) ir.functions k g scoped.functions t.1 in
      (g.variables, subst (λ (o : Option FormFunction). Each (ItemIn ir.functions g.variables) (TestIn g.variables) (body_in o)) (sym t.1) h.names)

  main_there : IsThere ir.functions ir.main
  main_there = by (slice_get ir.functions ir.main) refl scoped.main where
    by : (o : Option FormFunction) → slice_get ir.functions ir.main ≡ o → IsMain o → IsThere ir.functions ir.main
    by None e h = absurd h
    by (Some g) e h = (g, e)

  abbrev memory_of : List ℕ
  memory_of = let w = start p.memory p.frames p.content in w.memory

  -- before main is called
  abbrev world_at : ℕ → World
  world_at frames = record { memory = memory_of; printed = []; frame = frames; top = frames; depth = 0; items = 0; loads = 0; stores = 0 }

  pub same_outcome : (limit : ℕ) → ir.calls ≡ limit → (n : ℕ) → outcome ir n memory_of ≡ form_run_of p limit n
  same_outcome limit e n =
      same_calls ir.functions (λ f. body_in (slice_get ir.functions f)) definition_body form_frame ir.calls all_loads names bodies n ir.calls ir.main main_there [] (world_at ir.frames)
      ∙ ap (λ (frame : ℕ → ℕ). calls_of (record { body = definition_body; frame = frame; limit = ir.calls }) all_loads n ir.calls ir.main [] (world_at ir.frames)) (λ i k. frames k i)
      ∙ ap (λ (l : ℕ). calls_of (record { body = definition_body; frame = definition_frame; limit = l }) all_loads n l ir.main [] (world_at ir.frames)) e
      ∙ ap (λ (m : ℕ). calls_of (record { body = definition_body; frame = definition_frame; limit = limit }) all_loads n limit m [] (world_at ir.frames)) (let h = low.form in h.main)
      ∙ ap (λ (f : ℕ). calls_of (record { body = definition_body; frame = definition_frame; limit = limit }) all_loads n limit p.main [] (world_at f)) (let h = low.form in h.frames)

pub lowered_do_programs : FormsScoped → FormsDoPrograms → LoweredDoPrograms
lowered_do_programs scoped done p ir low depth e =
    subst (λ (r : ℕ → Result Env). DoesTheSame IsKept (meaning_of p (suc depth)) r) (λ i n. sym (same_outcome p ir low (scoped p ir low) (suc depth) e n) i) (done p depth low.lawful)
