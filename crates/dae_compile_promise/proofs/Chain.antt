-- From a program's meaning over its form to every run of an image that does the form.
use Rattle.std.proofs.Common.{◌≡◌, ℕ, zero, suc, ◌+◌, ◌*◌, ◌≤◌, true, false, List, [], ◌∷◌, ◌++◌, length, Some, None, refl, sym, ap, ◌∙◌, subst, arith, append_assoc}
use Rattle.std.specs.Prelude.{replicate, ◌≢◌, ◌-◌, ◌/◌, slice_get}
use Rattle.std.specs.List.{AllByRecursion}
use Rattle.dae_base.specs.declared.Depths.{Depths}
use Rattle.dae_base.specs.Budgets.{Reaches}
use Rattle.dae_encode.specs.declared.Halt.{Halt}
use Rattle.dae_encode.specs.declared.Halt.TheVariants.{Status, Trap}
use Rattle.dae_image.specs.declared.Image.{Image}
use Rattle.dae_machine.specs.declared.Pick.{Pick}
use Rattle.dae_machine.specs.Machine.{Setup, State, Runs, IsFinal, IsStuck}
use Rattle.dae_machine.specs.Opened.{setup_of, opened}
use Rattle.dae_machine.specs.Ends.{IsPrefixOf, GoesOn as RunsGoOn}
use Rattle.dae_machine.proofs.LawsOfRuns.{can_only_end, runs_deeper, opened_counted}
use Rattle.dae_meaning.specs.Worlds.{World}
use Rattle.dae_meaning.specs.Results.{Result, Over, End, Halted, Trapped, Going, Astray, world_of}
use Rattle.dae_meaning.specs.Variables.{Env, entered}
use Rattle.dae_meaning.specs.Alike.{IsFront}
use Rattle.dae_meaning.proofs.Laws.{front_on}
use Rattle.dae_ir.specs.Form.{Form, calls_of, all_loads, deeper}
use Rattle.dae_ir.specs.Programs as form
use Rattle.dae_ir.specs.Programs.{outcome, end_of, body_in}
use Rattle.dae_ir.specs.Rounds.{stays}
use Rattle.dae_ir.specs.Scope.{closes, never_returns, IsScoped, FunctionIn, IsMain}
use Rattle.dae_ir.specs.declared.form.Function.{Function}
use Rattle.dae_ir.specs.declared.form.Ir.{Ir}
use Rattle.dae_program.specs.Outcomes.{Outcome, last_world}
use Rattle.dae_program.specs.Programs as program
use Rattle.dae_program.specs.Programs.{program_of, variables_of, meaning_of, program_end, GoesOn}
use Rattle.dae_program.specs.Promise.{NeverStrays}
use Rattle.dae_program.specs.declared.program.Program.{Program}
use Rattle.dae_lower.specs.Keeping.{IsOver}
use Rattle.dae_lower_formed.specs.Formed.{IsLowered}
use Rattle.dae_lower_formed.specs.Order.{DoesTheSame, IsKeptByFewer}
use Rattle.dae_machine_rounds.specs.Order.{InOrder}
use Rattle.dae_machine_rounds.specs.Promises.{DoesForm, Ends}
use Rattle.dae_compile_promise.specs.Promises.{OnlyEnds, IsAtEnd, KeepsMeaning, IsLaterForm, ImageKeepsMeaning, LaterFormsDoPrograms}
use Rattle.dae_compile_promise.proofs.Main.{IsOverResult, main_is_over}

-- ---- fronts and prefixes, the same in two spellings

prefix_of : (xs ys : List ℕ) → IsFront xs ys → IsPrefixOf xs ys
prefix_of xs ys h = (h.0, sym h.1)

front_of : (xs ys : List ℕ) → IsPrefixOf xs ys → IsFront xs ys
front_of xs ys h = (h.0, sym h.1)

-- ---- of main

record IsMainBody (code : Form) : Type 0 where
  returns : never_returns code ≡ true
  loops : stays false code ≡ true
  ends : closes code ≡ true

main_body : (functions rest : List Function) → AllByRecursion (FunctionIn functions) rest → (f : ℕ) → IsMain (slice_get rest f) → IsMainBody (body_in (slice_get rest f))
main_body functions [] h f m = absurd m
main_body functions (x ∷ xs) h zero m =
    let i = h.0 in record { returns = m.1; loops = i.loops; ends = i.ends }
main_body functions (x ∷ xs) h (suc f) m = main_body functions xs h.1 f m

-- a run in canonical order is a run
abbrev pub OrdersRun : Type 0
OrdersRun = (setup : Setup) (s t : State) (ps : List Pick) → InOrder setup s ps t → Runs setup s ps t

module _ (p : Program) (depth : ℕ) (old ir : Ir) (image : Image) (lowered : IsLowered p old) (later : IsLaterForm old ir) (calls : ir.calls ≡ suc depth) (content : image.content ≡ p.content) (done : DoesForm ir image 14) (scoped : IsScoped ir) (same : LaterFormsDoPrograms) (fair : NeverStrays) (as_run : OrdersRun) where
  abbrev program_meaning : ℕ → Outcome ℕ
  program_meaning n = meaning_of p (suc depth) n

  abbrev form_meaning : ℕ → Result Env
  form_meaning n = outcome ir n (opened image).memory

  -- the image begins with the program's memory
  opened_memory : (opened image).memory ≡ (let w = program.start p.memory p.frames p.content in w.memory)
  opened_memory =
      let f = lowered.form in
      ap (λ (xs : List ℕ). replicate 16 0 ++ (xs ++ replicate (image.memory - (16 + length xs)) 0)) content
      ∙ ap (λ (size : ℕ). replicate 16 0 ++ (p.content ++ replicate (size - (16 + length p.content)) 0)) (done.size ∙ later.memory ∙ f.memory)
      ∙ sym (append_assoc (replicate 16 0) p.content (replicate (p.memory - (16 + length p.content)) 0))

  alike : DoesTheSame IsKeptByFewer program_meaning form_meaning
  alike = subst (λ (m : List ℕ). DoesTheSame IsKeptByFewer program_meaning (λ n. outcome ir n m)) (sym opened_memory) (same p old ir lowered later depth calls)

  -- ---- main gives no result

  over : (n : ℕ) → IsOverResult (form_meaning n)
  over n =
      let m = main_body ir.functions ir.functions scoped.functions ir.main scoped.main in
      let q = form.program_of ir in
      let w = form.start ir (opened image).memory in
      subst (λ (c : ℕ). IsOverResult (calls_of q all_loads n c ir.main [] w)) (sym calls)
      (main_is_over q (all_loads ir.main) (calls_of q all_loads n depth) n (q.body ir.main) m.returns m.loops m.ends (entered (λ _. true) 1 []) (deeper q ir.main w))

  -- ---- where the program is over

  short : (steps items work : ℕ) → steps ≤ 14 * (8 * items + 14) → items ≤ 9 * work → steps ≤ 4096 * (work / 4 + 1)
  short steps items work h k = omega (arith, h, k)

  ends_at : (halt : Halt) (end : End) → ((m : ℕ) (w : World) → form_meaning m ≡ Over end w → Ends image 14 halt w) → IsOver end
      → (n : ℕ) → program_end (program_meaning n) ≡ end → OnlyEnds image halt (last_world (program_meaning n))
  ends_at halt end tells o n h =
      let found = alike.ends n (subst IsOver (sym h) o) in
      let m = found.0 in
      let k = found.1 in
      let r = over m in
      let same : r.end ≡ end = sym (ap end_of r.is) ∙ k.end ∙ h in
      let world : world_of (form_meaning m) ≡ r.world = ap (λ (x : Result Env). world_of x) r.is in
      let x = tells m r.world (r.is ∙ ap (λ (e : End). Over e r.world) same) in
      record {
        end = x.state;
        picks = x.picks;
        short = short (length x.picks) _ _ x.short (subst (λ (w : World). w.items ≤ 9 * (let v = last_world (program_meaning n) in v.items)) world k.items);
        halts = x.halt';
        memory = x.memory ∙ ap (λ (w : World). w.memory) (sym world) ∙ k.memory;
        printed = x.printed ∙ ap (λ (w : World). w.printed) (sym world) ∙ k.printed;
        runs = λ depths reach. runs_deeper (setup_of image image.budget) depths (opened image) x.state x.picks reach
            (as_run (setup_of image image.budget) (opened image) x.state x.picks x.order);
        final = x.final;
        only = x.only;
      }

  ends_so : (n status : ℕ) → program_end (program_meaning n) ≡ Halted status → OnlyEnds image (Status status) (last_world (program_meaning n))
  ends_so n status = ends_at (Status status) (Halted status) (λ m w is. done.ends m (Halted status) w is) tt n

  traps_so : (n code : ℕ) → program_end (program_meaning n) ≡ Trapped code → OnlyEnds image (Trap code) (last_world (program_meaning n))
  traps_so n code = ends_at (Trap code) (Trapped code) (λ m w is. done.ends m (Trapped code) w is) tt n

  -- ---- where it goes on

  form_goes : GoesOn program_meaning → (n : ℕ) → (w : World) × (form_meaning n ≡ Over Going w)
  form_goes g n =
      let r = over n in
      (r.world, r.is ∙ ap (λ (e : End). Over e r.world) (sym (ap end_of r.is) ∙ (alike.goes_on).0 g n))

  prefix_on : (xs ys zs : List ℕ) → IsPrefixOf xs ys → IsPrefixOf ys zs → IsPrefixOf xs zs
  prefix_on xs ys zs a b = prefix_of xs zs (front_on xs ys zs (front_of xs ys a) (front_of ys zs b))

  goes_so : GoesOn program_meaning → (depths : Depths) → Reaches depths image.budget
      → RunsGoOn (setup_of image depths) (opened image) (λ n. (let w = last_world (program_meaning n) in w.printed))
  goes_so g depths reach =
      let r = done.goes_on (form_goes g) depths reach in
      record {
        enabled = r.enabled;
        prints = λ ps s runs.
            (let x = r.prints ps s runs in
            let k = alike.prints_only x.0 in
            (k.0, prefix_on _ _ _ x.1 (prefix_of _ _ k.1)));
        reaches = λ ps s runs n.
            (let k = alike.prints n in
            let x = r.reaches ps s runs k.0 in
            (x.0, x.1, x.2, prefix_on _ _ _ (prefix_of _ _ k.1) x.3));
      }

  -- ---- where a run ends

  -- a run ends before the form has gone on for longer
  not_longer : (depths : Depths) → Reaches depths image.budget → (picks : List Pick) (s : State) → Runs (setup_of image depths) (opened image) picks s → IsFinal (setup_of image depths) s
      → (w : World) → form_meaning (suc (length picks)) ≡ Over Going w → ⊥
  not_longer depths reach picks s runs final w is =
      let x = done.continues (suc (length picks)) w is in
      let run = runs_deeper (setup_of image image.budget) depths (opened image) x.state x.picks reach (as_run (setup_of image image.budget) (opened image) x.state x.picks x.order) in
      let most = (can_only_end (setup_of image depths) (opened image) (opened_counted image) s picks runs final).at_most x.picks x.state run in
      let long = x.long in absurd (omega (arith, most, long))

  at_end : (e : End) → IsOver e → e ≢ Astray → IsAtEnd e
  at_end (Halted status) o n = tt
  at_end (Trapped code) o n = tt
  at_end Going o n = o
  at_end Astray o n = absurd (n refl)

  -- under a bound under which the form doesn't go on, it is over, as the program is under some bound
  over_so : (m : ℕ) → IsOver (end_of (form_meaning m)) → (n : ℕ) × IsAtEnd (program_end (program_meaning n))
  over_so m o =
      let k = alike.ends_only m o in
      let kept = k.1 in
      (k.0, subst IsAtEnd kept.end (at_end (end_of (form_meaning m)) o (alike.stays m)))

  over_at : (m : ℕ) (e : End) → end_of (form_meaning m) ≡ e → (e ≡ Going → ⊥) → (n : ℕ) × IsAtEnd (program_end (program_meaning n))
  over_at m (Halted status) h other = over_so m (subst IsOver (sym h) tt)
  over_at m (Trapped code) h other = over_so m (subst IsOver (sym h) tt)
  over_at m Going h other = absurd (other refl)
  over_at m Astray h other = over_so m (subst IsOver (sym h) tt)

  ends_only_so : (depths : Depths) → Reaches depths image.budget → (picks : List Pick) (s : State) → Runs (setup_of image depths) (opened image) picks s → IsFinal (setup_of image depths) s
      → (n : ℕ) × IsAtEnd (program_end (program_meaning n))
  ends_only_so depths reach picks s runs final =
      let m = suc (length picks) in
      let r = over m in
      over_at m r.end (ap end_of r.is) (λ e. not_longer depths reach picks s runs final r.world (r.is ∙ ap (λ (x : End). Over x r.world) e))

  -- ---- so it is never stuck

  stuck_never : (depths : Depths) → Reaches depths image.budget → (picks : List Pick) (s : State)
      → Runs (setup_of image depths) (opened image) picks s → ¬ (IsStuck (setup_of image depths) s)
  stuck_never depths reach picks s runs stuck =
      let x = (goes_so goes depths reach).enabled picks s runs in none_some (sym (stuck.quiet x.0) ∙ x.2) where
        none_some : {X : Type 0} {x : X} → None ≡ Some x → ⊥
        none_some h = cc

        by : (n : ℕ) (end : End) → program_end (program_meaning n) ≡ end → end ≡ Going
        by n Going h = refl
        by n (Halted status) h = (let o = (ends_so n status h).only depths reach in absurd (o.never_stuck picks s runs stuck))
        by n (Trapped code) h = (let o = (traps_so n code h).only depths reach in absurd (o.never_stuck picks s runs stuck))
        by n Astray h = absurd (fair p (suc depth) n lowered.lawful h)

        goes : GoesOn program_meaning
        goes n = by n (program_end (program_meaning n)) refl

  keeps_meaning : KeepsMeaning p (suc depth) image
  keeps_meaning = record { never_stuck = stuck_never; ends_only = ends_only_so; ends = ends_so; traps = traps_so; goes_on = goes_so }

pub image_keeps_meaning : LaterFormsDoPrograms → NeverStrays → OrdersRun → ImageKeepsMeaning
image_keeps_meaning same fair as_run p depth old ir image lowered later calls content done =
    keeps_meaning p depth old ir image lowered later calls content done (let k = later.keeps in k.scoped) same fair as_run
