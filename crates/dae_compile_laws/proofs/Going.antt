-- From what a program's form does in so many turns to a run of an image that does the form.
use Rattle.std.proofs.Common.{◌≡◌, ℕ, zero, suc, ◌+◌, ◌*◌, ◌^◌, ◌%◌, ◌≤◌, ◌&&◌, List, ◌++◌, length, refl, sym, ap, ◌∙◌, subst, arith, append_assoc, []}
use Rattle.std.specs.Prelude.{replicate, ◌-◌, ◌/◌, slice_get}
use Rattle.dae_alias.specs.Laws.{Cheaper, Costs, SameResult, counted}
use Rattle.dae_base.specs.declared.Depths.{Depths}
use Rattle.dae_base.specs.Budgets.{Reaches}
use Rattle.dae_image.specs.declared.Image.{Image}
use Rattle.dae_ir.specs.Programs.{outcome, end_of}
use Rattle.dae_ir.specs.Scope.{IsScoped}
use Rattle.dae_ir.specs.declared.form.Ir.{Ir}
use Rattle.dae_machine.specs.Opened.{setup_of, opened}
use Rattle.dae_machine.proofs.LawsOfRuns.{runs_deeper}
use Rattle.dae_machine_rounds.specs.Promises.{DoesForm}
use Rattle.dae_meaning.specs.Results.{Result, Over, Going, Halted, Astray, world_of}
use Rattle.dae_meaning.specs.Alike.{Alike, BothAt, BothOver, FirstStrays, IsFront}
use Rattle.dae_meaning.specs.Variables.{Env}
use Rattle.dae_meaning.proofs.Laws.{front_same}
use Rattle.dae_program.specs.Outcomes.{Outcome, last_world}
use Rattle.dae_program.specs.Printing.{most_bytes}
use Rattle.dae_program.specs.Programs as program
use Rattle.dae_program.specs.Programs.{program_of, variables_of, program_end}
use Rattle.dae_program.specs.Promise.{LawfulKeepRules}
use Rattle.dae_program.specs.Turns.{IsBelow, Same, Fewer, TurnsInOrder}
use Rattle.dae_program.specs.declared.program.Program.{Program}
use Rattle.dae_lower.specs.Keeping.{IsKept, FormKeeps, place_in}
use Rattle.dae_lower_formed.specs.Formed.{IsLowered, FormsScoped}
use Rattle.dae_compile_promise.specs.Promises.{IsLaterForm}
use Rattle.dae_compile_promise.proofs.Laws.{OrdersRun}
use Rattle.dae_compile_laws.specs.Going.{turns_of, PrintsInTime, GoesOnInTime, FormsGoOnInTime, ImagesGoOnInTime}
use Rattle.dae_lower_formed.proofs.Laws.{memory_most, same_outcome}

-- ---- bounds on turns, in order

front_below : (r q : Outcome ℕ) → IsBelow r q → IsFront (let w = last_world r in w.printed) (let w = last_world q in w.printed)
front_below r q (Same t) = front_same (let w = last_world t in w.printed)
front_below r q (Fewer w t f) = f

going_below : (r q : Outcome ℕ) → IsBelow r q → program_end q ≡ Going → program_end r ≡ Going
going_below r q (Same t) h = h
going_below r q (Fewer w t f) h = refl

-- ---- where a form goes on, a later one goes on too, has printed as much, and has one item more for each load at most

record IsLater (r q : Result Env) : Type 0 where
  pub is : q ≡ Over Going (world_of q)
  pub printed : (world_of q).printed ≡ (world_of r).printed
  pub items : (world_of q).items ≤ (world_of r).items + (world_of r).loads

goes_later : (r q : Result Env) → Alike SameResult Cheaper r q → end_of r ≡ Going → IsLater r q
goes_later r q (BothAt way e f w u is c) h = absurd (let g : Halted (e 0) ≡ Going = h in cc)
goes_later r q (BothOver end w u (Costs x i l j k most fewer items)) h = record { is = ap (λ e. Over e (counted j k x)) h; printed = refl; items = items }
goes_later r q (FirstStrays w s) h = absurd (let g : Astray ≡ Going = h in cc)

module _ (p : Program) (depth : ℕ) (ir later : Ir) (image : Image) (lowered : IsLowered p ir) (made : IsLaterForm ir later) (calls : later.calls ≡ suc depth) (content : image.content ≡ p.content) (done : DoesForm later image 14) (scoped : IsScoped ir) (rules : LawfulKeepRules) (keeps : FormKeeps) (order : TurnsInOrder) (as_run : OrdersRun) where
  -- the image begins with the program's memory
  opened_memory : (opened image).memory ≡ (let w = program.start p.memory p.frames p.content in w.memory)
  opened_memory =
      let f = lowered.form in
      ap (λ (xs : List ℕ). replicate 16 0 ++ (xs ++ replicate (image.memory - (16 + length xs)) 0)) content
      ∙ ap (λ (size : ℕ). replicate 16 0 ++ (p.content ++ replicate (size - (16 + length p.content)) 0)) (done.size ∙ made.memory ∙ f.memory)
      ∙ sym (append_assoc (replicate 16 0) p.content (replicate (p.memory - (16 + length p.content)) 0))

  kept : (n : ℕ) → most_bytes ≤ n → IsKept (turns_of p (suc depth) n) (outcome ir n (opened image).memory)
  kept n many =
      let r = rules p (suc depth) lowered.lawful in
      let k = keeps (program_of p (suc depth)) (λ f. place_in (slice_get p.functions f)) (variables_of p) p.main r.scope depth refl (program.start p.memory p.frames p.content) r.begins refl n many in
      let form = subst (λ (q : Result Env). IsKept (turns_of p (suc depth) n) q) (sym (same_outcome p ir lowered scoped (suc depth) (sym made.calls ∙ calls) n)) k in
      subst (λ (m : List ℕ). IsKept (turns_of p (suc depth) n) (outcome ir n m)) (sym opened_memory) form

  sized : length (opened image).memory ≡ ir.memory
  sized = let r = rules p (suc depth) lowered.lawful in let f = lowered.form in ap length opened_memory ∙ (r.memory ∙ sym f.memory)

  small : length (opened image).memory ≤ 2 ^ 32
  small =
      let r = rules p (suc depth) lowered.lawful in
      let e = ap length opened_memory in
      let size = r.memory in
      let most = memory_most p lowered.lawful in omega (arith, e, size, most)

  alike : (n : ℕ) → Alike SameResult Cheaper (outcome ir n (opened image).memory) (outcome later n (opened image).memory)
  alike n = let k = made.keeps in k.meaning n (opened image).memory sized small

  short : (steps most items loads work : ℕ) → steps ≤ 14 * (8 * most + 26) → most ≤ items + loads → items + loads ≤ 9 * work → steps ≤ 4096 * (work / 4 + 1)
  short steps most items loads work h l k = omega (arith, h, l, k)

  prints : (n : ℕ) → most_bytes ≤ n → program_end (turns_of p (suc depth) n) ≡ Going → (depths : Depths) → Reaches depths image.budget
      → PrintsInTime image depths n (last_world (turns_of p (suc depth) n))
  prints n many going depths reach =
      let k = kept n many in
      let g = goes_later _ _ (alike n) (k.end ∙ going) in
      let x = done.continues n (world_of (outcome later n (opened image).memory)) g.is in
      record {
        picks = x.picks;
        state = x.state;
        runs = runs_deeper (setup_of image image.budget) depths (opened image) x.state x.picks reach
            (as_run (setup_of image image.budget) (opened image) x.state x.picks x.order);
        long = x.long;
        short = short (length x.picks) _ _ _ _ x.short g.items k.items;
        printed = x.printed ∙ g.printed ∙ k.printed;
      }

  goes_on_in_time : GoesOnInTime p (suc depth) image
  goes_on_in_time = record {
    prints = prints;
    includes = λ n. (let h = order (program_of p (suc depth)) n (suc depth) p.main [] (program.start p.memory p.frames p.content) in front_below _ _ h.1);
    goes_on = λ n. (let h = order (program_of p (suc depth)) n (suc depth) p.main [] (program.start p.memory p.frames p.content) in going_below _ _ h.0);
  }

pub forms_go_on_in_time : LawfulKeepRules → TurnsInOrder → FormKeeps → FormsScoped → OrdersRun → FormsGoOnInTime
forms_go_on_in_time rules order keeps scoped as_run p depth ir later image lowered made calls content done =
    goes_on_in_time p depth ir later image lowered made calls content done (scoped p ir lowered) rules keeps order as_run

-- ---- of accepted texts

some_calls : FormsGoOnInTime → (p : Program) (calls : ℕ) (ir later : Ir) (image : Image) → 1 ≤ calls → IsLowered p ir → IsLaterForm ir later → later.calls ≡ calls → image.content ≡ p.content → DoesForm later image 14 → GoesOnInTime p calls image
some_calls law p zero ir later image some lowered made is content done = absurd (omega (arith, some))
some_calls law p (suc depth) ir later image some lowered made is content done = law p depth ir later image lowered made is content done

pub images_go_on_in_time : FormsGoOnInTime → ImagesGoOnInTime
images_go_on_in_time law texts names options image is =
    let made = is.compiled in
    let form = made.final in
    let range = options.ranges in
    some_calls law is.program options.calls form.first made.form image range.called form.lowered form.later form.depth made.content made.does
