-- An image whose two codes are made of the two streams of a form does the form.
use Rattle.std.proofs.Common.{◌≤◌, ◌<◌, ◌≡◌, ℕ, ◌+◌, Bool, true, false, List, [], length, refl, sym, subst, arith}
use Rattle.dae_image.specs.declared.Image.{Image}
use Rattle.dae_encode.specs.Processor.{Processor}
use Rattle.dae_machine.specs.Machine.{Setup}
use Rattle.dae_machine.specs.Opened.{setup_of, opened}
use Rattle.dae_meaning.specs.Worlds.{World}
use Rattle.dae_ir.specs.Form.{Program, deeper}
use Rattle.dae_ir.specs.Classes.{classes_of}
use Rattle.dae_ir.specs.Streams.{Actions}
use Rattle.dae_ir.specs.Programs.{program_of, start, side, AreClassesOf, IsPairOf}
use Rattle.dae_ir.specs.Budgets.{IsBudgetOf}
use Rattle.dae_ir.specs.declared.form.Ir.{Ir}
use Rattle.dae_ir.specs.declared.stream.Class.{Class}
use Rattle.dae_ir.specs.declared.stream.Pair.{Pair}
use Rattle.dae_machine_rounds.specs.Spots.{Ends, point, Spot, spot}
use Rattle.dae_machine.specs.Walks.{Walks}
use Rattle.dae_machine_rounds.specs.Sides.{Implements}
use Rattle.dae_machine_rounds.specs.Promises.{Begins, DoesForm}
use Rattle.dae_machine_rounds.proofs.LawsOfRuns.{does_form}
use Rattle.dae_select_walks.specs.Live.{none, live, nowhere}
use Rattle.dae_select_walks.specs.Facts.{unknown, outs}
use Rattle.dae_select_walks.specs.Agrees.{Moment, Stands}
use Rattle.dae_select_walks.specs.Compiled.{exit, exits}
use Rattle.dae_select_blocks.specs.Laws.{opened_with}
use Rattle.dae_select_blocks.proofs.LawsOfBlocks.{code_does}
use Rattle.dae_select_blocks.proofs.LawsOfBlocks.{code_begins}
use Rattle.dae_link_faithful.specs.Made.{parameters_in, IsSide, IsMade, setting_of, stream, AreWhole}
use Rattle.dae_ir.specs.Streams.{set_of}
use Rattle.dae_link_faithful.proofs.Streams.{are_whole}
use Rattle.dae_link_faithful.proofs.Ready.{stream_is_wanted, main_is_alone}
use Rattle.dae_link_faithful.proofs.Wanted.{leaf_wanted}
use Rattle.dae_select_blocks.specs.Wanted.{IsWanted, IsWantedBranch}
use Rattle.dae_ir.specs.Code.{Each}
use Rattle.std.proofs.lemmas.Bool.Decides.{nat_tests}
use Rattle.std.specs.Prelude.{slice_get, not, ◌==◌}
use Rattle.dae_ir_pair.proofs.Laws.{budget_covers}
use Rattle.dae_link_faithful.proofs.Walked.{just_comes}
use Rattle.dae_link_faithful.proofs.Ways.{agrees_at}
use Rattle.dae_link_faithful.proofs.Moved.{nothing_goes, A, IsDone, implements}
use Rattle.dae_link_faithful.proofs.Usable.{IsUsable}

module _ (by_a : Bool) (p : Program) (body : ℕ → Actions) (parameters : ℕ → ℕ) (functions main frames : ℕ) (setup : Setup) (first : Processor) (c : IsSide by_a p body parameters functions main frames setup first) (answered : ℕ → Bool) (are_whole : AreWhole functions answered body)
    (wanted : (f : ℕ) → f < c.plan.functions → Each (IsWanted c.plan setup.copies (λ g. live (body g) nowhere) (c.plan.leaf f)) IsWantedBranch (body f)) (reads : (u : ℕ) → live (body main) nowhere u ≡ false) (within : main < functions) where
  there : main < c.plan.functions
  there = subst (λ (n : ℕ). main < n) (sym c.count) within

  whole : AreWhole c.plan.functions answered body
  whole = subst (λ (n : ℕ). AreWhole n answered body) (sym c.count) are_whole

  -- the agreement of a side with its spots
  abbrev pub Agreed : Spot → Processor → Type 0
  Agreed = A setup c.plan p body 14 46 c.plan.functions answered

  is_done : IsDone setup c.plan p body 14 46 c.plan.functions answered
  is_done = record {
    memory = c.fits.memory;
    is_plan = c.is_plan;
    bodies = λ f small. (let d = code_does (setting_of setup c.plan.by_a) c.plan c.variables p (λ g. live (body g) nowhere) c.fits c.is_plan c.linked f (body f) (record { wanted = wanted f small; right = (c.codes f small).right; there = (c.codes f small).there; small = (c.codes f small).small }) in (d.0, d.1));
    whole = whole;
  }

  pub code_implements : Implements setup p by_a body 14 Agreed
  code_implements = subst (λ (b : Bool). Implements setup p b body 14 Agreed) c.side (implements setup c.plan p body 14 46 c.plan.functions answered 14 (omega arith) (omega arith) (omega arith) is_done)

  pub begins_there : (w : World) → w.top ≡ frames → w.depth ≡ 0 → Begins setup by_a 14 Agreed first (spot (point (body main) Ends) (λ _. 0) (deeper p main w) [])
  begins_there w top depth =
      let b = code_begins (setting_of setup c.plan.by_a) c.plan c.variables (λ g. live (body g) nowhere) main frames c.fits c.linked (record { there = there; reads = reads; first = c.start.first; deep = c.start.deep; room = c.start.room; finish = c.start.finish; code = c.start.code }) in
      let d = is_done.bodies main there in
      let known = c.is_plan.frame main in
      let same : Moment = record { function = main; env = (λ _. 0); frame = frames; waiting = [] } in
      let r = just_comes setup c.plan.by_a {most = 14} {R = Agreed (spot (point (body main) Ends) (λ _. 0) (deeper p main w) [])} b (λ q g.
      agrees_at setup c.plan p body 14 46 c.plan.functions answered (body main) Ends (λ _. 0) w.top (w.top + p.frame main) (w.depth + 1) [] q (record {
        function = main;
        waiting = [];
        here = exit (c.plan.start main) (live (body main) nowhere);
        exits' = exits (exit d.0 none) (exit d.0 none) (exit d.0 none);
        placed = record { done = record { does = d.1; goes = nothing_goes c.plan.memory (body main) }; next = tt; fits = whole.fits main there; fits_next = tt; tight = whole.tight main there; closed = whole.closed main there };
        known = unknown;
        out = outs unknown unknown unknown;
        facts = record { outer = tt; inner = tt };
        stands = (refl, subst (λ (t : ℕ). Stands c.plan (live (body main) nowhere) (record { function = main; env = (λ _. 0); frame = t; waiting = [] }) (c.plan.start main) q) (sym top) g);
        top = (omega arith);
        depth = (omega arith);
        calls = tt;
      })) (omega arith) in
      record {
        after = r.after;
        steps = r.steps;
        walks = subst (λ (f : Processor). Walks setup (side by_a) f [] r.steps r.after) (sym c.opens) (subst (λ (b : Bool). Walks setup (side b) (opened_with c.plan.private) [] r.steps r.after) c.side r.walks);
        agrees = r.holds;
        few = r.few;
      }

allowed : (n : ℕ) → 1 ≤ n → not (n == 0) ≡ true
allowed n h = by (n == 0) refl
  where
    by : (t : Bool) → (n == 0) ≡ t → not t ≡ true
    by false e = refl
    by true e = absurd (let z : n ≡ 0 = grind (arith, nat_tests) in omega (arith, z))

module _ (ir : Ir) (tables : List (List Class)) (cap : ℕ) (image : Image) (ready : IsUsable ir) (least : AreClassesOf ir tables) (pair : Pair) (is_pair : IsPairOf ir tables cap pair) (is_budget : IsBudgetOf pair image.budget) where
  abbrev setup : Setup
  setup = setup_of image image.budget

  abbrev counts : ℕ → ℕ
  counts f = parameters_in (slice_get ir.functions f)

  abbrev has : Bool → ℕ → Bool
  has b g = set_of b (classes_of tables g) 0

  abbrev Side : Bool → Processor → Type 0
  Side b first = IsSide b (program_of ir) (stream ir tables cap b) counts (length ir.functions) ir.main ir.frames setup first

  is_whole : (b : Bool) → AreWhole (length ir.functions) (has b) (stream ir tables cap b)
  is_whole b = are_whole ir tables cap least.closed b ready.scoped ready.closes'

  wants : (b : Bool) (first : Processor) (c : Side b first) → (f : ℕ) → f < c.plan.functions → Each (IsWanted c.plan setup.copies (λ g. live (stream ir tables cap b g) nowhere) (c.plan.leaf f)) IsWantedBranch (stream ir tables cap b f)
  wants b first c f small =
      leaf_wanted c.plan setup.copies (λ g. live (stream ir tables cap b g) nowhere) (c.plan.leaf f) (stream ir tables cap b f) (c.codes f small).leaf
      (stream_is_wanted ir tables cap least.closed b ready c.plan c.count c.homes setup.copies image.budget.cq (allowed image.budget.cq) c.side f (budget_covers ir tables cap pair image.budget is_pair is_budget f).copies small)

  alone : (b : Bool) (first : Processor) (c : Side b first) → (u : ℕ) → live (stream ir tables cap b ir.main) nowhere u ≡ false
  alone b first c = main_is_alone ir tables cap least.closed b ready c.plan c.count c.homes

  abbrev At_of : (b : Bool) (first : Processor) → Side b first → Spot → Processor → Type 0
  At_of b first c = Agreed b (program_of ir) (stream ir tables cap b) counts (length ir.functions) ir.main ir.frames setup first c (has b) (is_whole b) (wants b first c) (alone b first c) ready.main

  side_implements : (b : Bool) (first : Processor) (c : Side b first) → Implements setup (program_of ir) b (stream ir tables cap b) 14 (At_of b first c)
  side_implements b first c = code_implements b (program_of ir) (stream ir tables cap b) counts (length ir.functions) ir.main ir.frames setup first c (has b) (is_whole b) (wants b first c) (alone b first c) ready.main

  side_begins : (b : Bool) (first : Processor) (c : Side b first) (w : World) → w.top ≡ ir.frames → w.depth ≡ 0 → Begins setup b 14 (At_of b first c) first (spot (point (stream ir tables cap b ir.main) Ends) (λ _. 0) (deeper (program_of ir) ir.main w) [])
  side_begins b first c = begins_there b (program_of ir) (stream ir tables cap b) counts (length ir.functions) ir.main ir.frames setup first c (has b) (is_whole b) (wants b first c) (alone b first c) ready.main

  pub joined : IsMade ir tables cap image → DoesForm ir image 14
  joined made =
      let w : World = start ir (opened image).memory in
      does_form ir tables cap image 14 (omega arith) (At_of true (opened image).a made.a) (At_of false (opened image).e made.e) (side_implements true (opened image).a made.a) (side_implements false (opened image).e made.e)
      (side_begins true (opened image).a made.a w refl refl) (side_begins false (opened image).e made.e w refl refl) pair least is_pair is_budget made.memory
