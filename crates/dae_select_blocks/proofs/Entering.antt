-- A call's walk: from its block over the jump and the entry code to where the called function's actions begin.
use Rattle.std.proofs.Common.{◌≡◌, ◌≢◌, ℕ, zero, suc, ◌+◌, ◌-◌, ◌*◌, ◌/◌, ◌^◌, ◌<◌, ◌≤◌, inl, inr, Bool, true, false, not, ◌&&◌, List, [], ◌∷◌, ◌++◌, Option, Some, length, refl, sym, ap, ◌∙◌, subst, arith, ◌⊎◌}
use Rattle.std.specs.Prelude.{nat_eq, pos, if◌then◌else◌}
use Rattle.std.proofs.lemmas.Bool.Decides.{nat_tests}
use Rattle.dae_base.specs.Words.{plus, word}
use Rattle.dae_base.proofs.Laws.{plus_small, choice_small}
use Rattle.dae_encode.specs.declared.QueueUse.TheVariants.{Nothing}
use Rattle.dae_encode.specs.declared.Inst.{Inst}
use Rattle.dae_encode.specs.declared.Inst.TheVariants.{Lui, Jalr, Sw}
use Rattle.dae_encode.specs.Processor.{Processor}
use Rattle.dae_ir.specs.Classes.{VariableSet}
use Rattle.dae_meaning.specs.Variables.{Env}
use Rattle.dae_ir.specs.Deeds.{Deed, Went}
use Rattle.dae_ir.specs.declared.stream.Argument.{Argument}
use Rattle.dae_select_walks.specs.declared.Home.{Home}
use Rattle.dae_select_walks.specs.declared.Home.TheVariants.{Register, Slot}
use Rattle.dae_select_walks.specs.Walks.{WalkSetting, Comes}
use Rattle.dae_select_walks.specs.Layout.{CodeAt}
use Rattle.dae_select_walks.specs.Live.{in_arguments, is}
use Rattle.dae_select_walks.specs.Homes.{Contents, held, kept, IsHome, is_home_register, kept_at, slot_at, resident_home, resident_register, none_spared}
use Rattle.dae_select_walks.specs.Agrees.{Plan, Moment, CallFrame, Agrees, Shows, Stands, AreIn, AreWaiting, AreResident, IsWithin, depth_of, top_of, return_address, counted_depth}
use Rattle.dae_select_walks.specs.Compiled.{given, called, waiting_of}
use Rattle.dae_select_walks.proofs.LawsOfWalks.{comes_here, comes_more, comes_then}
use Rattle.dae_select_walks.proofs.LawsOfWalks.{put, store, step}
use Rattle.dae_select_blocks.specs.Blocks.{upper, lower, arguments_code, save_code, count_code, prologue_code, deeper_code, enter_code, enter_words, is_immediate, parameters_code}
use Rattle.dae_select_blocks.specs.Code.{registers_in, entry_code, is_spared, unspared}
use Rattle.dae_select_blocks.specs.Fits.{Fits}
use Rattle.dae_select_blocks.specs.Wanted.{AreGiven, gives, IsLinked, HaveHomes}
use Rattle.dae_select_blocks.proofs.Halves.{halves, immediate_word}
use Rattle.dae_select_blocks.proofs.Plain.{plain_computes, stores_word}
use Rattle.dae_select_blocks.proofs.Frames.{upper_small}
use Rattle.dae_select_blocks.proofs.Runs.{Runs, runs_nothing, runs_quiet, runs_alone}
use Rattle.dae_select_blocks.proofs.Agreement.{Ready, resident_high, kept_small, waiting_same, waiting_kept, Like, home_register, calls_framed, own_frame}
use Rattle.dae_select_blocks.proofs.Operands.{like_put, like_itself}
use Rattle.dae_select_blocks.proofs.Calls.{among, kept_register, register_kept, Saved, runs_arguments, runs_save, ready_far, wait_on, not_given}
use Rattle.dae_select_blocks.proofs.Parameters.{runs_parameters}
use Rattle.dae_select_blocks.proofs.Deeper.{runs_deeper, runs_count}
use Rattle.dae_select_blocks.proofs.Jumps.{ready}

-- the called function's frame is begun: its parameters have their arguments, and the caller's variables are kept, as is the address that it returns to
pub record Prepared (plan : Plan) (m : Moment) (w : CallFrame) (base g : ℕ) (xs : List Argument) (k : ℕ) (p : Processor) : Type 0 where
  pub contents : Contents
  pub shows : Shows plan.private contents k p
  pub two : contents.register 2 ≡ 4 * (if plan.frameless g then base else base + plan.words m.function)
  pub three : contents.register 3 ≡ top_of plan m
  pub four : plan.by_a ≡ true → contents.register 4 ≡ plan.memory - 16
  pub residents : AreResident plan contents
  pub ten : plan.by_a ≡ true → contents.register 10 ≡ depth_of m
  pub given : (u : ℕ) → gives xs u ≡ true → held contents (base + plan.words m.function) (plan.home g u) ≡ given xs m.env u
  pub variables : AreIn (kept (plan.spares g) contents base) (plan.home m.function) w.live m.env
  pub waiting : AreWaiting plan contents none_spared (contents.word base) base m.frame m.waiting

module _ (s : WalkSetting) (plan : Plan) (variables : ℕ → ℕ) (fine : Fits s plan variables) (entries : ℕ → VariableSet) (linked : IsLinked s plan) where
  -- within the call limit there is room for one frame more
  room_for : {live : VariableSet} {m : Moment} {c : Contents} (h : Ready plan live m c) (g : ℕ) → depth_of m + 1 ≤ plan.limit → h.agrees.base + plan.words m.function + plan.words g ≤ plan.private
  room_for {m = m} h g deep =
      let a = h.agrees in let room = a.room in let l1 = fine.largest m.function in let l2 = fine.largest g in
      let two = product (plan.limit + 1 - depth_of m) plan.largest (omega arith) in
      omega arith
    where
      product : (n k : ℕ) → 1 < n → k + k ≤ n * k
      product zero k h = absurd (omega arith)
      product (suc zero) k h = absurd (omega arith)
      product (suc (suc n)) k h = omega arith

  -- what is kept of a variable, or stays where it is
  one : {live : VariableSet} {m : Moment} (base g u : ℕ) (kept' : VariableSet) (c1 c2 c3 : Contents) (h1 : Ready plan live m c1) → h1.agrees.base ≡ base → Saved (registers_in (plan.home m.function) (variables m.function) (unspared plan m.function g kept')) base c1 c2 → ((i : ℕ) → c3.word i ≡ c2.word i) →
      ((r : ℕ) → is_home_register r ≡ true → plan.spares g r ≡ true → c3.register r ≡ c1.register r) → kept' u ≡ true → live u ≡ true → u < variables m.function → (home : Home) → plan.home m.function u ≡ home → kept (plan.spares g) c3 base home ≡ m.env u
  one {m = m} base g u kept' c1 c2 c3 h1 based saved words stays k l below (Register r) e =
      let good : is_home_register r ≡ true = (let z = fine.homes m.function u in rw e at z) in
      let a = h1.agrees.variables u l in
      let has : c1.register r ≡ m.env u = rw e at a in
      by good has (plan.spares g r) refl
    where
      by : is_home_register r ≡ true → c1.register r ≡ m.env u → (b : Bool) → plan.spares g r ≡ b → (if b then c3.register r else c3.word (base + kept_at r)) ≡ m.env u
      by good has true f = stays r good f ∙ has
      by good has false f =
          let spare : is_spared (plan.spares g) (plan.home m.function u) ≡ false = ap (is_spared (plan.spares g)) e ∙ f in
          let still : unspared plan m.function g kept' u ≡ true = rw (k, spare) refl in
          words (base + kept_at r) ∙ (saved.kept r good (kept_register (plan.home m.function) (variables m.function) u r (unspared plan m.function g kept') below still e good) ∙ has)
  one {m = m} base g u kept' c1 c2 c3 h1 based saved words stays k l below (Slot i) e =
      let a = h1.agrees.variables u l in
      let b : c1.word (h1.agrees.base + slot_at i) ≡ m.env u = rw e at a in
      words (base + slot_at i) ∙ (saved.others (base + slot_at i) (inr (omega arith)) ∙ (rw based at b))

  -- what waited waits still where registers are kept
  still_waits : (rs : List ℕ) (base : ℕ) (c c' : Contents) → Saved rs base c c' → (q : ℕ) → is_home_register q ≡ true → c.word (base + kept_at q) ≡ c.register q → c'.word (base + kept_at q) ≡ c'.register q
  still_waits rs base c c' saved q good same = by (among q rs) refl
    where
      by : (b : Bool) → among q rs ≡ b → c'.word (base + kept_at q) ≡ c'.register q
      by true e = let low = home_register q good in saved.kept q good e ∙ sym (saved.registers q (omega arith))
      by false e = let low = home_register q good in saved.unkept q good e ∙ (same ∙ sym (saved.registers q (omega arith)))

  -- an argument is in its parameter's home
  in_home : (base b g u v : ℕ) (c : Contents) → ((t : ℕ) → is_home_register t ≡ true → plan.home g u ≡ Register t → c.register t ≡ v) → ((i : ℕ) → plan.home g u ≡ Slot i → c.word (base + (b + slot_at i)) ≡ v) → held c (base + b) (plan.home g u) ≡ v
  in_home base b g u v c register slot = by (plan.home g u) (fine.homes g u) refl
    where
      by : (home : Home) → IsHome (variables g) home → plan.home g u ≡ home → held c (base + b) home ≡ v
      by (Register t) good is = register t good is
      by (Slot i) good is = let same : base + b + slot_at i ≡ base + (b + slot_at i) = omega arith in subst (λ (n : ℕ). c.word n ≡ v) (sym same) (slot i is)

  pub prepares : {live : VariableSet} {m : Moment} {k : ℕ} {p : Processor} (v : Option ℕ) (behind : VariableSet) (g : ℕ) (xs : List Argument) (w : CallFrame) (h : Stands plan live m k p) → w.live ≡ (λ u. behind u && not (is v u)) →
      ((u : ℕ) → in_arguments xs u ≡ true → live u ≡ true) → ((u : ℕ) → w.live u ≡ true → live u ≡ true) → ((u : ℕ) → live u ≡ true → u < variables m.function) → AreGiven xs → HaveHomes plan g (gives xs) → plan.leaf m.function ≡ false → IsWithin plan (called plan g xs w m) →
      k + length (arguments_code plan m.function g xs ++ (save_code (registers_in (plan.home m.function) (variables m.function) (unspared plan m.function g w.live)) ++ (parameters_code plan m.function g xs ++ deeper_code plan m.function g))) < 2 ^ 29 →
      CodeAt s.code k (arguments_code plan m.function g xs ++ (save_code (registers_in (plan.home m.function) (variables m.function) (unspared plan m.function g w.live)) ++ (parameters_code plan m.function g xs ++ deeper_code plan m.function g))) →
      Comes s (length (arguments_code plan m.function g xs ++ (save_code (registers_in (plan.home m.function) (variables m.function) (unspared plan m.function g w.live)) ++ (parameters_code plan m.function g xs ++ deeper_code plan m.function g)))) p
      (Prepared plan m w h.agrees.base g xs (k + length (arguments_code plan m.function g xs ++ (save_code (registers_in (plan.home m.function) (variables m.function) (unspared plan m.function g w.live)) ++ (parameters_code plan m.function g xs ++ deeper_code plan m.function g)))))
  prepares {live} {m} {k} {p} v behind g xs w h is_live reads keeps scope numbers homes calls within small at =
      let to : ℕ → Env → Processor → Type 0 = λ j env q. Prepared plan m w h.agrees.base g xs j q in
      let h0 = ready s plan variables fine h in
      let base : ℕ = h.agrees.base in
      let rs : List ℕ = registers_in (plan.home m.function) (variables m.function) (unspared plan m.function g w.live) in
      let passed : List Inst = parameters_code plan m.function g xs in
      let deep = within.depth in let top = within.frame in let long = fine.words m.function in let wide = fine.private in let most = fine.common in let lim = fine.limit in
      let inside = room_for h0 g (omega arith) in
      let counted : counted_depth plan m.function (depth_of m) ≡ depth_of m = ap (λ (leaf : Bool). if leaf then depth_of m - 1 else depth_of m) calls in
      let run : Runs s plan.private to (arguments_code plan m.function g xs ++ (save_code rs ++ (passed ++ deeper_code plan m.function g))) h.contents (Went m.env) =
      runs_arguments s plan variables fine to g xs (save_code rs ++ (passed ++ deeper_code plan m.function g)) h0 calls reads numbers homes.apart inside (λ c1 gave.
      let h1 = gave.ready in
      let p1 : c1.register 2 ≡ 4 * base = own_frame s plan variables fine h1 (calls_framed s plan variables fine m.function calls) ∙ ap (λ n. 4 * n) gave.based in
      runs_save s plan variables fine to base rs (passed ++ deeper_code plan m.function g) (λ q a. register_kept (plan.home m.function) (variables m.function) q (unspared plan m.function g w.live) a) p1 (omega arith) h1.fits h1.small (λ c2 saved.
      let p2 : c2.register 2 ≡ 4 * base = saved.registers 2 (omega arith) ∙ p1 in
      let h2 = ready_far s plan variables fine to h1 (λ i far near. saved.others i (subst (λ (b : ℕ). (i ≤ b) ⊎ (b + 19 ≤ i)) gave.based far)) saved.registers saved.fits saved.small in
      let waits = wait_on s plan variables fine to m.function g base c1 c2 xs (still_waits rs base c1 c2 saved) gave.waits in
      runs_parameters s plan variables fine to base g xs (deeper_code plan m.function g) h2 calls reads numbers homes p2 (omega arith) waits (λ c3 handed.
      let h3 = handed.ready in
      let last : Runs s plan.private to (deeper_code plan m.function g ++ []) c3 (Went m.env) = runs_deeper s plan to m.function g base m.frame [] h3.zero h3.fits (handed.two ∙ p2) h3.agrees.frame (omega arith) (omega arith) (λ c4 moved.
      runs_nothing s plan.private to {env = m.env} (λ j q shows. record {
        contents = c4;
        shows = shows;
        two = moved.two;
        three = moved.three;
        four = λ e. moved.others 4 (omega arith) (omega arith) (omega arith) ∙ h3.agrees.addresses e;
        residents = λ n r e.
            let high = resident_high (resident_home 27 plan.residents n) r e in
            moved.others r (omega arith) (omega arith) (omega arith) ∙ h3.agrees.residents n r e;
        ten = λ e. moved.others 10 (omega arith) (omega arith) (omega arith) ∙ (h3.agrees.depth e ∙ counted);
        given = λ u e. in_home base (plan.words m.function) g u (given xs m.env u) c4
            (λ t good which. (let low = home_register t good in moved.others t (omega arith) (omega arith) (omega arith) ∙ handed.given u e t which))
            (λ i which. moved.words (base + (plan.words m.function + slot_at i)) ∙ (handed.words (base + (plan.words m.function + slot_at i)) ∙ (saved.others (base + (plan.words m.function + slot_at i)) (inr (omega arith)) ∙ gave.slots u e i which)));
        variables = λ u e. one base g u w.live c1 c2 c4 h1 gave.based saved (λ i. moved.words i ∙ handed.words i)
            (λ r good f. (let low = home_register r good in moved.others r (omega arith) (omega arith) (omega arith) ∙ (handed.others r (not_given s plan variables fine to g r xs (λ z some. homes.unspared z r some f)) ∙ saved.registers r (omega arith)))) e (keeps u e) (scope u (keeps u e)) (plan.home m.function u) refl;
        waiting = waiting_same s plan variables fine c1 c4 none_spared none_spared (c1.word base) (c4.word base) base m.frame m.waiting (moved.words base ∙ (handed.words base ∙ saved.others base (inl (omega arith)))) (λ i l. moved.words i ∙ (handed.words i ∙ saved.others i (inl l))) (λ r. refl) (λ r good f. absurd (let no : false ≡ true = f in cc))
            (subst (λ (b : ℕ). AreWaiting plan c1 none_spared (c1.word b) b m.frame m.waiting) gave.based (waiting_kept s plan variables fine m.function c1 h1.agrees.base m.frame m.waiting calls h1.agrees.waiting));
      })) in runs_alone s plan.private to (deeper_code plan m.function g) last))) in
      run.from k small at p h.shows

  -- ---- the jump, and the entry code

  small_immediate : (n : ℕ) → n < 2 ^ 11 → is_immediate n ≡ true
  unfolding is_immediate
  small_immediate n low = grind (arith, nat_tests)

  -- which leaves the address to return to in x1, and anything in x5
  pub jumps_in : {c : Contents} {k : ℕ} {p : Processor} (target : ℕ) (near : Bool) → (near ≡ true → target < 512) → k + enter_words near < 2 ^ 29 → target < 2 ^ 29 → CodeAt s.code k (enter_code near target) → Shows plan.private c k p →
      Comes s (enter_words near) p (λ q. (c' : Contents) × Like 5 c c' × Shows plan.private (put 1 (4 * (k + enter_words near)) c') target q)
  jumps_in {c} {k} target true close small low at h =
      let reach = close refl in
      let few : 4 * target < 2 ^ 11 = omega arith in
      let is : word (lower (4 * target)) ≡ 4 * target = immediate_word (4 * target) (omega arith) (small_immediate (4 * target) few) in
      let none : c.register 0 ≡ 0 = h.zero in
      let sum : plus (c.register 0) (word (lower (4 * target))) ≡ 4 * target = rw (none, is) (omega arith) in
      let lands : plus (c.register 0) (word (lower (4 * target))) / 2 * 2 ≡ 4 * target = rw sum (omega arith) in
      let only = step s plan.private (Jalr 1 0 (lower (4 * target))) 1 0 0 0 target at.0 (λ pc x y. plus pc 4) (λ pc x y. plus x (word (lower (4 * target))) / 2 * 2) Nothing h at.1 at.2 refl (plain_computes s.copies s.side 1 0 0 (omega arith) (omega arith) (omega arith)) (plus_small (4 * k) 4) lands in
      let back : plus (4 * k) 4 ≡ 4 * (k + 1) = omega arith in
      comes_more s only.goes (comes_here s {n = 0} (c, like_itself 5 c h.fits, rw back at only.holds))
  jumps_in {c} {k} target false close small near at h =
      let u : ℕ = word (upper (4 * target)) in
      let first = step s plan.private (Lui 5 (upper (4 * target))) 5 0 0 0 (k + 1) at.0 (λ pc x y. word (upper (4 * target))) (λ pc x y. plus pc 4) Nothing h at.1 at.2 refl (plain_computes s.copies s.side 5 0 0 (omega arith) (omega arith) (omega arith)) (upper_small (4 * target)) (omega arith) in
      let sum : plus u (word (lower (4 * target))) ≡ 4 * target = halves (4 * target) (omega arith) in
      let lands : plus u (word (lower (4 * target))) / 2 * 2 ≡ 4 * target = rw sum (omega arith) in
      let second = step s plan.private (Jalr 1 5 (lower (4 * target))) 1 5 0 0 target at.3.0 (λ pc x y. plus pc 4) (λ pc x y. plus x (word (lower (4 * target))) / 2 * 2) Nothing first.holds at.3.1 at.3.2 refl (plain_computes s.copies s.side 1 5 0 (omega arith) (omega arith) (omega arith)) (plus_small (4 * (k + 1)) 4) lands in
      let back : plus (4 * (k + 1)) 4 ≡ 4 * (k + 2) = omega arith in
      comes_more s first.goes (comes_more s second.goes (comes_here s {n = 0} (put 5 u c, like_put 5 u c (upper_small (4 * target)) h.fits, rw back at second.holds)))

  step_down : (n k : ℕ) → 0 < n → n * k ≡ k + (n - 1) * k
  step_down zero k h = absurd (omega arith)
  step_down (suc n) k h = let one : suc n - 1 ≡ n = omega arith in rw one (omega arith)

  -- the called function finds the address to return to, and its parameters in their homes
  record Arrived (m : Moment) (w : CallFrame) (base g : ℕ) (before' c : Contents) : Type 0 where
    pub back : return_address plan g c (base + plan.words m.function) ≡ 4 * w.back
    pub words : (i : ℕ) → i ≢ base + plan.words m.function → c.word i ≡ before'.word i
    pub registers : (r : ℕ) → is_home_register r ≡ true → c.register r ≡ before'.register r
    pub two : c.register 2 ≡ before'.register 2
    pub three : c.register 3 ≡ before'.register 3
    pub four : c.register 4 ≡ before'.register 4
    pub ten : plan.by_a ≡ true → c.register 10 ≡ counted_depth plan g (before'.register 10 + 1)
    pub residents : (n r : ℕ) → resident_register (resident_home 27 plan.residents n) ≡ Some r → c.register r ≡ before'.register r

  arrives : {live : VariableSet} {m : Moment} {k : ℕ} {p : Processor} (v : Option ℕ) (behind : VariableSet) (g : ℕ) (xs : List Argument) {c0 c : Contents} (h : Ready plan live m c0) → ((u : ℕ) → entries g u ≡ true → gives xs u ≡ true) → k + enter_words plan.near < 2 ^ 29 → IsWithin plan (called plan g xs (waiting_of v behind (k + enter_words plan.near) m) m) →
      (q : Prepared plan m (waiting_of v behind (k + enter_words plan.near) m) h.agrees.base g xs k p) → Arrived m (waiting_of v behind (k + enter_words plan.near) m) h.agrees.base g q.contents c → Agrees plan (entries g) (called plan g xs (waiting_of v behind (k + enter_words plan.near) m) m) c
  arrives {live} {m} {k} v behind g xs {c0} {c} h wanted small within q a =
      let b : ℕ = h.agrees.base + plan.words m.function in
      let long = fine.words m.function in
      let deep = within.depth in
      let room = h.agrees.room in let wide = fine.largest m.function in
      let once = step_down (plan.limit + 1 - depth_of m) plan.largest (omega arith) in
      let same : plan.limit + 1 - depth_of m - 1 ≡ plan.limit + 1 - (depth_of m + 1) = omega arith in
      let next : depth_of m + 1 ≡ depth_of (called plan g xs (waiting_of v behind (k + enter_words plan.near) m) m) = omega arith in
      let room' : h.agrees.base + (plan.largest + (plan.limit + 1 - (depth_of m + 1)) * plan.largest) ≤ plan.private = (rw (once, same) at room) in
      record {
        base = b;
        variables = λ u e. parameter (plan.home g u) (fine.homes g u) ∙ q.given u (wanted u e);
        pointer = a.two ∙ (q.two ∙ ap (λ n. 4 * n) (entered (plan.frameless g)));
        frame = a.three ∙ q.three;
        depth = λ e. a.ten e ∙ (ap (λ (n : ℕ). counted_depth plan g (n + 1)) (q.ten e) ∙ ap (λ (n : ℕ). counted_depth plan g n) next);
        addresses = λ e. a.four ∙ q.four e;
        residents = λ n r e. a.residents n r e ∙ q.residents n r e;
        waiting = (
          h.agrees.base,
          refl,
          refl,
          h.agrees.within.frame,
          room,
          small,
          a.back,
          (λ u e. below u (plan.home m.function u) (fine.homes m.function u) ∙ q.variables u e),
          waiting_same s plan variables fine q.contents c none_spared none_spared (q.contents.word h.agrees.base) (c.word h.agrees.base) h.agrees.base m.frame m.waiting (a.words h.agrees.base (omega arith)) (λ i l. a.words i (omega arith)) (λ r. refl) (λ r good e. absurd (let no : false ≡ true = e in cc)) q.waiting,
        );
        room = rw (← next) (omega arith);
        within = within;
      }
    where
      -- a frameless function leaves x2 at the caller's frame
      entered : (frameless : Bool) → (if frameless then h.agrees.base else h.agrees.base + plan.words m.function) ≡ (if frameless then h.agrees.base + plan.words m.function - plan.words m.function else h.agrees.base + plan.words m.function)
      entered true = omega arith
      entered false = refl

      parameter : (home : Home) → IsHome (variables g) home → held c (h.agrees.base + plan.words m.function) home ≡ held q.contents (h.agrees.base + plan.words m.function) home
      parameter (Register r) good = a.registers r good
      parameter (Slot i) good = a.words (h.agrees.base + plan.words m.function + slot_at i) (omega arith)

      below : (u : ℕ) (home : Home) → IsHome (variables m.function) home → kept (plan.spares g) c h.agrees.base home ≡ kept (plan.spares g) q.contents h.agrees.base home
      below u (Register r) good = by (plan.spares g r)
        where
          by : (b : Bool) → (if b then c.register r else c.word (h.agrees.base + kept_at r)) ≡ (if b then q.contents.register r else q.contents.word (h.agrees.base + kept_at r))
          by true = a.registers r good
          by false = let long = fine.words m.function in let l = kept_small r good in a.words (h.agrees.base + kept_at r) (omega arith)
      below u (Slot i) good = let long = fine.words m.function in a.words (h.agrees.base + slot_at i) (omega arith)

  -- what a function begins with: the address to return to, which is in x1, is where the function looks for it, and the function
  -- is counted
  pub record Opened (f base : ℕ) (c c' : Contents) : Type 0 where
    pub address : return_address plan f c' base ≡ c.register 1
    pub ten : plan.by_a ≡ true → c'.register 10 ≡ counted_depth plan f (c.register 10 + 1)
    pub words : (i : ℕ) → i ≢ base → c'.word i ≡ c.word i
    pub registers : (j : ℕ) → j ≢ 10 → c'.register j ≡ c.register j
    pub fits : (j : ℕ) → c'.register j < 2 ^ 32
    pub small : (i : ℕ) → c'.word i < 2 ^ 32

  pub runs_prologue : {c : Contents} {d : Deed} (to : ℕ → Env → Processor → Type 0) (f base : ℕ) (is : List Inst) → (plan.leaf f ≡ false → c.register 2 ≡ 4 * base) → base < plan.private → ((j : ℕ) → c.register j < 2 ^ 32) → ((i : ℕ) → c.word i < 2 ^ 32) → (plan.by_a ≡ true → c.register 10 < 2 ^ 20) →
      ((c' : Contents) → Opened f base c c' → Runs s plan.private to is c' d) → Runs s plan.private to (prologue_code plan.by_a (plan.leaf f) ++ is) c d
  runs_prologue {c} {d} to f base is pointer inside fits small deep run = by (plan.leaf f) refl
    where
      -- by what kind of function it is
      found_in : (c' : Contents) (leaf : Bool) → plan.leaf f ≡ leaf → return_address plan f c' base ≡ (if leaf then c'.register 1 else c'.word base)
      found_in c' leaf e = ap (λ (leaf : Bool). if leaf then c'.register 1 else c'.word base) e

      counts_as : (leaf : Bool) → plan.leaf f ≡ leaf → counted_depth plan f (c.register 10 + 1) ≡ (if leaf then c.register 10 + 1 - 1 else c.register 10 + 1)
      counts_as leaf e = ap (λ (leaf : Bool). if leaf then c.register 10 + 1 - 1 else c.register 10 + 1) e

      by : (leaf : Bool) → plan.leaf f ≡ leaf → Runs s plan.private to ((if leaf then [] else Sw 2 1 (pos 0) ∷ count_code plan.by_a (pos 1)) ++ is) c d
      by true e =
          let none : c.register 10 ≡ c.register 10 + 1 - 1 = omega arith in
          run c (record { address = found_in c true e; ten = λ a. none ∙ sym (counts_as true e); words = λ i ne. refl; registers = λ j ne. refl; fits = fits; small = small })
      by false e =
          let wide = fine.private in
          let v : ℕ = c.register 1 in
          let found : plus (c.register 2) (word (pos 0)) ≡ 4 * base = rw (pointer e) (omega arith) in
          let c2 : Contents = store base v c in
          let here : c2.word base ≡ v = grind (arith, nat_tests) in
          let others : (i : ℕ) → i ≢ base → c2.word i ≡ c.word i = λ i ne. (grind (arith, nat_tests)) in
          let few : (i : ℕ) → c2.word i < 2 ^ 32 = λ i. choice_small (nat_eq i base) v (c.word i) (fits 1) (small i) in
          let more : plan.by_a ≡ true → plus (c.register 10) (word (pos 1)) ≡ c.register 10 + 1 = λ a. (let low = deep a in omega arith) in
          runs_quiet s plan.private to (stores_word s plan.private to 2 1 (pos 0) base (omega arith) (omega arith) found inside) (
          runs_count s plan to {c = c2} (c.register 10 + 1) (pos 1) is fits more (λ c3 counts.
          run c3 (record {
            address = found_in c3 false e ∙ (counts.words base ∙ here);
            ten = λ a. counts.ten a ∙ sym (counts_as false e);
            words = λ i ne. counts.words i ∙ others i ne;
            registers = λ j ne. counts.others j ne;
            fits = counts.fits;
            small = λ i. subst (λ (x : ℕ). x < 2 ^ 32) (sym (counts.words i)) (few i);
          })))

  pub enters : {live : VariableSet} {m : Moment} {k : ℕ} {p : Processor} (v : Option ℕ) (behind : VariableSet) (g : ℕ) (xs : List Argument) {c : Contents} (h : Ready plan live m c) → g < plan.functions → ((u : ℕ) → entries g u ≡ true → gives xs u ≡ true) → k + enter_words plan.near < 2 ^ 29 → IsWithin plan (called plan g xs (waiting_of v behind (k + enter_words plan.near) m) m) →
      CodeAt s.code k (enter_code plan.near (plan.entry g)) → Prepared plan m (waiting_of v behind (k + enter_words plan.near) m) h.agrees.base g xs k p →
      Comes s (enter_words plan.near + length (entry_code plan g)) p (Stands plan (entries g) (called plan g xs (waiting_of v behind (k + enter_words plan.near) m) m) (plan.start g))
  enters {live} {m} {k} {p} v behind g xs {c} h there wanted small within at q =
      let w : CallFrame = waiting_of v behind (k + enter_words plan.near) m in
      let base : ℕ = h.agrees.base in
      let b : ℕ = base + plan.words m.function in
      let long = fine.words g in let wide = fine.private in
      let deep = within.depth in
      let inside = room_for h g (omega arith) in
      let entry = linked.entry g there in let start = linked.start g there in let near = linked.near g there in
      comes_then s (jumps_in (plan.entry g) plan.near (linked.close g there) small (omega arith) at q.shows) (λ r j.
      let c1 : Contents = put 1 (4 * (k + enter_words plan.near)) j.0 in
      let to : ℕ → Env → Processor → Type 0 = λ word env o. Stands plan (entries g) (called plan g xs w m) word o in
      let l1 = j.1 in
      let l2 = like_put 1 (4 * (k + enter_words plan.near)) j.0 (omega arith) l1.fits in
      let pointer : plan.leaf g ≡ false → c1.register 2 ≡ 4 * b =
      λ calls. l1.registers 2 (omega arith) ∙ (q.two ∙ ap (λ (frameless : Bool). 4 * (if frameless then base else b)) (calls_framed s plan variables fine g calls)) in
      let lim = fine.limit in
      let low : depth_of m < 2 ^ 20 = omega arith in
      let last : Runs s plan.private to (prologue_code plan.by_a (plan.leaf g) ++ []) c1 (Went m.env) = runs_prologue to g b [] pointer (omega arith) l2.fits (λ i. subst (λ (x : ℕ). x < 2 ^ 32) (sym (l1.words i)) (q.shows.holds i)) (λ e. subst (λ (x : ℕ). x < 2 ^ 20) (sym (l1.registers 10 (omega arith) ∙ q.ten e)) low) (λ c2 opened.
      runs_nothing s plan.private to {env = m.env} (λ word o shows. record {
        contents = c2;
        shows = shows;
        agrees = arrives v behind g xs h wanted (omega arith) within q (record {
          back = opened.address;
          words = λ i ne. opened.words i ne ∙ l1.words i;
          registers = λ r good. (let high = home_register r good in opened.registers r high.2 ∙ (l2.registers r (omega arith) ∙ l1.registers r (omega arith)));
          two = opened.registers 2 (omega arith) ∙ l1.registers 2 (omega arith);
          three = opened.registers 3 (omega arith) ∙ l1.registers 3 (omega arith);
          four = opened.registers 4 (omega arith) ∙ l1.registers 4 (omega arith);
          ten = λ e. opened.ten e ∙ ap (λ (n : ℕ). counted_depth plan g (n + 1)) (l1.registers 10 (omega arith));
          residents = λ n o e.
              let high = resident_high (resident_home 27 plan.residents n) o e in
              opened.registers o (omega arith) ∙ (l2.registers o (omega arith) ∙ l1.registers o (omega arith));
        });
      })) in
      let run : Runs s plan.private to (entry_code plan g) c1 (Went m.env) = runs_alone s plan.private to (entry_code plan g) last in
      subst (λ (n : ℕ). Comes s (length (entry_code plan g)) r (Stands plan (entries g) (called plan g xs w m) n)) (sym start) (run.from (plan.entry g) (omega arith) entry r j.2))
