-- A return's walk: to just behind the call's jump, and from there to the end of the call's block.
use Rattle.std.proofs.Common.{◌≡◌, ◌≢◌, ℕ, zero, ◌+◌, ◌-◌, ◌*◌, ◌/◌, ◌^◌, ◌<◌, ◌≤◌, Bool, true, false, not, ◌&&◌, List, [], ◌∷◌, ◌++◌, Option, Some, None, length, refl, sym, ap, ◌∙◌, arith, length-append}
use Rattle.std.specs.Prelude.{nat_eq, pos, negsuc, if◌then◌else◌}
use Rattle.std.proofs.lemmas.Bool.Decides.{nat_tests}
use Rattle.dae_base.specs.Words.{plus, word}
use Rattle.dae_base.proofs.Laws.{plus_small, times_least}
use Rattle.dae_encode.specs.declared.QueueUse.TheVariants.{Nothing}
use Rattle.dae_encode.specs.declared.Inst.{Inst}
use Rattle.dae_encode.specs.declared.Inst.TheVariants.{Jalr, Lw, Addi}
use Rattle.dae_encode.specs.Processor.{Processor}
use Rattle.dae_ir.specs.Classes.{VariableSet}
use Rattle.dae_meaning.specs.Variables.{Env}
use Rattle.dae_ir.specs.Form.{value}
use Rattle.dae_ir.specs.Deeds.{Deed, Went}
use Rattle.dae_ir.specs.declared.form.Operand.{Operand}
use Rattle.dae_select_walks.specs.declared.Home.{Home}
use Rattle.dae_select_walks.specs.declared.Home.TheVariants.{Register, Slot}
use Rattle.dae_select_walks.specs.Walks.{WalkSetting, Comes}
use Rattle.dae_select_walks.specs.Layout.{CodeAt}
use Rattle.dae_select_walks.specs.Live.{in_option, is}
use Rattle.dae_select_walks.specs.Homes.{Contents, held, kept, is_home_register, kept_at, slot_at, resident_home, none_spared}
use Rattle.dae_select_walks.specs.Agrees.{Plan, Moment, CallFrame, Shows, Stands, AreIn, AreWaiting, AreResident, IsWithin, depth_of, return_address, counted_depth, pointed, words_below}
use Rattle.dae_select_walks.specs.Compiled.{Lands, IsAnswered, with_result, waiting_of, result_of, with_env}
use Rattle.dae_select_walks.proofs.LawsOfWalks.{comes_here, comes_map, comes_more, comes_then}
use Rattle.dae_select_walks.proofs.LawsOfWalks.{put, step}
use Rattle.dae_select_blocks.specs.Blocks.{register_or, move_code, back_code, restore_code, result_code, count_code, epilogue_code, leave_code}
use Rattle.dae_select_blocks.specs.Code.{registers_in, is_spared, unspared}
use Rattle.dae_select_blocks.specs.Fits.{Fits}
use Rattle.dae_select_blocks.specs.Wanted.{IsWantedResult}
use Rattle.dae_select_blocks.proofs.Plain.{plain_computes, put_nowhere, put_same, put_other, computes, loads_word}
use Rattle.dae_select_blocks.proofs.Runs.{Runs, runs_nothing, runs_quiet, code_take, code_drop, runs_alone}
use Rattle.dae_select_blocks.proofs.Agreement.{Ready, ready_like, resident_high, frame_inside, waiting_same, calls_framed, own_frame, home_register, calls_spare}
use Rattle.dae_select_blocks.proofs.Operands.{like_put, runs_move}
use Rattle.dae_select_blocks.proofs.Computing.{plus_zero, is_scratch, register_plain}
use Rattle.dae_select_blocks.proofs.Actions.{To, ends, ready_stays, kept as goes_home}
use Rattle.dae_select_blocks.proofs.Calls.{kept_register, register_kept, Restored, runs_restore, among_not, among_other, among_spared}
use Rattle.dae_select_blocks.proofs.Deeper.{Moved, runs_count, runs_back}
use Rattle.dae_select_blocks.proofs.Jumps.{ready}

module _ (s : WalkSetting) (plan : Plan) (variables : ℕ → ℕ) (fine : Fits s plan variables) where
  -- the processor has gone back to a word of the code, with the result in x6
  pub record Goes' (m : Moment) (target : ℕ) (result : Option ℕ) (k : ℕ) (p : Processor) : Type 0 where
    pub contents : Contents
    pub shows : Shows plan.private contents k p
    pub base : ℕ
    pub pointer : contents.register 2 ≡ 4 * pointed plan m.function m.waiting base
    pub begins : contents.register 3 ≡ m.frame
    pub low : m.frame ≤ plan.memory
    pub depth : plan.by_a ≡ true → contents.register 10 ≡ length m.waiting
    pub addresses : plan.by_a ≡ true → contents.register 4 ≡ plan.memory - 16
    pub residents : AreResident plan contents
    pub waiting : AreWaiting plan contents (plan.spares m.function) (4 * target) base m.frame m.waiting
    pub given : (x : ℕ) → result ≡ Some x → contents.register 6 ≡ x

  -- what a function ends with: the address comes into x1, where it isn't there, and the function isn't counted any more
  record Closed (m : Moment) (target : ℕ) (c c' : Contents) : Type 0 where
    pub link : c'.register 1 ≡ 4 * target
    pub ten : plan.by_a ≡ true → c'.register 10 ≡ length m.waiting
    pub words : (i : ℕ) → c'.word i ≡ c.word i
    pub registers : (j : ℕ) → j ≢ 1 → j ≢ 10 → c'.register j ≡ c.register j

  runs_epilogue : {live : VariableSet} {m : Moment} {c : Contents} {d : Deed} (to : ℕ → Env → Processor → Type 0) (target : ℕ) (is : List Inst) (h : Ready plan live m c) → return_address plan m.function c h.agrees.base ≡ 4 * target →
      ((c' : Contents) → Closed m target c c' → Runs s plan.private to is c' d) → Runs s plan.private to (epilogue_code plan.by_a (plan.leaf m.function) ++ is) c d
  runs_epilogue {m = m} {c = c} {d = d} to target is h there run = by (plan.leaf m.function) refl
    where
      by : (leaf : Bool) → plan.leaf m.function ≡ leaf → Runs s plan.private to ((if leaf then [] else Lw 1 2 (pos 0) ∷ count_code plan.by_a (negsuc 0)) ++ is) c d
      by true e =
          let found : return_address plan m.function c h.agrees.base ≡ c.register 1 = ap (λ (leaf : Bool). if leaf then c.register 1 else c.word h.agrees.base) e in
          let counted : counted_depth plan m.function (depth_of m) ≡ depth_of m - 1 = ap (λ (leaf : Bool). if leaf then depth_of m - 1 else depth_of m) e in
          let before : depth_of m - 1 ≡ length m.waiting = omega arith in
          run c (record { link = sym found ∙ there; ten = λ a. h.agrees.depth a ∙ (counted ∙ before); words = λ i. refl; registers = λ j one ten. refl })
      by false e =
          let base : ℕ = h.agrees.base in
          let inside = frame_inside s plan variables fine h in let long = fine.words m.function in let wide = fine.private in
          let v : ℕ = c.word base in
          let found : return_address plan m.function c base ≡ v = ap (λ (leaf : Bool). if leaf then c.register 1 else c.word base) e in
          let counted : counted_depth plan m.function (depth_of m) ≡ depth_of m = ap (λ (leaf : Bool). if leaf then depth_of m - 1 else depth_of m) e in
          let own : c.register 2 ≡ 4 * base = own_frame s plan variables fine h (calls_framed s plan variables fine m.function e) in
          let address : plus (c.register 2) (word (pos 0)) ≡ 4 * base = rw own (omega arith) in
          let c1 : Contents = put 1 v c in
          let like = like_put 1 v c (h.small base) h.fits in
          let ten : plan.by_a ≡ true → c.register 10 ≡ depth_of m = λ a. h.agrees.depth a ∙ counted in
          let less : plan.by_a ≡ true → plus (c1.register 10) (word (negsuc 0)) ≡ length m.waiting = λ a. (let deep = h.agrees.within.depth in let lim = fine.limit in rw (ten a) (omega arith)) in
          runs_quiet s plan.private to (loads_word s plan.private to {c = c} 1 2 (pos 0) base (omega arith) (omega arith) address (omega arith)) (
          runs_count s plan to {c = c1} (length m.waiting) (negsuc 0) is like.fits less (λ c2 counts.
          run c2 (record {
            link = counts.others 1 (omega arith) ∙ (put_same 1 v c (omega arith) (omega arith) ∙ (sym found ∙ there));
            ten = counts.ten;
            words = counts.words;
            registers = λ j one ten. counts.others j ten ∙ put_other 1 v j c one;
          })))

  -- whatever x1 is then
  goes_back_so : {live : VariableSet} {m : Moment} {c : Contents} {k : ℕ} {p : Processor} (c1 : Contents) (target : ℕ) (result : Option ℕ) (h : Ready plan live m c) → ((x : ℕ) → result ≡ Some x → c.register 6 ≡ x) → return_address plan m.function c h.agrees.base ≡ 4 * target →
      Closed m target c c1 → Shows plan.private c1 k p → Goes' m target result k p
  goes_back_so {live} {m} {c} c1 target result h given there closed shows =
      let a = h.agrees in
      record {
        contents = c1;
        shows = shows;
        base = a.base;
        pointer = closed.registers 2 (omega arith) (omega arith) ∙ a.pointer;
        begins = closed.registers 3 (omega arith) (omega arith) ∙ a.frame;
        low = a.within.frame;
        depth = closed.ten;
        addresses = λ e. closed.registers 4 (omega arith) (omega arith) ∙ a.addresses e;
        residents = λ n r e.
            let high = resident_high (resident_home 27 plan.residents n) r e in
            closed.registers r (omega arith) (omega arith) ∙ a.residents n r e;
        waiting = waiting_same s plan variables fine c c1 (plan.spares m.function) (plan.spares m.function) (return_address plan m.function c a.base) (4 * target) a.base m.frame m.waiting (sym there) (λ i l. closed.words i) (λ r. refl)
            (λ r good e. (let low = home_register r good in closed.registers r (omega arith) low.2)) a.waiting;
        given = λ x e. closed.registers 6 (omega arith) (omega arith) ∙ given x e;
      }

  -- the jump goes to the address that is in x1
  jumps_back : {live : VariableSet} {m : Moment} {c c1 : Contents} {k : ℕ} {p : Processor} (target : ℕ) (result : Option ℕ) (h : Ready plan live m c) → ((x : ℕ) → result ≡ Some x → c.register 6 ≡ x) → return_address plan m.function c h.agrees.base ≡ 4 * target → target < 2 ^ 29 →
      Closed m target c c1 → CodeAt s.code k (Jalr 0 1 (pos 0) ∷ []) → Shows plan.private c1 k p → Comes s 1 p (Goes' m target result target)
  jumps_back {c1 = c1} {k = k} target result h given there near closed at shows =
      let lands : plus (c1.register 1) (word (pos 0)) / 2 * 2 ≡ 4 * target = rw closed.link (omega arith) in
      let only = step s plan.private (Jalr 0 1 (pos 0)) 0 1 0 0 target at.0 (λ pc x y. plus pc 4) (λ pc x y. plus x (word (pos 0)) / 2 * 2) Nothing shows at.1 at.2 refl (plain_computes s.copies s.side 0 1 0 (omega arith) (omega arith) (omega arith)) (plus_small (4 * k) 4) lands in
      comes_more s only.goes (comes_here s {n = 0} (goes_back_so c1 target result h given there closed (rw (put_nowhere 0 (plus (4 * k) 4) c1 refl) at only.holds)))

  -- the last instructions
  lasts : {live : VariableSet} {m : Moment} {c : Contents} {k : ℕ} {p : Processor} (target : ℕ) (result : Option ℕ) (h : Ready plan live m c) → ((x : ℕ) → result ≡ Some x → c.register 6 ≡ x) → return_address plan m.function c h.agrees.base ≡ 4 * target → target < 2 ^ 29 →
      k + length (epilogue_code plan.by_a (plan.leaf m.function) ++ Jalr 0 1 (pos 0) ∷ []) < 2 ^ 29 → CodeAt s.code k (epilogue_code plan.by_a (plan.leaf m.function) ++ Jalr 0 1 (pos 0) ∷ []) → Shows plan.private c k p → Comes s (length (epilogue_code plan.by_a (plan.leaf m.function) ++ Jalr 0 1 (pos 0) ∷ [])) p (Goes' m target result target)
  lasts {live} {m} {c} {k} {p} target result h given there near small at shows =
      let code : List Inst = epilogue_code plan.by_a (plan.leaf m.function) in
      let rest : List Inst = Jalr 0 1 (pos 0) ∷ [] in
      let all : length (code ++ rest) ≡ length code + 1 = length-append code rest in
      let to : ℕ → Env → Processor → Type 0 = λ j env q. (c1 : Contents) × Shows plan.private c1 j q × Closed m target c c1 in
      let run : Runs s plan.private to code c (Went m.env) = runs_alone s plan.private to code (runs_epilogue to target [] h there (λ c1 closed. runs_nothing s plan.private to {env = m.env} (λ j q t. (c1, t, closed)))) in
      let first = run.from k (omega arith) (code_take s.code k code rest at) p shows in
      comes_map s (length (code ++ rest)) (omega arith) (λ q g. g) (
      comes_then s first (λ q t. jumps_back target result h given there near t.2 (code_drop s.code k code rest at) t.1))

  -- the address is where it was
  address_kept : {live live' : VariableSet} {m : Moment} {c c' : Contents} (h : Ready plan live m c) (h' : Ready plan live' m c') → c'.register 1 ≡ c.register 1 → c'.register 2 ≡ c.register 2 → ((i : ℕ) → c'.word i ≡ c.word i) → return_address plan m.function c' h'.agrees.base ≡ return_address plan m.function c h.agrees.base
  address_kept {m = m} {c = c} {c' = c'} h h' link two words = by (plan.leaf m.function) refl
    where
      by : (leaf : Bool) → plan.leaf m.function ≡ leaf → (if leaf then c'.register 1 else c'.word h'.agrees.base) ≡ (if leaf then c.register 1 else c.word h.agrees.base)
      by true e = link
      by false e =
          let framed = calls_framed s plan variables fine m.function e in
          let old = own_frame s plan variables fine h framed in let new = own_frame s plan variables fine h' framed in
          let based : h'.agrees.base ≡ h.agrees.base = omega arith in
          words h'.agrees.base ∙ ap c.word based

  -- to the address that the function returns to, whoever waits there
  pub leaves : {live : VariableSet} {m : Moment} {k : ℕ} {p : Processor} (y : Option Operand) (target : ℕ) (h : Stands plan live m k p) → IsWantedResult y → ((u : ℕ) → in_option y u ≡ true → live u ≡ true) → target < 2 ^ 29 → return_address plan m.function h.contents h.agrees.base ≡ 4 * target → k + length (leave_code plan.by_a (plan.leaf m.function) (plan.home m.function) y) < 2 ^ 29 → CodeAt s.code k (leave_code plan.by_a (plan.leaf m.function) (plan.home m.function) y) →
      Comes s (length (leave_code plan.by_a (plan.leaf m.function) (plan.home m.function) y)) p (Goes' m target (result_of y m.env) target)
  leaves {m = m} None target h wanted reads near there small at = lasts target None (ready s plan variables fine h) (λ x e. absurd cc) there near small at h.shows
  leaves {live} {m} {k} {p} (Some x) target h wanted reads near there small at =
      let h0 = ready s plan variables fine h in
      let code : List Inst = move_code (plan.home m.function) 6 x in
      let rest : List Inst = epilogue_code plan.by_a (plan.leaf m.function) ++ Jalr 0 1 (pos 0) ∷ [] in
      let all = length-append code rest in
      let to : ℕ → Env → Processor → Type 0 = λ j env q. (c : Contents) × Shows plan.private c j q × (h' : Ready plan live m c) × (c.register 6 ≡ value x m.env) × (return_address plan m.function c h'.agrees.base ≡ 4 * target) in
      let run : Runs s plan.private to code h.contents (Went m.env) =
      runs_alone s plan.private to code (runs_move s plan variables fine to 6 x [] h0 reads wanted (λ c1 r imm like plain same small.
      let h1 = ready_like s plan variables fine 5 (is_scratch plan 5 (omega arith) (omega arith)) like h0 in
      let c2 : Contents = put 6 (value x m.env) c1 in
      let l2 = like_put 6 (value x m.env) c1 small like.fits in
      let h2 = ready_like s plan variables fine 6 (is_scratch plan 6 (omega arith) (omega arith)) l2 h1 in
      runs_quiet s plan.private to (computes s plan.private to (Addi 6 r imm) 6 r 0 (λ x y. plus x (word imm)) refl (omega arith) plain (omega arith) (plus_small (c1.register r) (word imm))) (rw same (
      let same_address : return_address plan m.function c2 h2.agrees.base ≡ 4 * target =
      address_kept h0 h2 (l2.registers 1 (omega arith) ∙ like.registers 1 (omega arith)) (l2.registers 2 (omega arith) ∙ like.registers 2 (omega arith)) (λ i. l2.words i ∙ like.words i) ∙ there in
      runs_nothing s plan.private to {env = m.env} (λ j q shows. (c2, shows, h2, refl, same_address)))))) in
      let first = run.from k (omega arith) (code_take s.code k code rest at) p h.shows in
      comes_map s (length (leave_code plan.by_a (plan.leaf m.function) (plan.home m.function) (Some x))) (omega arith) (λ q g. g) (
      comes_then s first (λ q t. lasts target (Some (value x m.env)) t.2 (λ z e. (let same : value x m.env ≡ z = cc in t.3 ∙ same)) t.4 near (omega arith) (code_drop s.code k code rest at) t.1))

  -- a return to the call that waits
  pub return_done : {live : VariableSet} {m : Moment} {k : ℕ} {p : Processor} (y : Option Operand) (w : CallFrame) (ws : List CallFrame) (h : Stands plan live m k p) → m.waiting ≡ w ∷ ws → IsWantedResult y → ((u : ℕ) → in_option y u ≡ true → live u ≡ true) → k + length (leave_code plan.by_a (plan.leaf m.function) (plan.home m.function) y) < 2 ^ 29 → CodeAt s.code k (leave_code plan.by_a (plan.leaf m.function) (plan.home m.function) y) →
      Comes s (length (leave_code plan.by_a (plan.leaf m.function) (plan.home m.function) y)) p (Lands plan m.function w ws (result_of y m.env))
  return_done {live} {m} y w ws h is wanted reads small at =
      let waits : AreWaiting plan h.contents (plan.spares m.function) (return_address plan m.function h.contents h.agrees.base) h.agrees.base m.frame (w ∷ ws) = (let a = h.agrees.waiting in rw is at a) in
      comes_map s (length (leave_code plan.by_a (plan.leaf m.function) (plan.home m.function) y)) (omega arith) (λ q g.
      record {
        contents = g.contents;
        shows = g.shows;
        base = g.base;
        frame = m.frame;
        pointer = (let z = g.pointer in rw is at z);
        begins = g.begins;
        low = g.low;
        depth = λ e. g.depth e ∙ (rw is (omega arith));
        addresses = g.addresses;
        residents = g.residents;
        waiting = (let z = g.waiting in rw is at z);
        given = g.given;
      })
      (leaves y w.back h wanted reads waits.5 waits.6 small at)

  -- ---- the rest of the call's block

  -- the caller's frames are back, and what it kept is in its registers
  back_again : (m : Moment) (w : CallFrame) (g base below : ℕ) (c c1 c2 : Contents) → w.function ≡ m.function → w.env ≡ m.env → w.frame ≡ m.frame → IsWithin plan m → ((u : ℕ) → w.live u ≡ true → u < variables m.function) →
      c.register 0 ≡ 0 → ((i : ℕ) → c.word i < 2 ^ 32) → AreIn (kept (plan.spares g) c below) (plan.home w.function) w.live w.env → plan.leaf m.function ≡ false → AreWaiting plan c none_spared (c.word below) below w.frame m.waiting → below + (plan.limit + 1 - (length m.waiting + 1)) * plan.largest ≤ plan.private →
      (plan.by_a ≡ true → c.register 10 ≡ depth_of m) → (plan.by_a ≡ true → c.register 4 ≡ plan.memory - 16) → AreResident plan c → Moved below m.frame c c1 → Restored (registers_in (plan.home m.function) (variables m.function) (unspared plan m.function g w.live)) below c1 c2 → Ready plan w.live m c2
  back_again m w g base below c c1 c2 is_function is_env is_frame within scope none small variables' calls waiting room ten addresses residents moved restored =
      let counted : counted_depth plan m.function (depth_of m) ≡ depth_of m = ap (λ (leaf : Bool). if leaf then depth_of m - 1 else depth_of m) calls in
      record {
        zero = restored.others 0 (among_not (plan.home m.function) (variables m.function) 0 (unspared plan m.function g w.live) refl) ∙ (moved.others 0 (omega arith) (omega arith) (omega arith) ∙ none);
        fits = restored.fits;
        small = λ i. rw (restored.words i, moved.words i) (small i);
        agrees = record {
          base = below;
          variables = λ u e. one u e (plan.home m.function u) refl;
          pointer = restored.others 2 (among_not (plan.home m.function) (variables m.function) 2 (unspared plan m.function g w.live) refl)
              ∙ (moved.two ∙ sym (ap (λ (frameless : Bool). 4 * (if frameless then below - words_below plan m.waiting else below)) (calls_framed s plan variables fine m.function calls)));
          frame = restored.others 3 (among_not (plan.home m.function) (variables m.function) 3 (unspared plan m.function g w.live) refl) ∙ moved.three;
          depth = λ e. restored.others 10 (among_not (plan.home m.function) (variables m.function) 10 (unspared plan m.function g w.live) refl) ∙ (moved.others 10 (omega arith) (omega arith) (omega arith) ∙ (ten e ∙ sym counted));
          addresses = λ e. restored.others 4 (among_not (plan.home m.function) (variables m.function) 4 (unspared plan m.function g w.live) refl) ∙ (moved.others 4 (omega arith) (omega arith) (omega arith) ∙ addresses e);
          residents = λ n r e.
              let high = resident_high (resident_home 27 plan.residents n) r e in
              restored.others r (among_other (plan.home m.function) (variables m.function) r (unspared plan m.function g w.live) (λ v l. fine.apart m.function v n r l e))
              ∙ (moved.others r (omega arith) (omega arith) (omega arith) ∙ residents n r e);
          waiting = waiting_same s plan variables fine c c2 none_spared (plan.spares m.function) (c.word below) (return_address plan m.function c2 below) below m.frame m.waiting
              (ap (λ (leaf : Bool). if leaf then c2.register 1 else c2.word below) calls ∙ (restored.words below ∙ moved.words below)) (λ i l. restored.words i ∙ moved.words i) (λ r. calls_spare s plan variables fine m.function r calls)
              (λ r good e. absurd (let no : false ≡ true = e in cc)) (rw is_frame at waiting);
          room = room;
          within = within;
        };
      }
    where
      one : (u : ℕ) → w.live u ≡ true → (home : Home) → plan.home m.function u ≡ home → held c2 below home ≡ m.env u
      one u e (Register r) is =
          let good : is_home_register r ≡ true = (let z = fine.homes m.function u in rw is at z) in
          let a = variables' u e in
          let b : kept (plan.spares g) c below (Register r) ≡ m.env u = rw (is_function, is, is_env) at a in
          by good (plan.spares g r) refl b
        where
          by : is_home_register r ≡ true → (spared : Bool) → plan.spares g r ≡ spared → (if spared then c.register r else c.word (below + kept_at r)) ≡ m.env u → c2.register r ≡ m.env u
          by good true f here =
              let low = home_register r good in
              restored.others r (among_spared plan (variables m.function) m.function g r w.live f) ∙ (moved.others r (omega arith) (omega arith) (omega arith) ∙ here)
          by good false f here =
              let spare : is_spared (plan.spares g) (plan.home m.function u) ≡ false = ap (is_spared (plan.spares g)) is ∙ f in
              let still : unspared plan m.function g w.live u ≡ true = rw (e, spare) refl in
              restored.kept r (kept_register (plan.home m.function) (variables m.function) u r (unspared plan m.function g w.live) (scope u e) still is good) ∙ (moved.words (below + kept_at r) ∙ here)
      one u e (Slot i) is =
          let a = variables' u e in
          let b : c.word (below + slot_at i) ≡ m.env u = rw (is_function, is, is_env) at a in
          restored.words (below + slot_at i) ∙ (moved.words (below + slot_at i) ∙ b)

  -- the result, if it is wanted, goes home
  finish : (m : Moment) (behind : VariableSet) (v result : Option ℕ) → ((x : ℕ) → is v x ≡ true → x < variables m.function) → IsAnswered v result → {c : Contents} → Ready plan (λ u. behind u && not (is v u)) m c → ((u x : ℕ) → is v x ≡ true → behind u ≡ true → u ≢ x → plan.home m.function u ≢ plan.home m.function x) → ((x : ℕ) → result ≡ Some x → c.register 6 ≡ x) →
      Runs s plan.private (To s plan variables fine (λ u. behind u && not (is v u)) behind m) (result_code (plan.home m.function) v) c (Went (with_result v result m.env))
  finish m behind None result scope answered h apart given = ends s plan variables fine (λ u. behind u && not false) behind m m.env (ready_stays s plan variables fine (λ u. behind u && not false) behind m (λ u e. rw e refl) h)
  finish m behind (Some v) None scope answered h apart given = absurd answered
  finish m behind (Some v) (Some x) scope answered {c} h apart given =
      let live : VariableSet = λ u. behind u && not (nat_eq u v) in
      let to : ℕ → Env → Processor → Type 0 = To s plan variables fine live behind m in
      let home = plan.home m.function v in let good = fine.homes m.function v in
      let got = given x refl in
      let small : x < 2 ^ 32 = (let a = h.fits 6 in rw got at a) in
      let same : plus (c.register 6) (word (pos 0)) ≡ x = rw got (plus_zero x small) in
      let plain = register_plain s plan variables fine to (variables m.function) 5 home good (omega arith) in
      runs_quiet s plan.private to (computes s plan.private to (Addi (register_or 5 home) 6 (pos 0)) (register_or 5 home) 6 0 (λ x y. plus x (word (pos 0))) refl plain (omega arith) (omega arith) (plus_small (c.register 6) 0)) (rw same (
      goes_home s plan variables fine live behind m v x h ((λ u l ne. (rw l (grind (arith, nat_tests)), apart u v (grind (arith, nat_tests)) l ne)), scope v (grind (arith, nat_tests))) small))

  pub resumes : {m : Moment} {p : Processor} (v : Option ℕ) (g : ℕ) (behind : VariableSet) (back : ℕ) (result : Option ℕ) → IsWithin plan m → IsAnswered v result → ((u : ℕ) → behind u ≡ true → is v u ≡ false → u < variables m.function) → ((x : ℕ) → is v x ≡ true → x < variables m.function) →
      ((u x : ℕ) → is v x ≡ true → behind u ≡ true → u ≢ x → plan.home m.function u ≢ plan.home m.function x) → plan.leaf m.function ≡ false →
      Lands plan g (waiting_of v behind back m) m.waiting result p →
      back + length (back_code plan m.function g ++ (restore_code (registers_in (plan.home m.function) (variables m.function) (unspared plan m.function g (λ u. behind u && not (is v u)))) ++ result_code (plan.home m.function) v)) < 2 ^ 29 →
      CodeAt s.code back (back_code plan m.function g ++ (restore_code (registers_in (plan.home m.function) (variables m.function) (unspared plan m.function g (λ u. behind u && not (is v u)))) ++ result_code (plan.home m.function) v)) →
      Comes s (length (back_code plan m.function g ++ (restore_code (registers_in (plan.home m.function) (variables m.function) (unspared plan m.function g (λ u. behind u && not (is v u)))) ++ result_code (plan.home m.function) v))) p
      (Stands plan behind (with_env (with_result v result m.env) m) (back + length (back_code plan m.function g ++ (restore_code (registers_in (plan.home m.function) (variables m.function) (unspared plan m.function g (λ u. behind u && not (is v u)))) ++ result_code (plan.home m.function) v))))
  resumes {m} {p} v g behind back result within answered scope own apart calls l small at =
      let c : Contents = l.contents in
      let waits = l.waiting in
      let below : ℕ = waits.0 in
      let kept_set : VariableSet = λ u. behind u && not (is v u) in
      let to : ℕ → Env → Processor → Type 0 = To s plan variables fine kept_set behind m in
      let rs : List ℕ = registers_in (plan.home m.function) (variables m.function) (unspared plan m.function g kept_set) in
      let long = fine.words m.function in let deep = within.depth in let lim = fine.limit in let most = fine.common in let wide = fine.private in let large = fine.largest m.function in
      let two : c.register 2 ≡ 4 * (if plan.frameless g then below else below + plan.words m.function) = l.pointer ∙ ap (λ n. 4 * n) (returned (plan.frameless g) l.base below (plan.words m.function) waits.1) in
      let three : c.register 3 ≡ m.frame + plan.frame m.function = l.begins ∙ waits.2 in
      let room = waits.4 in let low = l.low in let begins = waits.2 in
      let once = times_least (plan.limit + 1 - (length m.waiting + 1)) plan.largest (omega arith) in
      let run : Runs s plan.private to (back_code plan m.function g ++ (restore_code rs ++ result_code (plan.home m.function) v)) c (Went (with_result v result m.env)) =
      runs_back s plan to m.function g below m.frame (restore_code rs ++ result_code (plan.home m.function) v) l.shows.zero l.shows.fits two three (omega arith) (omega arith) (λ c1 moved.
      runs_restore s plan variables fine to below rs (result_code (plan.home m.function) v) (λ q e. register_kept (plan.home m.function) (variables m.function) q (unspared plan m.function g kept_set) e) moved.two (omega arith) moved.fits (λ i. rw (moved.words i) (l.shows.holds i)) (λ c2 restored.
      let h2 = back_again m (waiting_of v behind back m) g l.base below c c1 c2 refl refl refl within (λ u e. scope u (front (behind u) (is v u) e) (rear (behind u) (is v u) e)) l.shows.zero l.shows.holds waits.7 calls waits.8 room l.depth l.addresses l.residents moved restored in
      finish m behind v result own answered h2 apart (λ x e. restored.others 6 (among_not (plan.home m.function) (variables m.function) 6 (unspared plan m.function g kept_set) refl) ∙ (moved.others 6 (omega arith) (omega arith) (omega arith) ∙ l.given x e)))) in
      run.from back small at p l.shows
    where
      -- a frameless function has left x2 where it was
      returned : (frameless : Bool) (base below words : ℕ) → base ≡ below + words → (if frameless then base - words else base) ≡ (if frameless then below else below + words)
      returned true base below words e = omega arith
      returned false base below words e = e

      front : (a b : Bool) → (a && not b) ≡ true → a ≡ true
      front true b e = refl
      front false b e = absurd cc

      rear : (a b : Bool) → (a && not b) ≡ true → b ≡ false
      rear true true e = absurd cc
      rear true false e = refl
      rear false b e = absurd cc
