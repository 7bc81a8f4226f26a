-- Operands are fetched or moved, and results go home.
use Rattle.std.proofs.Common.{◌≡◌, ◌≢◌, ℕ, ◌+◌, ◌^◌, ◌<◌, ◌≤◌, Bool, true, false, ◌&&◌, List, [], ◌∷◌, ◌++◌, Option, Some, None, refl, sym, ap, ◌∙◌, arith, append_assoc}
use Rattle.std.specs.Prelude.{nat_lt, nat_eq, if◌then◌else◌, ℤ, pos}
use Rattle.std.proofs.lemmas.Bool.Decides.{nat_tests}
use Rattle.dae_base.specs.Words.{plus, word}
use Rattle.dae_encode.specs.declared.Inst.{Inst}
use Rattle.dae_encode.specs.declared.Inst.TheVariants.{Lui, Addi}
use Rattle.dae_encode.specs.Processor.{Processor}
use Rattle.dae_ir.specs.Classes.{VariableSet}
use Rattle.dae_meaning.specs.Variables.{Env}
use Rattle.dae_ir.specs.Form.{value}
use Rattle.dae_ir.specs.Deeds.{Deed}
use Rattle.dae_ir.specs.declared.form.Operand.{Operand}
use Rattle.dae_ir.specs.declared.form.Operand.TheVariants.{Variable, Number}
use Rattle.dae_select_walks.specs.declared.Home.{Home}
use Rattle.dae_select_walks.specs.declared.Home.TheVariants.{Register, Slot}
use Rattle.dae_select_walks.specs.Walks.{WalkSetting}
use Rattle.dae_select_walks.specs.Live.{in_operand}
use Rattle.dae_select_walks.specs.Homes.{Contents, held, IsHome, is_home_register, slot_at, number_key, resident_home, resident_register}
use Rattle.dae_select_walks.specs.Agrees.{Plan, Moment}
use Rattle.dae_select_walks.proofs.LawsOfWalks.{put, store}
use Rattle.dae_select_blocks.specs.Blocks.{upper, lower, is_immediate, register_or, number_or, source, fetch_home, fetch_number, fetch, move_code, keep}
use Rattle.dae_select_blocks.specs.Fits.{Fits}
use Rattle.dae_select_blocks.specs.Wanted.{IsNumber}
use Rattle.dae_select_blocks.proofs.Halves.{halves, immediate_word}
use Rattle.dae_select_blocks.proofs.Plain.{computes, put_same, put_other}
use Rattle.dae_select_blocks.proofs.Frames.{upper_small, runs_number, runs_load, runs_store}
use Rattle.dae_select_blocks.proofs.Runs.{Runs, runs_quiet}
use Rattle.dae_select_blocks.proofs.Agreement.{Ready, Like, Gets, home_register, frame_inside, slot_framed, own_frame}

-- a scratch register that a block may use: not one that other code reads
abbrev pub IsWork : ℕ → Type 0
IsWork r = (0 < r) × (r < 28) × (2 ≢ r)

put_fits : (r v j : ℕ) (c : Contents) → v < 2 ^ 32 → ((i : ℕ) → c.register i < 2 ^ 32) → (put r v c).register j < 2 ^ 32
put_fits r v j c a b = by (nat_eq j r && (nat_lt 0 r && nat_lt r 28))
  where
    by : (t : Bool) → (if t then v else c.register j) < 2 ^ 32
    by true = a
    by false = b j

pub like_put : (r v : ℕ) (c : Contents) → v < 2 ^ 32 → ((i : ℕ) → c.register i < 2 ^ 32) → Like r c (put r v c)
like_put r v c a b = record { words = λ i. refl; registers = λ j h. put_other r v j c h; fits = λ j. put_fits r v j c a b }

pub like_itself : (r : ℕ) (c : Contents) → ((i : ℕ) → c.register i < 2 ^ 32) → Like r c c
like_itself r c b = record { words = λ i. refl; registers = λ j h. refl; fits = b }

-- the register of a number that stays in one, or another register, is below what that is below
pub number_below : (n r : ℕ) (home : Home) → 28 ≤ n → r < n → number_or r (resident_register home) < n
number_below n r (Register q) some l = by (nat_lt 24 q && nat_lt q 28) refl
  where
    by : (b : Bool) → (nat_lt 24 q && nat_lt q 28) ≡ b → number_or r (if b then Some q else None) < n
    by true t = let high : q < 28 = grind (arith, nat_tests) in omega arith
    by false t = l
number_below n r (Slot i) some l = l

-- the register of a home, or the scratch register, is none that stands for a queue
pub home_plain : (n r : ℕ) (home : Home) → IsHome n home → r < 28 → register_or r home < 28
home_plain n r (Register h) is l = (home_register h is).1
home_plain n r (Slot i) is l = l

module _ (s : WalkSetting) (plan : Plan) (variables : ℕ → ℕ) (fine : Fits s plan variables) (to : ℕ → Env → Processor → Type 0) where
  -- an operand of the moment, into its home or into a scratch register
  pub runs_fetch : {live : VariableSet} {m : Moment} {c : Contents} {d : Deed} (r : ℕ) (x : Operand) (is : List Inst) → IsWork r → Ready plan live m c → ((u : ℕ) → in_operand x u ≡ true → live u ≡ true) → IsNumber x →
      ((c' : Contents) → Like r c c' → c'.register (source (plan.home m.function) r x) ≡ value x m.env → Runs s plan.private to is c' d) → Runs s plan.private to (fetch (plan.home m.function) r x ++ is) c d
  runs_fetch {live} {m} {c} {d} r (Number n) is work h reads fits run = by (nat_eq n 0) refl
    where
      by : (b : Bool) → nat_eq n 0 ≡ b → Runs s plan.private to ((if b then [] else fetch_number r n (resident_register (plan.home m.function (number_key n)))) ++ is) c d
      by true e =
          let none : n ≡ 0 = grind (arith, nat_tests) in
          run c (like_itself r c h.fits) (rw e (h.zero ∙ sym none))
      by false e = from (resident_register (plan.home m.function (number_key n))) refl
        where
          from : (o : Option ℕ) → resident_register (plan.home m.function (number_key n)) ≡ o → Runs s plan.private to (fetch_number r n o ++ is) c d
          from None f = runs_number s plan.private to r n is h.zero work.0 work.1 fits (run (put r n c) (like_put r n c fits h.fits) (rw (e, f) (put_same r n c work.0 work.1)))
          from (Some q) f =
              let there : resident_register (resident_home 27 plan.residents n) ≡ Some q = sym (ap resident_register (fine.residents m.function n)) ∙ f in
              run c (like_itself r c h.fits) (rw (e, f) (h.agrees.residents n q there))
  runs_fetch {live} {m} {c} {d} r (Variable v) is work h reads fits run = by (plan.home m.function v) refl
    where
      by : (home : Home) → plan.home m.function v ≡ home → Runs s plan.private to (fetch_home r home ++ is) c d
      by (Register g) e =
          let l = reads v (grind (arith, nat_tests)) in
          let a = h.agrees.variables v l in
          run c (like_itself r c h.fits) (rw e (rw e at a))
      by (Slot i) e =
          let l = reads v (grind (arith, nat_tests)) in
          let a = h.agrees.variables v l in
          let inside = frame_inside s plan variables fine h in
          let is_words = fine.words m.function in
          let good = fine.homes m.function v in
          let slot : i < variables m.function = rw e at good in
          let base : ℕ = h.agrees.base in
          let w : ℕ = c.word (base + slot_at i) in
          runs_load s plan.private to base r (slot_at i) is (own_frame s plan variables fine h (slot_framed s plan variables fine m.function v i e)) (λ same. work.2 (sym same)) work.0 work.1 (omega arith) fine.private
          (run (put r w c) (like_put r w c (h.small (base + slot_at i)) h.fits) (rw e (put_same r w c work.0 work.1 ∙ (rw e at a))))

  -- an operand of the moment goes into t, whatever t is: what writes t adds its immediate to a plain register, and the sum is the operand's value
  pub runs_move : {live : VariableSet} {m : Moment} {c : Contents} {d : Deed} (t : ℕ) (x : Operand) (is : List Inst) → Ready plan live m c → ((u : ℕ) → in_operand x u ≡ true → live u ≡ true) → IsNumber x →
      ((c' : Contents) (r : ℕ) (imm : ℤ) → Like 5 c c' → r < 28 → plus (c'.register r) (word imm) ≡ value x m.env → value x m.env < 2 ^ 32 → Runs s plan.private to (Addi t r imm ∷ is) c' d) → Runs s plan.private to (move_code (plan.home m.function) t x ++ is) c d
  runs_move {live} {m} {c} {d} t (Variable v) is h reads fits run =
      let r : ℕ = register_or 5 (plan.home m.function v) in
      rw append_assoc (runs_fetch 5 (Variable v) (Addi t r (pos 0) ∷ is) (omega arith, omega arith, omega arith) h reads fits (λ c1 like got.
      let small : m.env v < 2 ^ 32 = (let a = like.fits r in rw got at a) in
      run c1 r (pos 0) like (home_plain (variables m.function) 5 (plan.home m.function v) (fine.homes m.function v) (omega arith)) (rw got (omega arith)) small))
  runs_move {live} {m} {c} {d} t (Number n) is h reads fits run = by (is_immediate n) refl
    where
      by : (b : Bool) → is_immediate n ≡ b → Runs s plan.private to ((if b then Addi t 0 (lower n) ∷ [] else Lui 5 (upper n) ∷ (Addi t 5 (lower n) ∷ [])) ++ is) c d
      by true e = run c 0 (lower n) (like_itself 5 c h.fits) (omega arith) (rw (h.zero, immediate_word n fits e) (omega arith)) fits
      by false e =
          let u : ℕ = word (upper n) in
          runs_quiet s plan.private to (computes s plan.private to (Lui 5 (upper n)) 5 0 0 (λ x y. word (upper n)) refl (omega arith) (omega arith) (omega arith) (upper_small n))
          (run (put 5 u c) 5 (lower n) (like_put 5 u c (upper_small n) h.fits) (omega arith) (rw (put_same 5 u c (omega arith) (omega arith)) (halves n fits)) fits)

  -- a word in a register's place, and one in a slot
  gets_register : (n base h x : ℕ) (c : Contents) → is_home_register h ≡ true → x < 2 ^ 32 → ((r : ℕ) → c.register r < 2 ^ 32) → ((i : ℕ) → c.word i < 2 ^ 32) → Gets s plan variables fine n base (Register h) x c (put h x c)
  gets_register n base h x c good a b w =
      let k = home_register h good in
      let low : 0 < h = omega arith in
      record {
        got = put_same h x c low k.1;
        others = λ g is other. one g is other;
        zero = put_other h x 0 c (omega arith);
        two = put_other h x 2 c (omega arith);
        three = put_other h x 3 c (omega arith);
        link = put_other h x 1 c (omega arith);
        depth = λ by_a. put_other h x 10 c (λ same. k.2 (sym same));
        addresses = λ by_a. put_other h x 4 c (omega arith);
        below = λ i l. refl;
        fits = λ j. put_fits h x j c a b;
        small = w;
      }
    where
      one : (g : Home) → IsHome n g → g ≢ Register h → held (put h x c) base g ≡ held c base g
      one (Register r) is other = put_other h x r c (λ same. other (ap Register same))
      one (Slot i) is other = refl

  gets_slot : (n base i x u : ℕ) (c : Contents) → x < 2 ^ 32 → u < 2 ^ 32 → ((r : ℕ) → c.register r < 2 ^ 32) → ((j : ℕ) → c.word j < 2 ^ 32) → Gets s plan variables fine n base (Slot i) x c (store (base + slot_at i) x (put 7 u (put 5 x c)))
  gets_slot n base i x u c a l b w =
      record {
        got = grind (arith, nat_tests);
        others = λ g is other. one g is other;
        zero = refl;
        two = refl;
        three = refl;
        link = refl;
        depth = λ by_a. refl;
        addresses = λ by_a. refl;
        below = λ j k. (let far : j ≢ base + slot_at i = omega arith in word_other j far);
        fits = λ j. put_fits 7 u j (put 5 x c) l (λ k. put_fits 5 x k c a b);
        small = λ j. fits j (nat_eq j (base + slot_at i));
      }
    where
      word_other : (j : ℕ) → j ≢ base + slot_at i → (if nat_eq j (base + slot_at i) then x else c.word j) ≡ c.word j
      word_other j far = grind (arith, nat_tests)

      fits : (j : ℕ) (t : Bool) → (if t then x else c.word j) < 2 ^ 32
      fits j true = a
      fits j false = w j

      one : (g : Home) → IsHome n g → g ≢ Slot i → held (store (base + slot_at i) x (put 7 u (put 5 x c))) base g ≡ held c base g
      one (Register r) is other =
          let k = home_register r is in
          put_other 7 u r (put 5 x c) (omega arith) ∙ put_other 5 x r c (omega arith)
      one (Slot j) is other = word_other (base + slot_at j) (λ same. (let e : j ≡ i = omega arith in other (ap Slot e)))

  -- a result in its register, or in x5, goes home
  pub runs_keep : {live : VariableSet} {m : Moment} {c : Contents} {d : Deed} (home : Home) (x : ℕ) (is : List Inst) (h : Ready plan live m c) → IsHome (variables m.function) home → ((i : ℕ) → home ≡ Slot i → plan.frameless m.function ≡ false) → x < 2 ^ 32 →
      ((c' : Contents) → Gets s plan variables fine (variables m.function) h.agrees.base home x c c' → Runs s plan.private to is c' d) → Runs s plan.private to (keep home ++ is) (put (register_or 5 home) x c) d
  runs_keep {m = m} {c = c} (Register r) x is h good framed fits run = run (put r x c) (gets_register (variables m.function) h.agrees.base r x c good fits h.fits h.small)
  runs_keep {m = m} {c = c} (Slot i) x is h good framed fits run =
      let inside = frame_inside s plan variables fine h in
      let is_words = fine.words m.function in
      let base : ℕ = h.agrees.base in
      runs_store s plan.private to base 5 (slot_at i) is (own_frame s plan variables fine h (framed i refl)) (omega arith) (omega arith) (omega arith) fine.private
      (λ u l. run (store (base + slot_at i) x (put 7 u (put 5 x c))) (gets_slot (variables m.function) base i x u c fits l h.fits h.small)) (h.fits 7)
