-- Before a function is entered its arguments come into the registers of their parameters.
use Rattle.std.proofs.Common.{◌≡◌, ◌≢◌, ℕ, ◌+◌, ◌*◌, ◌^◌, ◌<◌, ◌≤◌, Bool, true, false, not, ◌&&◌, ◌||◌, List, [], ◌∷◌, ◌++◌, Option, Some, None, refl, sym, ap, ◌∙◌, subst, arith, append_assoc}
use Rattle.std.specs.Prelude.{nat_eq, if◌then◌else◌, pos}
use Rattle.std.proofs.lemmas.Bool.Decides.{nat_tests}
use Rattle.std.proofs.lemmas.Bool.{and_parts, or_parts}
use Rattle.dae_base.specs.Words.{plus, word}
use Rattle.dae_base.proofs.Laws.{plus_small, or_true}
use Rattle.dae_encode.specs.declared.Inst.{Inst}
use Rattle.dae_encode.specs.declared.Inst.TheVariants.{Addi}
use Rattle.dae_encode.specs.Processor.{Processor}
use Rattle.dae_ir.specs.Classes.{VariableSet}
use Rattle.dae_meaning.specs.Variables.{Env}
use Rattle.dae_ir.specs.Form.{value}
use Rattle.dae_ir.specs.Deeds.{Deed}
use Rattle.dae_ir.specs.declared.form.Operand.{Operand}
use Rattle.dae_ir.specs.declared.form.Operand.TheVariants.{Variable, Number}
use Rattle.dae_ir.specs.declared.stream.Argument.{Argument}
use Rattle.dae_select_walks.specs.declared.Home.{Home}
use Rattle.dae_select_walks.specs.declared.Home.TheVariants.{Register, Slot}
use Rattle.dae_select_walks.specs.Walks.{WalkSetting}
use Rattle.dae_select_walks.specs.Live.{in_operand, in_arguments}
use Rattle.dae_select_walks.specs.Homes.{Contents, held, is_home_register, kept_at, slot_at, number_key, resident_home, resident_register}
use Rattle.dae_select_walks.specs.Agrees.{Plan, Moment}
use Rattle.dae_select_walks.specs.Compiled.{given}
use Rattle.dae_select_walks.proofs.LawsOfWalks.{put}
use Rattle.dae_select_blocks.specs.Blocks.{number_or, register_or, source, fetch, load_code, is_register, gives_register, is_overwritten, copy_code, parameter_to, parameter_code, parameters_code}
use Rattle.dae_select_blocks.specs.Fits.{Fits}
use Rattle.dae_select_blocks.specs.Wanted.{IsNumber, AreGiven, gives, HaveHomes}
use Rattle.dae_select_blocks.proofs.Plain.{computes, put_same}
use Rattle.dae_select_blocks.proofs.Frames.{runs_load}
use Rattle.dae_select_blocks.proofs.Runs.{Runs, runs_quiet}
use Rattle.dae_select_blocks.proofs.Agreement.{Ready, Like, home_register, kept_small, waiting_stays, calls_spare}
use Rattle.dae_select_blocks.proofs.Operands.{like_put, runs_fetch}
use Rattle.dae_select_blocks.proofs.Computing.{plus_zero, source_plain}
use Rattle.dae_select_blocks.proofs.Actions.{ready_stays}
use Rattle.dae_select_blocks.proofs.Calls.{Wait, given_good, given_more}

-- one of these arguments has got this home, a register
abbrev pub is_gone : (ℕ → Home) → List Argument → Home → Bool
is_gone given xs (Register r) = gives_register given xs r
is_gone given xs (Slot i) = false

-- what of a set is in its home still
abbrev pub still_live : (ℕ → Home) → (ℕ → Home) → List Argument → VariableSet → VariableSet
still_live home given xs live u = live u && not (is_gone given xs (home u))

fewer : (b n z : Bool) → (b && not (n || z)) ≡ true → (b && not z) ≡ true
fewer true false false e = refl
fewer true false true e = absurd cc
fewer true true z e = absurd cc
fewer false n z e = absurd cc

not_one : (b n z : Bool) → (b && not (n || z)) ≡ true → n ≡ false
not_one true false z e = refl
not_one true true z e = absurd cc
not_one false n z e = absurd cc

fewer_live : (given : ℕ → Home) (x : Argument) (xs : List Argument) (home : Home) (b : Bool) → (b && not (is_gone given (x ∷ xs) home)) ≡ true → (b && not (is_gone given xs home)) ≡ true
fewer_live given x xs (Register r) b e = fewer b (is_register r (given x.parameter)) (gives_register given xs r) e
fewer_live given x xs (Slot i) b e = e

-- nor is one that is left in the register that the first of them has got
other_register : (given : ℕ → Home) (t : ℕ) (x : Argument) (xs : List Argument) (home : Home) (b : Bool) → given x.parameter ≡ Register t → (b && not (is_gone given (x ∷ xs) home)) ≡ true → is_register t home ≡ false
other_register given t x xs (Register r) b is e = turned (nat_eq r t) refl (not_one b (is_register r (given x.parameter)) (gives_register given xs r) e)
  where
    turned : (n : Bool) → nat_eq r t ≡ n → is_register r (given x.parameter) ≡ false → nat_eq t r ≡ false
    turned false same other = grind (arith, nat_tests)
    turned true same other = absurd (let told : is_register r (given x.parameter) ≡ nat_eq r t = ap (is_register r) is in let both : true ≡ false = sym same ∙ (sym told ∙ other) in cc)
other_register given t x xs (Slot i) b is e = refl

module _ (s : WalkSetting) (plan : Plan) (variables : ℕ → ℕ) (fine : Fits s plan variables) (to : ℕ → Env → Processor → Type 0) where
  -- an operand in a register that variables may have
  register_holds : {live : VariableSet} {m : Moment} {c : Contents} (x : Operand) → Ready plan live m c → ((u : ℕ) → in_operand x u ≡ true → live u ≡ true) → is_home_register (source (plan.home m.function) 5 x) ≡ true → c.register (source (plan.home m.function) 5 x) ≡ value x m.env
  register_holds {m = m} {c = c} (Variable v) h reads good = by (plan.home m.function v) refl good
    where
      by : (home : Home) → plan.home m.function v ≡ home → is_home_register (register_or 5 home) ≡ true → c.register (register_or 5 home) ≡ m.env v
      by (Register r) e good = let l = reads v (grind (arith, nat_tests)) in let a = h.agrees.variables v l in rw e at a
      by (Slot i) e good = absurd (let no : false ≡ true = good in cc)
  register_holds {m = m} {c = c} (Number n) h reads good = by (nat_eq n 0) refl good
    where
      from : (o : Option ℕ) → resident_register (plan.home m.function (number_key n)) ≡ o → is_home_register (number_or 5 o) ≡ true → c.register (number_or 5 o) ≡ n
      from None f good = absurd (let no : false ≡ true = good in cc)
      from (Some q) f good = h.agrees.residents n q (sym (ap resident_register (fine.residents m.function n)) ∙ f)

      by : (b : Bool) → nat_eq n 0 ≡ b → is_home_register (if b then 0 else number_or 5 (resident_register (plan.home m.function (number_key n)))) ≡ true → c.register (if b then 0 else number_or 5 (resident_register (plan.home m.function (number_key n)))) ≡ n
      by true e good = absurd (let no : false ≡ true = good in cc)
      by false e good = from (resident_register (plan.home m.function (number_key n))) refl good

  -- a register that variables may have gets a word: what was there is lost
  ready_lost : {live live' : VariableSet} {m : Moment} {c c' : Contents} (t : ℕ) → plan.leaf m.function ≡ false → is_home_register t ≡ true → ((n r : ℕ) → resident_register (resident_home 27 plan.residents n) ≡ Some r → r ≢ t) → Like t c c' → Ready plan live m c → ((u : ℕ) → live' u ≡ true → (live u ≡ true) × (is_register t (plan.home m.function u) ≡ false)) → Ready plan live' m c'
  ready_lost {live} {live'} {m} {c} {c'} t calls good free like h stays =
      let a = h.agrees in let low = home_register t good in
      record {
        zero = like.registers 0 (omega arith) ∙ h.zero;
        fits = like.fits;
        small = λ i. rw (like.words i) (h.small i);
        agrees = record {
          base = a.base;
          variables = λ u l. one a.base (plan.home m.function u) (stays u l).1 ∙ a.variables u (stays u l).0;
          pointer = like.registers 2 (omega arith) ∙ a.pointer;
          frame = like.registers 3 (omega arith) ∙ a.frame;
          depth = λ by_a. like.registers 10 (λ same. low.2 (sym same)) ∙ a.depth by_a;
          addresses = λ by_a. like.registers 4 (omega arith) ∙ a.addresses by_a;
          residents = λ n r e. like.registers r (free n r e) ∙ a.residents n r e;
          waiting = waiting_stays s plan variables fine m.function c c' a.base m.frame m.waiting (like.registers 1 (omega arith)) (λ i l. like.words i)
              (λ q home e. absurd (let no : true ≡ false = sym e ∙ calls_spare s plan variables fine m.function q calls in cc)) a.waiting;
          room = a.room;
          within = a.within;
        };
      }
    where
      other : (r : ℕ) → nat_eq t r ≡ false → r ≢ t
      other r e = grind (arith, nat_tests)

      one : (base : ℕ) (home : Home) → is_register t home ≡ false → held c' base home ≡ held c base home
      one base (Register r) e = like.registers r (other r e)
      one base (Slot i) e = like.words (base + slot_at i)

  -- arguments are in the registers of their parameters, and what was there is gone
  pub record Handed (live : VariableSet) (m : Moment) (g : ℕ) (xs : List Argument) (c c' : Contents) : Type 0 where
    pub ready : Ready plan (still_live (plan.home m.function) (plan.home g) xs live) m c'
    pub words : (i : ℕ) → c'.word i ≡ c.word i
    pub two : c'.register 2 ≡ c.register 2
    pub others : (r : ℕ) → gives_register (plan.home g) xs r ≡ false → c'.register r ≡ c.register r
    pub given : (u : ℕ) → gives xs u ≡ true → (t : ℕ) → plan.home g u ≡ Register t → c'.register t ≡ given xs m.env u

  handed_one : {live : VariableSet} {m : Moment} {c0 c c' : Contents} (g t : ℕ) (x : Argument) (xs : List Argument) → plan.leaf m.function ≡ false → plan.home g x.parameter ≡ Register t → ((u : ℕ) → u ≢ x.parameter → gives xs u ≡ true → plan.home g u ≢ plan.home g x.parameter) →
      ((n r : ℕ) → resident_register (resident_home 27 plan.residents n) ≡ Some r → plan.home g x.parameter ≢ Register r) → Handed live m g xs c0 c → Like t c c' → c'.register t ≡ value x.operand m.env → Handed live m g (x ∷ xs) c0 c'
  handed_one {live} {m} {c0} {c} {c'} g t x xs calls e apart free gave like here =
      let good : is_home_register t ≡ true = (let h = fine.homes g x.parameter in rw e at h) in
      let low = home_register t good in
      record {
        ready = ready_lost t calls good (λ n r o same. free n r o (e ∙ ap Register (sym same))) like gave.ready
            (λ u l. (fewer_live (plan.home g) x xs (plan.home m.function u) (live u) l, other_register (plan.home g) t x xs (plan.home m.function u) (live u) e l));
        words = λ i. like.words i ∙ gave.words i;
        two = like.registers 2 (omega arith) ∙ gave.two;
        others = λ r none.
            let parts = or_parts (is_register r (plan.home g x.parameter)) (gives_register (plan.home g) xs r) none in
            let it : nat_eq r t ≡ false = sym (ap (is_register r) e) ∙ parts.0 in
            let ne : r ≢ t = grind (arith, nat_tests) in
            like.registers r ne ∙ gave.others r parts.1;
        given = given_more m.env x xs (λ (u v : ℕ). (r : ℕ) → plan.home g u ≡ Register r → c'.register r ≡ v)
            (λ r which. (let both : Register t ≡ Register r = sym e ∙ which in let same : t ≡ r = cc in subst (λ (q : ℕ). c'.register q ≡ value x.operand m.env) same here))
            (λ u ne some r which. like.registers r (λ same. apart u ne some (which ∙ (ap Register same ∙ sym e))) ∙ gave.given u some r which);
      }

  -- what isn't overwritten can be read still
  reads_on : (f g : ℕ) (xs : List Argument) (x : Operand) (live : VariableSet) → is_overwritten plan f g xs x ≡ false → ((u : ℕ) → in_operand x u ≡ true → live u ≡ true) → (u : ℕ) → in_operand x u ≡ true → still_live (plan.home f) (plan.home g) xs live u ≡ true
  reads_on f g xs (Number n) live o reads u e = absurd cc
  reads_on f g xs (Variable v) live o reads u e =
      let same : v ≡ u = grind (arith, nat_tests) in
      let l : live v ≡ true = reads v (grind (arith, nat_tests)) in
      let is : (live v && not (is_gone (plan.home g) xs (plan.home f v))) ≡ true = rw (l, by (plan.home f v) refl) refl in
      subst (λ (w : ℕ). still_live (plan.home f) (plan.home g) xs live w ≡ true) same is
    where
      by : (home : Home) → plan.home f v ≡ home → is_gone (plan.home g) xs home ≡ false
      by (Register r) is = let o' : gives_register (plan.home g) xs (register_or 5 (plan.home f v)) ≡ false = o in rw is at o'
      by (Slot i) is = refl

  runs_parameter : {live : VariableSet} {m : Moment} {c0 c : Contents} {d : Deed} (base g : ℕ) (xs : List Argument) (x : Argument) (is : List Inst) → plan.leaf m.function ≡ false → ((u : ℕ) → in_operand x.operand u ≡ true → live u ≡ true) → IsNumber x.operand →
      ((u : ℕ) → u ≢ x.parameter → gives xs u ≡ true → plan.home g u ≢ plan.home g x.parameter) → ((n r : ℕ) → resident_register (resident_home 27 plan.residents n) ≡ Some r → plan.home g x.parameter ≢ Register r) →
      Ready plan live m c0 → c0.register 2 ≡ 4 * base → base + 19 ≤ plan.private → Wait plan m.function g base c0 (x ∷ xs) → Handed live m g xs c0 c →
      ((c' : Contents) → Handed live m g (x ∷ xs) c0 c' → Runs s plan.private to is c' d) → Runs s plan.private to (parameter_code plan m.function g xs x ++ is) c d
  runs_parameter {live} {m} {c0} {c} {d} base g xs x is calls reads number apart free h pointer inside waits gave run = by (plan.home g x.parameter) refl
    where
      good : (t : ℕ) → plan.home g x.parameter ≡ Register t → is_home_register t ≡ true
      good t e = (let h = fine.homes g x.parameter in rw e at h)

      -- it is in a register, or comes there
      copies : (t : ℕ) (c1 : Contents) → plan.home g x.parameter ≡ Register t → Like t c c1 → c1.register (source (plan.home m.function) t x.operand) ≡ value x.operand m.env → (b : Bool) → nat_eq t (source (plan.home m.function) t x.operand) ≡ b →
          Runs s plan.private to ((if b then [] else Addi t (source (plan.home m.function) t x.operand) (pos 0) ∷ []) ++ is) c1 d
      copies t c1 e like got true same =
          let is_there : t ≡ source (plan.home m.function) t x.operand = grind (arith, nat_tests) in
          run c1 (handed_one g t x xs calls e apart free gave like (ap c1.register is_there ∙ got))
      copies t c1 e like got false same =
          let low = home_register t (good t e) in
          let r : ℕ = source (plan.home m.function) t x.operand in
          let v : ℕ = value x.operand m.env in
          let small : v < 2 ^ 32 = (let a = like.fits r in rw got at a) in
          let sum : plus (c1.register r) (word (pos 0)) ≡ v = rw got (plus_zero v small) in
          let more = like_put t v c1 small like.fits in
          let both : Like t c (put t v c1) = record { words = λ i. more.words i ∙ like.words i; registers = λ j ne. more.registers j ne ∙ like.registers j ne; fits = more.fits } in
          runs_quiet s plan.private to (computes s plan.private to (Addi t r (pos 0)) t r 0 (λ x y. plus x (word (pos 0))) refl low.1 (source_plain s plan variables fine to m.function t x.operand low.1) (omega arith) (plus_small (c1.register r) 0)) (rw sum (
          run (put t v c1) (handed_one g t x xs calls e apart free gave both (put_same t v c1 (omega arith) low.1))))

      comes : (t : ℕ) → plan.home g x.parameter ≡ Register t → (b : Bool) → is_overwritten plan m.function g xs x.operand ≡ b →
          Runs s plan.private to ((if b then load_code t (kept_at (source (plan.home m.function) 5 x.operand)) else fetch (plan.home m.function) t x.operand ++ copy_code t (source (plan.home m.function) t x.operand)) ++ is) c d
      comes t e true o =
          let low = home_register t (good t e) in
          let q : ℕ = source (plan.home m.function) 5 x.operand in
          let home : is_home_register q ≡ true = given_good s plan variables fine to g q xs o in
          let l = kept_small q home in
          let v : ℕ = c.word (base + kept_at q) in
          let same : v ≡ value x.operand m.env = gave.words (base + kept_at q) ∙ (waits.0 t e o ∙ register_holds x.operand h reads home) in
          runs_load s plan.private to base t (kept_at q) is (gave.two ∙ pointer) (omega arith) (omega arith) low.1 (omega arith) fine.private (
          run (put t (c.word (base + kept_at q)) c) (handed_one g t x xs calls e apart free gave (like_put t v c (gave.ready.small (base + kept_at q)) gave.ready.fits) (put_same t v c (omega arith) low.1 ∙ same)))
      comes t e false o =
          let low = home_register t (good t e) in
          rw append_assoc (runs_fetch s plan variables fine to t x.operand (copy_code t (source (plan.home m.function) t x.operand) ++ is) (omega arith, low.1, omega arith) gave.ready (reads_on m.function g xs x.operand live o reads) number (λ c1 like got.
          copies t c1 e like got (nat_eq t (source (plan.home m.function) t x.operand)) refl))

      by : (home : Home) → plan.home g x.parameter ≡ home → Runs s plan.private to (parameter_to plan m.function g xs home x.operand ++ is) c d
      by (Register t) e = comes t e (is_overwritten plan m.function g xs x.operand) refl
      by (Slot i) e =
          run c (record {
            ready = ready_stays s plan variables fine (still_live (plan.home m.function) (plan.home g) xs live) (still_live (plan.home m.function) (plan.home g) (x ∷ xs) live) m (λ u l. fewer_live (plan.home g) x xs (plan.home m.function u) (live u) l) gave.ready;
            words = gave.words;
            two = gave.two;
            others = λ r none. gave.others r (or_parts (is_register r (plan.home g x.parameter)) (gives_register (plan.home g) xs r) none).1;
            given = given_more m.env x xs (λ (u v : ℕ). (r : ℕ) → plan.home g u ≡ Register r → c.register r ≡ v)
                (λ r which. absurd (let no : Slot i ≡ Register r = sym e ∙ which in cc)) (λ u ne some r which. gave.given u some r which);
          })

  pub runs_parameters : {live : VariableSet} {m : Moment} {c : Contents} {d : Deed} (base g : ℕ) (xs : List Argument) (is : List Inst) (h : Ready plan live m c) → plan.leaf m.function ≡ false → ((u : ℕ) → in_arguments xs u ≡ true → live u ≡ true) → AreGiven xs → HaveHomes plan g (gives xs) → c.register 2 ≡ 4 * base → base + 19 ≤ plan.private →
      Wait plan m.function g base c xs → ((c' : Contents) → Handed live m g xs c c' → Runs s plan.private to is c' d) → Runs s plan.private to (parameters_code plan m.function g xs ++ is) c d
  runs_parameters {live} {m} {c} base g [] is h calls reads numbers homes pointer inside waits run =
      run c (record {
        ready = ready_stays s plan variables fine live (still_live (plan.home m.function) (plan.home g) [] live) m (λ u l. (and_parts (live u) (not (is_gone (plan.home g) [] (plan.home m.function u))) l).0) h;
        words = λ i. refl;
        two = refl;
        others = λ r none. refl;
        given = λ u e. absurd cc;
      })
  runs_parameters {live} {m} {c} base g (x ∷ xs) is h calls reads numbers homes pointer inside waits run =
      let rest : HaveHomes plan g (gives xs) = record {
        apart = λ u v a b. homes.apart u v (rw a (or_true (nat_eq u x.parameter))) (rw b (or_true (nat_eq v x.parameter)));
        free = λ u n r a. homes.free u n r (rw a (or_true (nat_eq u x.parameter)));
        unspared = λ u r a. homes.unspared u r (rw a (or_true (nat_eq u x.parameter)));
      } in
      rw append_assoc (runs_parameters base g xs (parameter_code plan m.function g xs x ++ is) h calls (λ u e. reads u (rw e (or_true (in_operand x.operand u)))) numbers.1 rest pointer inside waits.1 (λ c1 gave.
      runs_parameter base g xs x is calls (λ u e. reads u (rw e refl)) numbers.0 (λ u ne k. homes.apart u x.parameter (rw k (or_true (nat_eq u x.parameter))) (grind (arith, nat_tests)) ne) (λ n r o. homes.free x.parameter n r (grind (arith, nat_tests)) o) h pointer inside waits gave run))
