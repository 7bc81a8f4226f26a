-- A call keeps what is live behind it; arguments go to slots, or wait; a return brings back.
use Rattle.std.proofs.Common.{◌≡◌, ◌≢◌, ℕ, zero, suc, ◌+◌, ◌*◌, ◌^◌, ◌<◌, ◌≤◌, ◌⊎◌, inl, inr, Bool, true, false, ◌&&◌, ◌||◌, List, [], ◌∷◌, ◌++◌, refl, sym, ap, ◌∙◌, subst, arith, append_assoc, not}
use Rattle.std.specs.Prelude.{nat_eq, if◌then◌else◌}
use Rattle.std.proofs.lemmas.Bool.Decides.{nat_tests}
use Rattle.dae_base.proofs.Laws.{or_true, and_false}
use Rattle.dae_encode.specs.declared.Inst.{Inst}
use Rattle.dae_encode.specs.Processor.{Processor}
use Rattle.dae_ir.specs.Classes.{VariableSet}
use Rattle.dae_meaning.specs.Variables.{Env}
use Rattle.dae_ir.specs.Form.{value}
use Rattle.dae_ir.specs.Deeds.{Deed}
use Rattle.dae_ir.specs.declared.stream.Argument.{Argument}
use Rattle.dae_select_walks.specs.declared.Home.{Home}
use Rattle.dae_select_walks.specs.declared.Home.TheVariants.{Register, Slot}
use Rattle.dae_select_walks.specs.Walks.{WalkSetting}
use Rattle.dae_select_walks.specs.Live.{in_operand, in_arguments}
use Rattle.dae_select_walks.specs.Homes.{Contents, held, IsHome, AreApart, is_home_register, kept_at, slot_at, resident_home}
use Rattle.dae_select_walks.specs.Agrees.{Plan, Moment}
use Rattle.dae_select_walks.specs.Compiled.{given}
use Rattle.dae_select_walks.proofs.LawsOfWalks.{put, store}
use Rattle.dae_select_blocks.specs.Blocks.{source, store_code, is_register, gives_register, is_overwritten, argument_to, argument_code, arguments_code, save_code, restore_code}
use Rattle.dae_select_blocks.specs.Code.{some_below, filtered, home_registers, registers_in, is_spared, unspared}
use Rattle.dae_select_blocks.specs.Fits.{Fits}
use Rattle.dae_select_blocks.specs.Wanted.{IsNumber, AreGiven, gives}
use Rattle.dae_select_blocks.proofs.Plain.{put_same, put_other}
use Rattle.dae_select_blocks.proofs.Frames.{runs_load, runs_store}
use Rattle.dae_select_blocks.proofs.Runs.{Runs}
use Rattle.dae_select_blocks.proofs.Agreement.{Ready, ready_like, home_register, resident_high, kept_small, waiting_stays, calls_framed, own_frame}
use Rattle.dae_select_blocks.proofs.Operands.{like_put, runs_fetch}
use Rattle.dae_select_blocks.proofs.Computing.{is_scratch, is_work, source_plain, source_apart}

-- ---- which registers are kept

abbrev pub among : ℕ → List ℕ → Bool
among r [] = false
among r (x ∷ xs) = nat_eq r x || among r xs

among_filtered : (f : ℕ → Bool) (r : ℕ) (rs : List ℕ) → f r ≡ true → among r rs ≡ true → among r (filtered f rs) ≡ true
among_filtered f r [] e h = h
among_filtered f r (x ∷ xs) e h = by (f x) (nat_eq r x) refl refl h (among_filtered f r xs e)
  where
    by : (a b : Bool) → f x ≡ a → nat_eq r x ≡ b → (b || among r xs) ≡ true → (among r xs ≡ true → among r (filtered f xs) ≡ true) → among r (if a then x ∷ filtered f xs else filtered f xs) ≡ true
    by true true ea eb h later = rw eb refl
    by true false ea eb h later = rw eb (later h)
    by false true ea eb h later = let same : r ≡ x = grind (arith, nat_tests) in let e' = ap f same in absurd cc
    by false false ea eb h later = later h

filtered_among : (f : ℕ → Bool) (r : ℕ) (rs : List ℕ) → among r (filtered f rs) ≡ true → among r rs ≡ true
filtered_among f r [] h = h
filtered_among f r (x ∷ xs) h = by (f x) (nat_eq r x) refl h (filtered_among f r xs)
  where
    by : (a b : Bool) → nat_eq r x ≡ b → among r (if a then x ∷ filtered f xs else filtered f xs) ≡ true → (among r (filtered f xs) ≡ true → among r xs ≡ true) → (b || among r xs) ≡ true
    by a true e h later = refl
    by true false e h later = later (rw e at h)
    by false false e h later = later h

some_found : (n v : ℕ) (f : ℕ → Bool) → v < n → f v ≡ true → some_below n f ≡ true
some_found zero v f l e = absurd (omega arith)
some_found (suc n) v f l e = by (nat_eq v n) refl (some_found n v f)
  where
    by : (b : Bool) → nat_eq v n ≡ b → (v < n → f v ≡ true → some_below n f ≡ true) → (f n || some_below n f) ≡ true
    by true t later = let same : v ≡ n = grind (arith, nat_tests) in let e' : f n ≡ true = ap f (sym same) ∙ e in rw e' refl
    by false t later = let l' : v < n = grind (arith, nat_tests) in rw (later l' e) (or_true (f n))

all_registers : (r : ℕ) → is_home_register r ≡ true → among r home_registers ≡ true
all_registers r h = grind (arith, nat_tests)

only_registers : (r : ℕ) → among r home_registers ≡ true → is_home_register r ≡ true
only_registers r h = grind (arith, nat_tests)

pub kept_register : (home : ℕ → Home) (n v r : ℕ) (live : VariableSet) → v < n → live v ≡ true → home v ≡ Register r → is_home_register r ≡ true → among r (registers_in home n live) ≡ true
unfolding registers_in
kept_register home n v r live l e is good =
    among_filtered (λ r. some_below n (λ v. live v && is_register r (home v))) r home_registers (some_found n v (λ v. live v && is_register r (home v)) l (rw (e, is) (grind (arith, nat_tests)))) (all_registers r good)

pub register_kept : (home : ℕ → Home) (n r : ℕ) (live : VariableSet) → among r (registers_in home n live) ≡ true → is_home_register r ≡ true
unfolding registers_in
register_kept home n r live h = only_registers r (filtered_among (λ r. some_below n (λ v. live v && is_register r (home v))) r home_registers h)

pub among_not : (home : ℕ → Home) (n r : ℕ) (live : VariableSet) → is_home_register r ≡ false → among r (registers_in home n live) ≡ false
among_not home n r live h = by (among r (registers_in home n live)) refl
  where
    by : (b : Bool) → among r (registers_in home n live) ≡ b → b ≡ false
    by true e = (let good = register_kept home n r live e in absurd cc)
    by false e = refl

-- nor is a register in which no variable is
not_filtered : (f : ℕ → Bool) (r : ℕ) (rs : List ℕ) → f r ≡ false → among r (filtered f rs) ≡ false
not_filtered f r [] e = refl
not_filtered f r (x ∷ xs) e = by (f x) (nat_eq r x) refl refl (not_filtered f r xs e)
  where
    by : (a b : Bool) → f x ≡ a → nat_eq r x ≡ b → among r (filtered f xs) ≡ false → among r (if a then x ∷ filtered f xs else filtered f xs) ≡ false
    by true true ea eb later = let same : r ≡ x = grind (arith, nat_tests) in let e' : f r ≡ f x = ap f same in absurd cc
    by true false ea eb later = rw eb later
    by false b ea eb later = later

none_below : (n : ℕ) (f : ℕ → Bool) → ((v : ℕ) → v < n → f v ≡ false) → some_below n f ≡ false
none_below zero f h = refl
none_below (suc n) f h = rw (h n (omega arith)) (none_below n f (λ v l. h v (omega arith)))

pub among_other : (home : ℕ → Home) (n r : ℕ) (live : VariableSet) → ((v : ℕ) → v < n → home v ≢ Register r) → among r (registers_in home n live) ≡ false
unfolding registers_in
among_other home n r live h =
    not_filtered (λ r. some_below n (λ v. live v && is_register r (home v))) r home_registers
    (none_below n (λ v. live v && is_register r (home v)) (λ v l. elsewhere (live v) (home v) (h v l)))
  where
    elsewhere : (b : Bool) (g : Home) → g ≢ Register r → (b && is_register r g) ≡ false
    elsewhere false g ne = refl
    elsewhere true (Register q) ne = last (nat_eq r q) refl
      where
        last : (t : Bool) → nat_eq r q ≡ t → t ≡ false
        last true e = absurd (ne (let same : q ≡ r = grind (arith, nat_tests) in ap Register same))
        last false e = refl
    elsewhere true (Slot i) ne = refl

-- nor is a register that the called function spares
pub among_spared : (plan : Plan) (n f g r : ℕ) (live : VariableSet) → plan.spares g r ≡ true → among r (registers_in (plan.home f) n (unspared plan f g live)) ≡ false
unfolding registers_in
among_spared plan n f g r live e =
    not_filtered (λ r. some_below n (λ v. unspared plan f g live v && is_register r (plan.home f v))) r home_registers
    (none_below n (λ v. unspared plan f g live v && is_register r (plan.home f v)) (λ v l. away (live v) (plan.home f v)))
  where
    by : (q : ℕ) (t : Bool) → nat_eq r q ≡ t → (not (plan.spares g q) && t) ≡ false
    by q true s = let same : q ≡ r = grind (arith, nat_tests) in let spared : plan.spares g q ≡ true = ap (plan.spares g) same ∙ e in rw spared refl
    by q false s = and_false (not (plan.spares g q))

    away : (b : Bool) (home : Home) → ((b && not (is_spared (plan.spares g) home)) && is_register r home) ≡ false
    away false home = refl
    away true (Register q) = by q (nat_eq r q) refl
    away true (Slot i) = refl

kept_apart : (q r : ℕ) → is_home_register q ≡ true → is_home_register r ≡ true → q ≢ r → kept_at q ≢ kept_at r
kept_apart q r a b ne e = grind (arith, nat_tests)

pub kept_low : (r : ℕ) → is_home_register r ≡ true → 0 < kept_at r
kept_low r a = grind (arith, nat_tests)

-- what holds of an argument's variable and its value, and of those behind it, holds of them all
pub given_more : (env : Env) (x : Argument) (xs : List Argument) (P : ℕ → ℕ → Type 0) → P x.parameter (value x.operand env) → ((u : ℕ) → u ≢ x.parameter → gives xs u ≡ true → P u (given xs env u)) → (u : ℕ) → gives (x ∷ xs) u ≡ true → P u (given (x ∷ xs) env u)
given_more env x xs P here others u e = by (nat_eq u x.parameter) refl e
  where
    by : (t : Bool) → nat_eq u x.parameter ≡ t → (t || gives xs u) ≡ true → P u (if t then value x.operand env else given xs env u)
    by true s k = let same : x.parameter ≡ u = grind (arith, nat_tests) in subst (λ (v : ℕ). P v (value x.operand env)) same here
    by false s k = others u (grind (arith, nat_tests)) k

-- the operands that are overwritten wait in the words in which their registers are kept
abbrev pub Wait : Plan → ℕ → ℕ → ℕ → Contents → List Argument → Type 0
Wait plan f g base c [] = Unit {0}
Wait plan f g base c (x ∷ xs) =
    ((t : ℕ) → plan.home g x.parameter ≡ Register t → is_overwritten plan f g xs x.operand ≡ true → c.word (base + kept_at (source (plan.home f) 5 x.operand)) ≡ c.register (source (plan.home f) 5 x.operand))
    × Wait plan f g base c xs

-- the kept registers are in the frame, and all else is as it was
pub record Saved (rs : List ℕ) (base : ℕ) (c c' : Contents) : Type 0 where
  pub kept : (q : ℕ) → is_home_register q ≡ true → among q rs ≡ true → c'.word (base + kept_at q) ≡ c.register q
  pub unkept : (q : ℕ) → is_home_register q ≡ true → among q rs ≡ false → c'.word (base + kept_at q) ≡ c.word (base + kept_at q)
  pub others : (i : ℕ) → (i ≤ base) ⊎ (base + 19 ≤ i) → c'.word i ≡ c.word i
  pub registers : (j : ℕ) → j ≢ 7 → c'.register j ≡ c.register j
  pub fits : (j : ℕ) → c'.register j < 2 ^ 32
  pub small : (i : ℕ) → c'.word i < 2 ^ 32

-- the kept registers have what the frame has, and all else is as it was
pub record Restored (rs : List ℕ) (base : ℕ) (c c' : Contents) : Type 0 where
  pub words : (i : ℕ) → c'.word i ≡ c.word i
  pub kept : (q : ℕ) → among q rs ≡ true → c'.register q ≡ c.word (base + kept_at q)
  pub others : (j : ℕ) → among j rs ≡ false → c'.register j ≡ c.register j
  pub fits : (j : ℕ) → c'.register j < 2 ^ 32

-- a store into one word
pub record Stored (w v : ℕ) (c c' : Contents) : Type 0 where
  pub here : c'.word w ≡ v
  pub others : (i : ℕ) → i ≢ w → c'.word i ≡ c.word i
  pub registers : (j : ℕ) → j ≢ 7 → c'.register j ≡ c.register j
  pub fits : (j : ℕ) → c'.register j < 2 ^ 32
  pub small : (i : ℕ) → c'.word i < 2 ^ 32

stored : (w v u : ℕ) (c : Contents) → v < 2 ^ 32 → u < 2 ^ 32 → ((j : ℕ) → c.register j < 2 ^ 32) → ((i : ℕ) → c.word i < 2 ^ 32) → Stored w v c (store w v (put 7 u c))
stored w v u c a b fits small = record {
  here = grind (arith, nat_tests);
  others = λ i ne. one i ne;
  registers = λ j ne. put_other 7 u j c ne;
  fits = λ j. (like_put 7 u c b fits).fits j;
  small = λ i. two i (nat_eq i w);
}
  where
    one : (i : ℕ) → i ≢ w → (if nat_eq i w then v else c.word i) ≡ c.word i
    one i ne = grind (arith, nat_tests)

    two : (i : ℕ) (t : Bool) → (if t then v else c.word i) < 2 ^ 32
    two i true = a
    two i false = small i

module _ (s : WalkSetting) (plan : Plan) (variables : ℕ → ℕ) (fine : Fits s plan variables) (to : ℕ → Env → Processor → Type 0) where
  pub runs_word : {c : Contents} {d : Deed} (base r i : ℕ) (is : List Inst) → c.register 2 ≡ 4 * base → r ≢ 7 → r < 28 → base + i < plan.private → ((j : ℕ) → c.register j < 2 ^ 32) → ((j : ℕ) → c.word j < 2 ^ 32) →
      ((c' : Contents) → Stored (base + i) (c.register r) c c' → Runs s plan.private to is c' d) → Runs s plan.private to (store_code r i ++ is) c d
  runs_word {c} base r i is pointer apart low inside fits small run =
      runs_store s plan.private to base r i is pointer apart low inside fine.private (λ u l. run (store (base + i) (c.register r) (put 7 u c)) (stored (base + i) (c.register r) u c (fits r) l fits small)) (fits 7)

  pub runs_save : {c : Contents} {d : Deed} (base : ℕ) (rs : List ℕ) (is : List Inst) → ((q : ℕ) → among q rs ≡ true → is_home_register q ≡ true) → c.register 2 ≡ 4 * base → base + 19 ≤ plan.private → ((j : ℕ) → c.register j < 2 ^ 32) → ((j : ℕ) → c.word j < 2 ^ 32) →
      ((c' : Contents) → Saved rs base c c' → Runs s plan.private to is c' d) → Runs s plan.private to (save_code rs ++ is) c d
  runs_save {c} base [] is good pointer inside fits small run = run c (record { kept = λ q a h. absurd cc; unkept = λ q a h. refl; others = λ i h. refl; registers = λ j ne. refl; fits = fits; small = small })
  runs_save {c} base (r ∷ rs) is good pointer inside fits small run =
      let home : is_home_register r ≡ true = good r (grind (arith, nat_tests)) in
      let low = home_register r home in let l = kept_small r home in let k = kept_low r home in
      rw append_assoc (runs_word base r (kept_at r) (save_code rs ++ is) pointer (omega arith) low.1 (omega arith) fits small (λ c1 one.
      runs_save base rs is (λ q h. good q (rw h (or_true (nat_eq q r)))) (one.registers 2 (omega arith) ∙ pointer) inside one.fits one.small (λ c2 rest.
      run c2 (record {
        kept = λ q a h. by c1 c2 one rest home q a (nat_eq q r) (among q rs) refl refl h;
        unkept = λ q a h. none c1 c2 one rest home q a (nat_eq q r) refl h;
        others = λ i h. rest.others i h ∙ one.others i (outside i (kept_at r) h k l);
        registers = λ j ne. rest.registers j ne ∙ one.registers j ne;
        fits = rest.fits;
        small = rest.small;
      }))))
    where
      outside : (i k : ℕ) → (i ≤ base) ⊎ (base + 19 ≤ i) → 0 < k → k < 19 → i ≢ base + k
      outside i k (inl h) a b e = omega arith
      outside i k (inr h) a b e = omega arith

      by : (c1 c2 : Contents) → Stored (base + kept_at r) (c.register r) c c1 → Saved rs base c1 c2 → is_home_register r ≡ true → (q : ℕ) → is_home_register q ≡ true → (t u : Bool) → nat_eq q r ≡ t → among q rs ≡ u → (t || u) ≡ true → c2.word (base + kept_at q) ≡ c.register q
      by c1 c2 one rest home q a t true e f h = rest.kept q a f ∙ one.registers q (let low = home_register q a in omega arith)
      by c1 c2 one rest home q a true false e f h = let same : q ≡ r = grind (arith, nat_tests) in rest.unkept q a f ∙ rw same one.here
      by c1 c2 one rest home q a false false e f h = absurd cc

      none : (c1 c2 : Contents) → Stored (base + kept_at r) (c.register r) c c1 → Saved rs base c1 c2 → is_home_register r ≡ true → (q : ℕ) → is_home_register q ≡ true → (t : Bool) → nat_eq q r ≡ t → (t || among q rs) ≡ false → c2.word (base + kept_at q) ≡ c.word (base + kept_at q)
      none c1 c2 one rest home q a true e h = absurd cc
      none c1 c2 one rest home q a false e h = let ne : q ≢ r = grind (arith, nat_tests) in let far = kept_apart q r a home ne in rest.unkept q a h ∙ one.others (base + kept_at q) (λ same. far (omega arith))

  pub runs_restore : {c : Contents} {d : Deed} (base : ℕ) (rs : List ℕ) (is : List Inst) → ((q : ℕ) → among q rs ≡ true → is_home_register q ≡ true) → c.register 2 ≡ 4 * base → base + 19 ≤ plan.private → ((j : ℕ) → c.register j < 2 ^ 32) → ((j : ℕ) → c.word j < 2 ^ 32) →
      ((c' : Contents) → Restored rs base c c' → Runs s plan.private to is c' d) → Runs s plan.private to (restore_code rs ++ is) c d
  runs_restore {c} base [] is good pointer inside fits small run = run c (record { words = λ i. refl; kept = λ q h. absurd cc; others = λ j h. refl; fits = fits })
  runs_restore {c} base (r ∷ rs) is good pointer inside fits small run =
      let home : is_home_register r ≡ true = good r (grind (arith, nat_tests)) in
      let low = home_register r home in let l = kept_small r home in
      let v : ℕ = c.word (base + kept_at r) in
      let c1 : Contents = put r v c in
      let like = like_put r v c (small (base + kept_at r)) fits in
      rw append_assoc (runs_load s plan.private to base r (kept_at r) (restore_code rs ++ is) pointer (omega arith) (omega arith) low.1 (omega arith) fine.private (
      runs_restore {c = put r (c.word (base + kept_at r)) c} base rs is (λ q h. good q (rw h (or_true (nat_eq q r)))) (like.registers 2 (omega arith) ∙ pointer) inside like.fits small (λ c2 rest.
      run c2 (record {
        words = rest.words;
        kept = λ q h. by c2 rest home q (nat_eq q r) (among q rs) refl refl h;
        others = λ j h. none c2 rest j (nat_eq j r) refl h;
        fits = rest.fits;
      }))))
    where
      by : (c2 : Contents) → Restored rs base (put r (c.word (base + kept_at r)) c) c2 → is_home_register r ≡ true → (q : ℕ) (t u : Bool) → nat_eq q r ≡ t → among q rs ≡ u → (t || u) ≡ true → c2.register q ≡ c.word (base + kept_at q)
      by c2 rest home q t true e f h = rest.kept q f
      by c2 rest home q true false e f h =
          let same : q ≡ r = grind (arith, nat_tests) in let low = home_register r home in
          rest.others q f ∙ rw same (put_same r (c.word (base + kept_at r)) c (omega arith) low.1)
      by c2 rest home q false false e f h = absurd cc

      none : (c2 : Contents) → Restored rs base (put r (c.word (base + kept_at r)) c) c2 → (j : ℕ) (t : Bool) → nat_eq j r ≡ t → (t || among j rs) ≡ false → c2.register j ≡ c.register j
      none c2 rest j true e h = absurd cc
      none c2 rest j false e h = let ne : j ≢ r = grind (arith, nat_tests) in rest.others j h ∙ put_other r (c.word (base + kept_at r)) j c ne

  -- stores behind the running function's frame, and where it keeps registers, leave the agreement
  pub ready_far : {live : VariableSet} {m : Moment} {c c' : Contents} (h : Ready plan live m c) → ((i : ℕ) → (i ≤ h.agrees.base) ⊎ (h.agrees.base + 19 ≤ i) → i < h.agrees.base + plan.words m.function → c'.word i ≡ c.word i) → ((j : ℕ) → j ≢ 7 → c'.register j ≡ c.register j) → ((j : ℕ) → c'.register j < 2 ^ 32) → ((i : ℕ) → c'.word i < 2 ^ 32) → Ready plan live m c'
  ready_far {live} {m} {c} {c'} h words registers fits small =
      let a = h.agrees in let long = fine.words m.function in
      record {
        zero = registers 0 (omega arith) ∙ h.zero;
        fits = fits;
        small = small;
        agrees = record {
          base = a.base;
          variables = λ v l. one a.base (variables m.function) (plan.home m.function v) (fine.homes m.function v) (λ i o l. words i o (omega arith)) ∙ a.variables v l;
          pointer = registers 2 (omega arith) ∙ a.pointer;
          frame = registers 3 (omega arith) ∙ a.frame;
          depth = λ by_a. registers 10 (omega arith) ∙ a.depth by_a;
          addresses = λ by_a. registers 4 (omega arith) ∙ a.addresses by_a;
          residents = λ n q e. registers q (let high = resident_high (resident_home 27 plan.residents n) q e in omega arith) ∙ a.residents n q e;
          waiting = waiting_stays s plan variables fine m.function c c' a.base m.frame m.waiting (registers 1 (omega arith)) (λ i l. words i (inl l) (omega arith)) (λ q good e. registers q (let low = home_register q good in omega arith)) a.waiting;
          room = a.room;
          within = a.within;
        };
      }
    where
      one : (base n : ℕ) (home : Home) → IsHome n home → ((i : ℕ) → (i ≤ base) ⊎ (base + 19 ≤ i) → i < base + (19 + n) → c'.word i ≡ c.word i) → held c' base home ≡ held c base home
      one base n (Register r) good same = registers r (let low = home_register r good in omega arith)
      one base n (Slot i) good same = same (base + slot_at i) (inr (omega arith)) (omega arith)

  -- the private frame of a function that makes calls begins where x2 says
  pub base_is : {live : VariableSet} {m : Moment} {c : Contents} (h : Ready plan live m c) (base : ℕ) → plan.leaf m.function ≡ false → c.register 2 ≡ 4 * base → h.agrees.base ≡ base
  base_is {m = m} h base calls e = let p = own_frame s plan variables fine h (calls_framed s plan variables fine m.function calls) in omega arith

  -- ---- arguments

  -- arguments go into registers that variables may have
  pub given_good : (g r : ℕ) (xs : List Argument) → gives_register (plan.home g) xs r ≡ true → is_home_register r ≡ true
  given_good g r [] e = absurd cc
  given_good g r (x ∷ xs) e = by (is_register r (plan.home g x.parameter)) refl e (given_good g r xs)
    where
      in_home : (home : Home) → IsHome (variables g) home → is_register r home ≡ true → is_home_register r ≡ true
      in_home (Register h) good same = let is : r ≡ h = grind (arith, nat_tests) in rw is good
      in_home (Slot i) good same = absurd (let no : false ≡ true = same in cc)

      by : (b : Bool) → is_register r (plan.home g x.parameter) ≡ b → (b || gives_register (plan.home g) xs r) ≡ true → (gives_register (plan.home g) xs r ≡ true → is_home_register r ≡ true) → is_home_register r ≡ true
      by true same e later = in_home (plan.home g x.parameter) (fine.homes g x.parameter) same
      by false same e later = later e

  -- arguments don't go into a register in which none of their variables is
  pub not_given : (g r : ℕ) (xs : List Argument) → ((u : ℕ) → gives xs u ≡ true → plan.home g u ≢ Register r) → gives_register (plan.home g) xs r ≡ false
  not_given g r [] h = refl
  not_given g r (x ∷ xs) h = by (is_register r (plan.home g x.parameter)) refl (not_given g r xs (λ u e. h u (rw e (or_true (nat_eq u x.parameter)))))
    where
      there : (home : Home) → is_register r home ≡ true → home ≡ Register r
      there (Register q) e = let same : q ≡ r = grind (arith, nat_tests) in ap Register same
      there (Slot i) e = absurd (let no : false ≡ true = e in cc)

      by : (b : Bool) → is_register r (plan.home g x.parameter) ≡ b → gives_register (plan.home g) xs r ≡ false → (b || gives_register (plan.home g) xs r) ≡ false
      by true e rest = absurd (h x.parameter (grind (arith, nat_tests)) (there (plan.home g x.parameter) e))
      by false e rest = rest

  pub wait_on : (f g base : ℕ) (c c' : Contents) (xs : List Argument) → ((q : ℕ) → is_home_register q ≡ true → c.word (base + kept_at q) ≡ c.register q → c'.word (base + kept_at q) ≡ c'.register q) → Wait plan f g base c xs → Wait plan f g base c' xs
  wait_on f g base c c' [] step w = tt
  wait_on f g base c c' (x ∷ xs) step w =
      (λ t is o. step (source (plan.home f) 5 x.operand) (given_good g (source (plan.home f) 5 x.operand) xs o) (w.0 t is o), wait_on f g base c c' xs step w.1)

  -- arguments are in their slots in the frame of the function that is called, and those that are overwritten wait
  pub record Gave (live : VariableSet) (m : Moment) (base g : ℕ) (xs : List Argument) (c' : Contents) : Type 0 where
    pub ready : Ready plan live m c'
    pub based : ready.agrees.base ≡ base
    pub slots : (u : ℕ) → gives xs u ≡ true → (i : ℕ) → plan.home g u ≡ Slot i → c'.word (base + (plan.words m.function + slot_at i)) ≡ given xs m.env u
    pub waits : Wait plan m.function g base c' xs

  runs_argument : {live : VariableSet} {m : Moment} {c : Contents} {d : Deed} (base g : ℕ) (xs : List Argument) (x : Argument) (is : List Inst) → plan.leaf m.function ≡ false → ((u : ℕ) → in_operand x.operand u ≡ true → live u ≡ true) → IsNumber x.operand →
      ((u : ℕ) → u ≢ x.parameter → gives xs u ≡ true → plan.home g u ≢ plan.home g x.parameter) → base + plan.words m.function + plan.words g ≤ plan.private → Gave live m base g xs c →
      ((c' : Contents) → Gave live m base g (x ∷ xs) c' → Runs s plan.private to is c' d) → Runs s plan.private to (argument_code plan m.function g xs x ++ is) c d
  runs_argument {live} {m} {c} {d} base g xs x is calls reads number apart inside gave run = by (plan.home g x.parameter) refl
    where
      -- a word in which a register is kept is none of the others
      outside : (b i k : ℕ) → b ≡ base → (i ≤ b) ⊎ (b + 19 ≤ i) → 0 < k → k < 19 → i ≢ base + k
      outside b i k same (inl h) low high e = omega arith
      outside b i k same (inr h) low high e = omega arith

      -- the operand's register waits; what waits in the same word is the same register
      kept_too : (q : ℕ) (c' : Contents) → is_home_register q ≡ true → Stored (base + kept_at q) (c.register q) c c' → (r : ℕ) → is_home_register r ≡ true → c.word (base + kept_at r) ≡ c.register r → (t : Bool) → nat_eq r q ≡ t → c'.word (base + kept_at r) ≡ c'.register r
      kept_too q c' home one r good same true e =
          let is : r ≡ q = grind (arith, nat_tests) in let low = home_register q home in
          rw is (one.here ∙ sym (one.registers q (omega arith)))
      kept_too q c' home one r good same false e =
          let ne : r ≢ q = grind (arith, nat_tests) in let low = home_register r good in
          let far = kept_apart r q good home ne in
          one.others (base + kept_at r) (λ there. far (omega arith)) ∙ (same ∙ sym (one.registers r (omega arith)))

      waiting : (t : ℕ) → plan.home g x.parameter ≡ Register t → (b : Bool) → is_overwritten plan m.function g xs x.operand ≡ b →
          Runs s plan.private to ((if b then store_code (source (plan.home m.function) 5 x.operand) (kept_at (source (plan.home m.function) 5 x.operand)) else []) ++ is) c d
      waiting t e true o =
          let q : ℕ = source (plan.home m.function) 5 x.operand in
          let home : is_home_register q ≡ true = given_good g q xs o in
          let low = home_register q home in let l = kept_small q home in let k = kept_low q home in
          let long = fine.words m.function in let long' = fine.words g in
          let pointer : c.register 2 ≡ 4 * base = own_frame s plan variables fine gave.ready (calls_framed s plan variables fine m.function calls) ∙ ap (λ n. 4 * n) gave.based in
          runs_word base q (kept_at q) is pointer (omega arith) low.1 (omega arith) gave.ready.fits gave.ready.small (λ c1 one.
          run c1 (record {
            ready = ready_far gave.ready (λ i far near. one.others i (outside gave.ready.agrees.base i (kept_at q) gave.based far k l)) one.registers one.fits one.small;
            based = base_is (ready_far gave.ready (λ i far near. one.others i (outside gave.ready.agrees.base i (kept_at q) gave.based far k l)) one.registers one.fits one.small) base calls (one.registers 2 (omega arith) ∙ pointer);
            slots = given_more m.env x xs (λ (u v : ℕ). (i : ℕ) → plan.home g u ≡ Slot i → c1.word (base + (plan.words m.function + slot_at i)) ≡ v)
                (λ i which. absurd (let no : Register t ≡ Slot i = sym e ∙ which in cc))
                (λ u ne some i which. one.others (base + (plan.words m.function + slot_at i)) (omega arith) ∙ gave.slots u some i which);
            waits = (λ r which o'. one.here ∙ sym (one.registers q (omega arith)), wait_on m.function g base c c1 xs (λ r good same. kept_too q c1 home one r good same (nat_eq r q) refl) gave.waits);
          }))
      waiting t e false o =
          run c (record {
            ready = gave.ready;
            based = gave.based;
            slots = given_more m.env x xs (λ (u v : ℕ). (i : ℕ) → plan.home g u ≡ Slot i → c.word (base + (plan.words m.function + slot_at i)) ≡ v)
                (λ i which. absurd (let no : Register t ≡ Slot i = sym e ∙ which in cc)) (λ u ne some i which. gave.slots u some i which);
            waits = (λ r which o'. absurd (let no : true ≡ false = sym o' ∙ o in cc), gave.waits);
          })

      by : (home : Home) → plan.home g x.parameter ≡ home → Runs s plan.private to (argument_to plan m.function g xs home x.operand ++ is) c d
      by (Register t) e = waiting t e (is_overwritten plan m.function g xs x.operand) refl
      by (Slot j) e =
          let r : ℕ = source (plan.home m.function) 5 x.operand in
          let w : ℕ = plan.words m.function + slot_at j in
          let good = fine.homes g x.parameter in
          let low : j < variables g = rw e at good in
          let long = fine.words m.function in let long' = fine.words g in
          let at_base = gave.based in
          rw append_assoc (runs_fetch s plan variables fine to 5 x.operand (store_code r w ++ is) (is_work 5 (omega arith) (omega arith)) gave.ready reads number (λ c1 like got.
          let h1 = ready_like s plan variables fine 5 (is_scratch plan 5 (omega arith) (omega arith)) like gave.ready in
          let pointer : c1.register 2 ≡ 4 * base = like.registers 2 (omega arith) ∙ (own_frame s plan variables fine gave.ready (calls_framed s plan variables fine m.function calls) ∙ ap (λ n. 4 * n) at_base) in
          let based = base_is h1 base calls pointer in
          runs_word base r w is pointer (source_apart s plan variables fine to m.function 5 7 x.operand (omega arith) (omega arith) (omega arith)) (source_plain s plan variables fine to m.function 5 x.operand (omega arith)) (omega arith) h1.fits h1.small (λ c2 one.
          run c2 (record {
            ready = ready_far h1 (λ i far near. one.others i (omega arith)) one.registers one.fits one.small;
            based = base_is (ready_far h1 (λ i far near. one.others i (omega arith)) one.registers one.fits one.small) base calls (one.registers 2 (omega arith) ∙ pointer);
            slots = given_more m.env x xs (λ (u v : ℕ). (i : ℕ) → plan.home g u ≡ Slot i → c2.word (base + (plan.words m.function + slot_at i)) ≡ v)
                (λ i which. (let both : Slot j ≡ Slot i = sym e ∙ which in let same : j ≡ i = cc in subst (λ (k : ℕ). c2.word (base + (plan.words m.function + slot_at k)) ≡ value x.operand m.env) same (one.here ∙ got)))
                (λ u ne some i which. one.others (base + (plan.words m.function + slot_at i)) (λ there. apart u ne some (let same : i ≡ j = omega arith in which ∙ (ap Slot same ∙ sym e)))
                ∙ (like.words (base + (plan.words m.function + slot_at i)) ∙ gave.slots u some i which));
            waits = (
              λ t which o. absurd (let no : Slot j ≡ Register t = sym e ∙ which in cc),
              wait_on m.function g base c c2 xs (λ q home same.
                  (let small = kept_small q home in let high = home_register q home in
                  one.others (base + kept_at q) (omega arith) ∙ (like.words (base + kept_at q) ∙ (same ∙ sym (one.registers q (omega arith) ∙ like.registers q (omega arith)))))) gave.waits,
            );
          }))))

  pub runs_arguments : {live : VariableSet} {m : Moment} {c : Contents} {d : Deed} (g : ℕ) (xs : List Argument) (is : List Inst) (h : Ready plan live m c) → plan.leaf m.function ≡ false → ((u : ℕ) → in_arguments xs u ≡ true → live u ≡ true) → AreGiven xs → AreApart (plan.home g) (gives xs) → h.agrees.base + plan.words m.function + plan.words g ≤ plan.private →
      ((c' : Contents) → Gave live m h.agrees.base g xs c' → Runs s plan.private to is c' d) → Runs s plan.private to (arguments_code plan m.function g xs ++ is) c d
  runs_arguments {live} {m} {c} g [] is h calls reads numbers apart inside run = run c (record { ready = h; based = refl; slots = λ u e. absurd cc; waits = tt })
  runs_arguments {live} {m} {c} g (x ∷ xs) is h calls reads numbers apart inside run =
      rw append_assoc (runs_arguments g xs (argument_code plan m.function g xs x ++ is) h calls (λ u e. reads u (rw e (or_true (in_operand x.operand u)))) numbers.1 (λ u v a b. apart u v (rw a (or_true (nat_eq u x.parameter))) (rw b (or_true (nat_eq v x.parameter)))) inside (λ c1 gave.
      runs_argument h.agrees.base g xs x is calls (λ u e. reads u (rw e refl)) numbers.0 (λ u ne k. apart u x.parameter (rw k (or_true (nat_eq u x.parameter))) (grind (arith, nat_tests)) ne) inside gave run))
