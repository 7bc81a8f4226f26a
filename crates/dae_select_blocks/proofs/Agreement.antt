-- What keeps the agreement with a moment: work in scratch registers, and a result that goes home.
use Rattle.std.proofs.Common.{◌≡◌, ◌≢◌, ℕ, zero, ◌+◌, ◌-◌, ◌^◌, ◌<◌, ◌≤◌, Bool, true, false, ◌&&◌, List, [], ◌∷◌, Some, None, refl, sym, ap, ◌∙◌, arith, ◌*◌}
use Rattle.std.specs.Prelude.{nat_eq, nat_lt, if◌then◌else◌}
use Rattle.std.proofs.lemmas.Bool.Decides.{nat_tests}
use Rattle.std.proofs.lemmas.Option.{same_Some}
use Rattle.dae_base.proofs.Laws.{times_least}
use Rattle.dae_ir.specs.Classes.{VariableSet}
use Rattle.dae_meaning.specs.Variables.{Env}
use Rattle.dae_meaning.specs.Variables as form
use Rattle.dae_select_walks.specs.declared.Home.{Home}
use Rattle.dae_select_walks.specs.declared.Home.TheVariants.{Register, Slot}
use Rattle.dae_select_walks.specs.Walks.{WalkSetting}
use Rattle.dae_select_walks.specs.Homes.{Contents, held, kept, is_home_register, IsHome, kept_at, slot_at, frame_words, number_key, resident_home, resident_register, none_spared}
use Rattle.dae_select_walks.specs.Agrees.{Plan, Moment, CallFrame, depth_of, Agrees, AreWaiting, return_address, words_below}
use Rattle.dae_select_walks.specs.Compiled.{with_env}
use Rattle.dae_select_blocks.specs.Fits.{Fits}

-- the contents agree with the moment, and are words
pub record Ready (plan : Plan) (live : VariableSet) (m : Moment) (c : Contents) : Type 0 where
  pub zero : c.register 0 ≡ 0
  pub fits : (r : ℕ) → c.register r < 2 ^ 32
  pub small : (i : ℕ) → c.word i < 2 ^ 32
  pub agrees : Agrees plan live m c

-- a home register is none that has another use
pub home_register : (r : ℕ) → is_home_register r ≡ true → (7 < r) × (r < 28) × (r ≢ 10) × (r ≢ 17)
home_register r h = (grind (arith, nat_tests), grind (arith, nat_tests), grind (arith, nat_tests), grind (arith, nat_tests))

-- the register of a number that stays in one is a home register, though no variable's
pub resident_high : (home : Home) (r : ℕ) → resident_register home ≡ Some r → (24 < r) × (r < 28)
resident_high (Register q) r e = by (nat_lt 24 q && nat_lt q 28) refl e
  where
    by : (b : Bool) → (nat_lt 24 q && nat_lt q 28) ≡ b → (if b then Some q else None) ≡ Some r → (24 < r) × (r < 28)
    by true t f = let same : q ≡ r = same_Some q r f in let low : 24 < q = grind (arith, nat_tests) in let high : q < 28 = grind (arith, nat_tests) in (omega arith, omega arith)
    by false t f = absurd (let none : None ≡ Some r = f in cc)
resident_high (Slot i) r e = absurd (let none : None ≡ Some r = e in cc)

high_home : (r : ℕ) → 24 < r → r < 28 → is_home_register r ≡ true
high_home r a b = grind (arith, nat_tests)

pub resident_good : (home : Home) (r : ℕ) → resident_register home ≡ Some r → is_home_register r ≡ true
resident_good home r e = let k = resident_high home r e in high_home r k.0 k.1

pub kept_small : (r : ℕ) → is_home_register r ≡ true → kept_at r < 19
kept_small r h = grind (arith, nat_tests)

-- the register has no meaning between blocks
pub record IsScratch (plan : Plan) (r : ℕ) : Type 0 where
  pub zero : 0 ≢ r
  pub two : 2 ≢ r
  pub three : 3 ≢ r
  pub link : 1 ≢ r
  pub home : is_home_register r ≡ false
  pub depth : plan.by_a ≡ true → 10 ≢ r
  pub addresses : plan.by_a ≡ true → 4 ≢ r

-- a number's place among the homes is no variable's
pub key_apart : (n v : ℕ) → v < 2 ^ 32 → nat_eq (number_key n) v ≡ false
unfolding number_key
key_apart n v l = grind (arith, nat_tests)

-- only that register may be another
pub record Like (r : ℕ) (c c' : Contents) : Type 0 where
  pub words : (i : ℕ) → c'.word i ≡ c.word i
  pub registers : (j : ℕ) → j ≢ r → c'.register j ≡ c.register j
  pub fits : (j : ℕ) → c'.register j < 2 ^ 32

module _ (s : WalkSetting) (plan : Plan) (variables : ℕ → ℕ) (fine : Fits s plan variables) where
  -- the waiting calls are kept in the words up to the frame's first, in registers that are spared, and the address that is returned to
  pub waiting_same : (c c' : Contents) (spared spared' : ℕ → Bool) (address address' base frame : ℕ) (ws : List CallFrame) → address' ≡ address → ((i : ℕ) → i ≤ base → c'.word i ≡ c.word i) → ((r : ℕ) → spared' r ≡ spared r) →
      ((r : ℕ) → is_home_register r ≡ true → spared r ≡ true → c'.register r ≡ c.register r) → AreWaiting plan c spared address base frame ws → AreWaiting plan c' spared' address' base frame ws
  waiting_same c c' spared spared' address address' base frame [] returns same alike registers h = (h.0, h.1, returns ∙ h.2)
  waiting_same c c' spared spared' address address' base frame (w ∷ ws) returns same alike registers h =
      let below = h.0 in let base_is = h.1 in
      let is = fine.words w.function in (
        below,
        base_is,
        h.2,
        h.3,
        h.4,
        h.5,
        returns ∙ h.6,
        (λ v l. one below v base_is is (plan.home w.function v) (fine.homes w.function v) ∙ h.7 v l),
        waiting_same c c' none_spared none_spared (c.word below) (c'.word below) below w.frame ws (same below (omega arith)) (λ i l. same i (omega arith)) (λ r. refl) (λ r good e. absurd (let no : false ≡ true = e in cc)) h.8,
      )
    where
      place : (below r : ℕ) → is_home_register r ≡ true → c'.word (below + kept_at r) ≡ c.word (below + kept_at r) → (x y : Bool) → spared' r ≡ x → spared r ≡ y → (if x then c'.register r else c'.word (below + kept_at r)) ≡ (if y then c.register r else c.word (below + kept_at r))
      place below r good word true true e f = registers r good f
      place below r good word false false e f = word
      place below r good word true false e f = absurd (let no : true ≡ false = sym e ∙ (alike r ∙ f) in cc)
      place below r good word false true e f = absurd (let no : false ≡ true = sym e ∙ (alike r ∙ f) in cc)

      one : (below v : ℕ) → base ≡ below + plan.words w.function → plan.words w.function ≡ frame_words (variables w.function) → (home : Home) → IsHome (variables w.function) home → kept spared' c' below home ≡ kept spared c below home
      one below v at is (Register r) good = let l = kept_small r good in place below r good (same (below + kept_at r) (omega arith)) (spared' r) (spared r) refl refl
      one below v at is (Slot i) good = same (below + slot_at i) (omega arith)

  -- a function that makes calls has a frame of its own, and so has one with a slot
  pub calls_framed : (f : ℕ) → plan.leaf f ≡ false → plan.frameless f ≡ false
  calls_framed f calls = by (plan.frameless f) refl
    where
      by : (frameless : Bool) → plan.frameless f ≡ frameless → frameless ≡ false
      by true e = absurd (let leaf = fine.leaves f e in let no : true ≡ false = sym leaf ∙ calls in cc)
      by false e = refl

  pub slot_framed : (f v i : ℕ) → plan.home f v ≡ Slot i → plan.frameless f ≡ false
  slot_framed f v i is = by (plan.frameless f) refl
    where
      by : (frameless : Bool) → plan.frameless f ≡ frameless → frameless ≡ false
      by true e = absurd (fine.frameless f v i e is)
      by false e = refl

  -- and x2 points to it
  pub own_frame : {live : VariableSet} {m : Moment} {c : Contents} (h : Ready plan live m c) → plan.frameless m.function ≡ false → c.register 2 ≡ 4 * h.agrees.base
  own_frame {m = m} h framed =
      h.agrees.pointer ∙ ap (λ (frameless : Bool). 4 * (if frameless then h.agrees.base - words_below plan m.waiting else h.agrees.base)) framed

  -- a leaf has that address in x1, any other function in its frame's first word
  pub address_same : (f base : ℕ) (c c' : Contents) → c'.register 1 ≡ c.register 1 → c'.word base ≡ c.word base → return_address plan f c' base ≡ return_address plan f c base
  address_same f base c c' link first = by (plan.leaf f)
    where
      by : (leaf : Bool) → (if leaf then c'.register 1 else c'.word base) ≡ (if leaf then c.register 1 else c.word base)
      by true = link
      by false = first

  pub waiting_stays : (f : ℕ) (c c' : Contents) (base frame : ℕ) (ws : List CallFrame) → c'.register 1 ≡ c.register 1 → ((i : ℕ) → i ≤ base → c'.word i ≡ c.word i) → ((r : ℕ) → is_home_register r ≡ true → plan.spares f r ≡ true → c'.register r ≡ c.register r) →
      AreWaiting plan c (plan.spares f) (return_address plan f c base) base frame ws → AreWaiting plan c' (plan.spares f) (return_address plan f c' base) base frame ws
  waiting_stays f c c' base frame ws link same registers h =
      waiting_same c c' (plan.spares f) (plan.spares f) (return_address plan f c base) (return_address plan f c' base) base frame ws (address_same f base c c' link (same base (omega arith))) same (λ r. refl) registers h

  -- a function that makes calls spares no register
  pub calls_spare : (f r : ℕ) → plan.leaf f ≡ false → plan.spares f r ≡ false
  calls_spare f r calls = by (plan.spares f r) refl
    where
      by : (spared : Bool) → plan.spares f r ≡ spared → spared ≡ false
      by true e = absurd (let leaf = fine.spares f r e in let no : true ≡ false = sym leaf ∙ calls in cc)
      by false e = refl

  -- and has the address in its frame
  pub waiting_kept : (f : ℕ) (c : Contents) (base frame : ℕ) (ws : List CallFrame) → plan.leaf f ≡ false → AreWaiting plan c (plan.spares f) (return_address plan f c base) base frame ws → AreWaiting plan c none_spared (c.word base) base frame ws
  waiting_kept f c base frame ws calls h =
      let found : return_address plan f c base ≡ c.word base = ap (λ (leaf : Bool). if leaf then c.register 1 else c.word base) calls in
      waiting_same c c (plan.spares f) none_spared (return_address plan f c base) (c.word base) base frame ws (sym found) (λ i l. refl) (λ r. sym (calls_spare f r calls)) (λ r good e. refl) h

  pub held_like : (r base n : ℕ) (c c' : Contents) (home : Home) → IsScratch plan r → Like r c c' → IsHome n home → held c' base home ≡ held c base home
  held_like r base n c c' (Register h) scratch like good = let e = scratch.home in like.registers h (λ same. other_bool h r good e same)
    where
      other_bool : (h r : ℕ) → is_home_register h ≡ true → is_home_register r ≡ false → h ≡ r → ⊥
      other_bool h r good bad same = let e : is_home_register h ≡ is_home_register r = ap is_home_register same in cc
  held_like r base n c c' (Slot i) scratch like good = like.words (base + slot_at i)

  pub ready_like : {live : VariableSet} {m : Moment} {c c' : Contents} (r : ℕ) → IsScratch plan r → Like r c c' → Ready plan live m c → Ready plan live m c'
  ready_like {live} {m} {c} {c'} r scratch like h =
      let a = h.agrees in
      record {
        zero = like.registers 0 scratch.zero ∙ h.zero;
        fits = like.fits;
        small = λ i. rw (like.words i) (h.small i);
        agrees = record {
          base = a.base;
          variables = λ v l. held_like r a.base (variables m.function) c c' (plan.home m.function v) scratch like (fine.homes m.function v) ∙ a.variables v l;
          pointer = like.registers 2 scratch.two ∙ a.pointer;
          frame = like.registers 3 scratch.three ∙ a.frame;
          depth = λ by_a. like.registers 10 (scratch.depth by_a) ∙ a.depth by_a;
          addresses = λ by_a. like.registers 4 (scratch.addresses by_a) ∙ a.addresses by_a;
          residents = λ n q e. held_like r a.base 0 c c' (Register q) scratch like (resident_good (resident_home 27 plan.residents n) q e) ∙ a.residents n q e;
          waiting = waiting_stays m.function c c' a.base m.frame m.waiting (like.registers 1 scratch.link) (λ i l. like.words i) (λ q good e. held_like r a.base 0 c c' (Register q) scratch like good) a.waiting;
          room = a.room;
          within = a.within;
        };
      }

  -- a home has got a word, and no other home has changed
  pub record Gets (n base : ℕ) (home : Home) (x : ℕ) (c c' : Contents) : Type 0 where
    pub got : held c' base home ≡ x
    pub others : (h : Home) → IsHome n h → h ≢ home → held c' base h ≡ held c base h
    pub zero : c'.register 0 ≡ c.register 0
    pub two : c'.register 2 ≡ c.register 2
    pub three : c'.register 3 ≡ c.register 3
    pub link : c'.register 1 ≡ c.register 1
    pub depth : plan.by_a ≡ true → c'.register 10 ≡ c.register 10
    pub addresses : plan.by_a ≡ true → c'.register 4 ≡ c.register 4
    pub below : (i : ℕ) → i ≤ base → c'.word i ≡ c.word i
    pub fits : (r : ℕ) → c'.register r < 2 ^ 32
    pub small : (i : ℕ) → c'.word i < 2 ^ 32

  -- then the variable is set: what is live then was live before, in another home
  pub ready_gets : {live live' : VariableSet} {m : Moment} {c c' : Contents} (v x : ℕ) → v < variables m.function → (h : Ready plan live m c) → Gets (variables m.function) h.agrees.base (plan.home m.function v) x c c' →
      ((u : ℕ) → live' u ≡ true → u ≢ v → (live u ≡ true) × (plan.home m.function u ≢ plan.home m.function v)) → Ready plan live' (with_env (form.put true v x m.env) m) c'
  ready_gets {live} {live'} {m} {c} {c'} v x scope h g apart =
      let a = h.agrees in
      record {
        zero = g.zero ∙ h.zero;
        fits = g.fits;
        small = g.small;
        agrees = record {
          base = a.base;
          variables = λ u l. by u l (nat_eq u v) refl;
          pointer = g.two ∙ a.pointer;
          frame = g.three ∙ a.frame;
          depth = λ by_a. g.depth by_a ∙ a.depth by_a;
          addresses = λ by_a. g.addresses by_a ∙ a.addresses by_a;
          residents = λ n q e. g.others (Register q) (resident_good (resident_home 27 plan.residents n) q e) (λ same. fine.apart m.function v n q scope e (sym same)) ∙ a.residents n q e;
          waiting = waiting_stays m.function c c' a.base m.frame m.waiting g.link g.below (λ q good e. g.others (Register q) good (λ same. fine.spared m.function v q scope e (sym same))) a.waiting;
          room = a.room;
          within = record { depth = a.within.depth; frame = a.within.frame };
        };
      }
    where
      by : (u : ℕ) → live' u ≡ true → (b : Bool) → nat_eq u v ≡ b → held c' h.agrees.base (plan.home m.function u) ≡ (if b then x else m.env u)
      by u l true e = let same : u ≡ v = grind (arith, nat_tests) in rw same g.got
      by u l false e =
          let other : u ≢ v = grind (arith, nat_tests) in
          let ok = apart u l other in
          g.others (plan.home m.function u) (fine.homes m.function u) ok.1 ∙ h.agrees.variables u ok.0

  -- a frame lies in private memory
  pub frame_inside : {live : VariableSet} {m : Moment} {c : Contents} (h : Ready plan live m c) → h.agrees.base + plan.words m.function ≤ plan.private
  frame_inside {m = m} h =
      let a = h.agrees in let room = a.room in let deep = a.within.depth in let l = fine.largest m.function in
      let once = times_least (plan.limit + 1 - depth_of m) plan.largest (omega arith) in
      omega arith

  -- so that it has few variables
  pub few_variables : {live : VariableSet} {m : Moment} {c : Contents} (h : Ready plan live m c) → variables m.function < 2 ^ 32
  few_variables {m = m} h = let inside = frame_inside h in let long = fine.words m.function in let wide = fine.private in omega arith
