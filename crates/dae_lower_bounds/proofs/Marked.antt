-- Code whose variables are marked where they lead to addresses: sets that hold just those marks, and the wanted variables of the
-- function itself, are kept by the code; and it has few loads into variables that are marked, and few tests of them alone.
use Rattle.std.proofs.Common.{◌≡◌, ℕ, ◌+◌, ◌<◌, ◌≤◌, Bool, true, false, ◌&&◌, nat_lt, if◌then◌else◌, refl, ap, sym, ◌∙◌, subst, arith}
use Rattle.std.proofs.lemmas.Bool.{lt-ltb, le-ltb, and_from}
use Rattle.dae_base.specs.declared.Place.{Place}
use Rattle.dae_base.specs.declared.LoadKind.{LoadKind}
use Rattle.dae_base.specs.declared.LoadKind.TheVariants.{I8, U8, I16, U16, I32}
use Rattle.dae_ir.specs.Code.{Done, Do, If, Loop, Each}
use Rattle.dae_ir.specs.Form.{Form}
use Rattle.dae_ir.specs.Classes.{VariableSet, has, has_test, has_value, is_by_a, AddressesKept}
use Rattle.dae_ir.specs.Sizes.{tally, bit, is_load_into}
use Rattle.dae_ir.specs.declared.form.Item.{Item}
use Rattle.dae_ir.specs.declared.form.Item.TheVariants.{Assign, Expect}
use Rattle.dae_ir.specs.declared.form.Check.TheVariants.{Zero}
use Rattle.dae_ir.specs.declared.form.Operand.{Operand}
use Rattle.dae_ir.specs.declared.form.Operand.TheVariants.{Variable}
use Rattle.dae_ir.specs.declared.form.Test.{Test}
use Rattle.dae_ir.specs.declared.form.Value.{Value}
use Rattle.dae_ir.specs.declared.form.Value.TheVariants.{Same, Extended, Binary}
use Rattle.dae_meaning.specs.declared.Operator.{Operator}
use Rattle.dae_program.specs.Expressions.{divides}
use Rattle.dae_lower.specs.Lowering.{Made, ◌⨾◌, ◌≫◌, nothing, only, one, set, variable, fetched, held, put_in, operated, narrowed, checks, may_be_zero, Assignee, Local, Placed, Condition, branches, gives}

abbrev pub AnyTest : Test → Type 0
AnyTest t = Unit {0}

-- the loads into variables of a set
abbrev pub loads_into : VariableSet → Form → ℕ
loads_into s code = tally (λ item. bit (is_load_into s item)) (λ t. 0) code

pub loads_then : (s : VariableSet) (a b : Form) → loads_into s (a ⨾ b) ≡ loads_into s a + loads_into s b
loads_then s Done b = omega arith
loads_then s (Do place item k) b = let h = loads_then s k b in omega (arith, h)
loads_then s (If place t p q k) b = let h = loads_then s k b in omega (arith, h)
loads_then s (Loop place body step k) b = let h = loads_then s k b in omega (arith, h)

-- the tests whose variables are all in a set
abbrev pub tests_within : VariableSet → Form → ℕ
tests_within s code = tally (λ item. 0) (λ t. bit (is_by_a s t)) code

pub tests_then : (s : VariableSet) (a b : Form) → tests_within s (a ⨾ b) ≡ tests_within s a + tests_within s b
tests_then s Done b = omega arith
tests_then s (Do place item k) b = let h = tests_then s k b in omega (arith, h)
tests_then s (If place t p q k) b = let h = tests_then s k b in omega (arith, h)
tests_then s (Loop place body step k) b = let h = tests_then s k b in omega (arith, h)

pub bit_grows : (a b : Bool) → (a ≡ true → b ≡ true) → bit a ≤ bit b
bit_grows true b h = subst (λ (c : Bool). bit true ≤ bit c) (sym (h refl)) (omega arith)
bit_grows false b h = omega arith

pub each_then : (I : Item → Type 0) (a b : Form) → Each I AnyTest a → Each I AnyTest b → Each I AnyTest (a ⨾ b)
each_then I Done b h g = g
each_then I (Do place item k) b h g = (h.0, each_then I k b h.1 g)
each_then I (If place t p q k) b h g = (h.0, h.1, h.2, each_then I k b h.3 g)
each_then I (Loop place body step k) b h g = (h.0, h.1, each_then I k b h.2 g)

each_if : (I : Item → Type 0) (turned : Bool) (p : Place) (t : Test) (a b : Form) → Each I AnyTest a → Each I AnyTest b → Each I AnyTest (if turned then If p t b a Done else If p t a b Done)
each_if I true p t a b h g = (tt, g, h, tt)
each_if I false p t a b h g = (tt, h, g, tt)

loads_if : (s : VariableSet) (turned : Bool) (p : Place) (t : Test) (a b : Form) → loads_into s (if turned then If p t b a Done else If p t a b Done) ≡ loads_into s a + loads_into s b
loads_if s true p t a b = omega arith
loads_if s false p t a b = omega arith

tests_if : (s : VariableSet) (turned : Bool) (p : Place) (t : Test) (a b : Form) → tests_within s (if turned then If p t b a Done else If p t a b Done) ≡ bit (is_by_a s t) + (tests_within s a + tests_within s b)
tests_if s true p t a b = omega arith
tests_if s false p t a b = omega arith

-- ---- marks

-- one set of marks before a number, and another from there on
abbrev pub joined : ℕ → VariableSet → VariableSet → VariableSet
joined q c d v = if nat_lt v q then c v else d v

-- s is c from n on, up to q
abbrev pub AgreesOn : ℕ → ℕ → VariableSet → VariableSet → Type 0
AgreesOn n q c s = (v : ℕ) → n ≤ v → v < q → s v ≡ c v

abbrev pick : Bool → Bool → Bool → Bool
pick b x y = if b then x else y

pub joined_first : (q : ℕ) (c d : VariableSet) (v : ℕ) → v < q → joined q c d v ≡ c v
joined_first q c d v h = ap (λ (b : Bool). pick b (c v) (d v)) (lt-ltb v q h)

pub joined_second : (q : ℕ) (c d : VariableSet) (v : ℕ) → q ≤ v → joined q c d v ≡ d v
joined_second q c d v h = ap (λ (b : Bool). pick b (c v) (d v)) (le-ltb v q h)

pub agrees_first : (n q j : ℕ) (c d s : VariableSet) → q ≤ j → AgreesOn n j (joined q c d) s → AgreesOn n q c s
agrees_first n q j c d s l h v g k = h v g (omega (arith, k, l)) ∙ ap (λ (b : Bool). pick b (c v) (d v)) (lt-ltb v q k)

pub agrees_second : (n q j : ℕ) (c d s : VariableSet) → n ≤ q → AgreesOn n j (joined q c d) s → AgreesOn q j d s
agrees_second n q j c d s l h v g k = h v (omega (arith, g, l)) k ∙ ap (λ (b : Bool). pick b (c v) (d v)) (le-ltb v q g)

-- an operand leads to an address where the flag says so
abbrev pub Leads : Bool → VariableSet → Operand → Type 0
Leads flag s x = flag ≡ true → has s x ≡ true

-- and where the flag doesn't, it is in the set only where P holds
abbrev pub Led : Bool → Type 0 → VariableSet → Operand → Type 0
Led flag P s x = Leads flag s x × (flag ≡ false → has s x ≡ true → P)

-- a condition has all its variables in the set only where the test is one of these
abbrev pub Decides : Bool → VariableSet → Condition → Type 0
Decides counted s c = has_test s c.test ≡ true → counted ≡ true

-- a new variable with a mark
pub fresh_led : (flag : Bool) (P : Type 0) (s : VariableSet) (n : ℕ) → s n ≡ flag → Led flag P s (Variable n)
fresh_led flag P s n is = ((λ t. is ∙ t), (λ e t. absurd (let c : false ≡ true = sym e ∙ (sym is ∙ t) in cc)))

abbrev pub Any : {Y : Type 0} → VariableSet → Y → Type 0
Any s y = Unit {0}

fetched_loads : (flag b : Bool) → b ≡ flag → bit b + 0 ≤ bit flag
fetched_loads flag b e = subst (λ (c : Bool). bit c + 0 ≤ bit flag) (sym e) (omega arith)

-- a target whose old value may lead to an address, and which gets a value
abbrev pub HeldLeads : Bool → Type 0 → VariableSet → Assignee → Type 0
HeldLeads flag P s (Local v) = Led flag P s (Variable v)
HeldLeads flag P s (Placed checked x) = has s x ≡ true

abbrev pub PutLeads : VariableSet → Operand → Assignee → Type 0
PutLeads s y (Local v) = s v ≡ true → has s y ≡ true
PutLeads s y (Placed checked x) = has s x ≡ true

operated_each : (b : Bool) (all : ℕ → VariableSet) (s : VariableSet) (p : Place) (n : ℕ) (x : Value) (y : Operand) → (s n ≡ true → has_value s x ≡ true) → Each (AddressesKept all s) AnyTest (checks b p (Expect (Zero y)) (one p (Assign n x)))
operated_each true all s p n x y h = (tt, (h, tt))
operated_each false all s p n x y h = (h, tt)

operated_loads : (b : Bool) (s : VariableSet) (p : Place) (n : ℕ) (x : Value) (y : Operand) → loads_into s (checks b p (Expect (Zero y)) (one p (Assign n x))) ≤ 0
operated_loads true s p n x y = omega arith
operated_loads false s p n x y = omega arith

operated_tests : (b : Bool) (s : VariableSet) (p : Place) (n : ℕ) (x : Value) (y : Operand) → tests_within s (checks b p (Expect (Zero y)) (one p (Assign n x))) ≤ 0
operated_tests true s p n x y = omega arith
operated_tests false s p n x y = omega arith

-- ---- of function f, which has m variables itself, in a program whose functions have so many

module _ (wants : ℕ → ℕ → Bool) (own : ℕ → ℕ) (f m : ℕ) where
  abbrev pub FamilyFits : (ℕ → VariableSet) → Type 0
  FamilyFits all = (g v : ℕ) → v < own g → all g v ≡ wants g v

  abbrev pub OwnFits : VariableSet → Type 0
  OwnFits s = (v : ℕ) → v < m → s v ≡ wants f v

  abbrev pub IsMarked : {Y : Type 0} (Is : VariableSet → Y → Type 0) (loads tests : ℕ) (code : Form) (y : Y) → (ℕ → VariableSet) → VariableSet → Type 0
  IsMarked Is loads tests code y all s = Each (AddressesKept all s) AnyTest code × (loads_into s code ≤ loads) × (tests_within s code ≤ tests) × Is s y

  -- code from variable n on, where G is known of the set
  pub record Marked {Y : Type 0} (G : VariableSet → Type 0) (Is : VariableSet → Y → Type 0) (n loads tests : ℕ) (made : Made Y) : Type 0 where
    pub grows : n ≤ made.next
    pub marks : VariableSet
    pub holds : (all : ℕ → VariableSet) → FamilyFits all → (s : VariableSet) → OwnFits s → G s → AgreesOn n made.next marks s → IsMarked Is loads tests made.code made.given all s

  module _ {G : VariableSet → Type 0} where
    pub chain : {X Y : Type 0} {Is : VariableSet → X → Type 0} {Are : VariableSet → Y → Type 0} {a : Made X} {n k l t u : ℕ} (h : X → ℕ → Made Y) → Marked G Is n k t a →
        ((q : ℕ) (y : X) → n ≤ q → Marked (λ s. G s × Is s y) Are q l u (h y q)) → Marked G Are n (k + l) (t + u) (a ≫ h)
    chain {X} {Y} {Is} {Are} {a} {n} {k} {l} {t} {u} h first next = record {
      grows = omega (arith, first.grows, second.grows);
      marks = joined a.next first.marks second.marks;
      holds = λ all fits s own g agree.
          let x = first.holds all fits s own g (agrees_first n a.next (h a.given a.next).next first.marks second.marks s second.grows agree) in
          let y = second.holds all fits s own (g, x.3) (agrees_second n a.next (h a.given a.next).next first.marks second.marks s first.grows agree) in
          let loads = loads_then s a.code (h a.given a.next).code in
          let tests = tests_then s a.code (h a.given a.next).code in
          (each_then (AddressesKept all s) a.code (h a.given a.next).code x.0 y.0, omega (arith, loads, x.1, y.1), omega (arith, tests, x.2, y.2), y.3);
    } where
      second : Marked (λ s. G s × Is s a.given) Are a.next l u (h a.given a.next)
      second = next a.next a.given first.grows

    -- more loads and tests are allowed
    pub more : {Y : Type 0} {Is : VariableSet → Y → Type 0} {n k l t u : ℕ} {made : Made Y} → k ≤ l → t ≤ u → Marked G Is n k t made → Marked G Is n l u made
    more {Y} {Is} {n} {k} {l} {t} {u} low few h = record {
      grows = h.grows;
      marks = h.marks;
      holds = λ all fits s own g agree. let x = h.holds all fits s own g agree in (x.0, omega (arith, x.1, low), omega (arith, x.2, few), x.3);
    }

    -- something else is said of what is given
    pub told : {Y : Type 0} {Is Are : VariableSet → Y → Type 0} {n k t : ℕ} {made : Made Y} → ((s : VariableSet) (y : Y) → Is s y → Are s y) → Marked G Is n k t made → Marked G Are n k t made
    told i h = record {
      grows = h.grows;
      marks = h.marks;
      holds = λ all fits s own g agree. let x = h.holds all fits s own g agree in (x.0, x.1, x.2, i s _ x.3);
    }

    -- a new variable with a mark
    pub with_new : {Y : Type 0} {Is : VariableSet → Y → Type 0} {n k t : ℕ} {made : Made Y} (flag : Bool) → Marked (λ s. G s × (s n ≡ flag)) Is (n + 1) k t made → Marked G Is n k t made
    with_new {Y} {Is} {n} {k} {t} {made} flag h = record {
      grows = omega (arith, h.grows);
      marks = joined (n + 1) (λ v. flag) h.marks;
      holds = λ all fits s own g agree. h.holds all fits s own (g, agrees_first n (n + 1) made.next (λ v. flag) h.marks s h.grows agree n (omega arith) (omega arith)) (agrees_second n (n + 1) made.next (λ v. flag) h.marks s (omega arith) agree);
    }

    -- code with no variable of its own
    pub plain_code : {Y : Type 0} {Is : VariableSet → Y → Type 0} {n k t : ℕ} (code : Form) (y : Y) → ((all : ℕ → VariableSet) → FamilyFits all → (s : VariableSet) → OwnFits s → G s → IsMarked Is k t code y all s) → Marked G Is n k t (only code y n)
    plain_code code y h = record { grows = omega arith; marks = λ v. false; holds = λ all fits s own g agree. h all fits s own g }

    -- and with one
    pub one_new : {Y : Type 0} {Is : VariableSet → Y → Type 0} {n k t : ℕ} (flag : Bool) (code : Form) (y : Y) → ((all : ℕ → VariableSet) → FamilyFits all → (s : VariableSet) → OwnFits s → G s → s n ≡ flag → IsMarked Is k t code y all s) → Marked G Is n k t (only code y (n + 1))
    one_new {Y} {Is} {n} {k} {t} flag code y h = record { grows = omega arith; marks = λ v. flag; holds = λ all fits s own g agree. h all fits s own g (agree n (omega arith) (omega arith)) }

    pub nothing_marked : {Y : Type 0} {Is : VariableSet → Y → Type 0} {n : ℕ} (y : Y) → ((s : VariableSet) → OwnFits s → G s → Is s y) → Marked G Is n 0 0 (nothing y n)
    nothing_marked y h = plain_code Done y (λ all fits s own g. (tt, omega arith, omega arith, h s own g))

    pub set_marked : {n : ℕ} (flag : Bool) (P : Type 0) (p : Place) (x : Value) → ((s : VariableSet) → OwnFits s → G s → flag ≡ true → has_value s x ≡ true) → Marked G (Led flag P) n 0 0 (set p x n)
    set_marked {n} flag P p x h = one_new flag (one p (Assign n x)) (Variable n) (λ all fits s own g is. ((λ t. h s own g (sym is ∙ t), tt), omega arith, omega arith, fresh_led flag P s n is))

    -- a variable of the function
    pub variable_marked : {n : ℕ} (flag : Bool) (P : Type 0) (copied : Bool) (p : Place) (v : ℕ) → ((s : VariableSet) → OwnFits s → G s → Led flag P s (Variable v)) → Marked G (Led flag P) n 0 0 (variable copied p v n)
    variable_marked flag P true p v h = set_marked flag P p (Same (Variable v)) (λ s own g. (h s own g).0)
    variable_marked flag P false p v h = nothing_marked (Variable v) h

    pub fetched_marked : {n : ℕ} (flag : Bool) (P : Type 0) (p : Place) (kind : LoadKind) (checked : Bool) (x : Operand) → ((s : VariableSet) → OwnFits s → G s → has s x ≡ true) → Marked G (Led flag P) n (bit flag) 0 (fetched p kind checked x n)
    fetched_marked {n} flag P p kind true x h = one_new flag _ (Variable n) (λ all fits s own g is. ((h s own g, (h s own g, tt)), (let t = fetched_loads flag (s n) is in omega (arith, t)), omega arith, fresh_led flag P s n is))
    fetched_marked {n} flag P p kind false x h = one_new flag _ (Variable n) (λ all fits s own g is. ((h s own g, tt), (let t = fetched_loads flag (s n) is in omega (arith, t)), omega arith, fresh_led flag P s n is))

    pub held_marked : {n : ℕ} (flag : Bool) (P : Type 0) (p : Place) (kind : LoadKind) (copied : VariableSet) (o : Assignee) → ((s : VariableSet) → OwnFits s → G s → HeldLeads flag P s o) → Marked G (Led flag P) n (bit flag) 0 (held p kind copied o n)
    held_marked flag P p kind copied (Local v) h = more (omega arith) (omega arith) (variable_marked flag P (copied v) p v h)
    held_marked flag P p kind copied (Placed checked x) h = fetched_marked flag P p kind checked x h

    pub put_marked : {n : ℕ} (flag : Bool) (P : Type 0) (p : Place) (kind : LoadKind) (o : Assignee) (y : Operand) → ((s : VariableSet) → OwnFits s → G s → PutLeads s y o × Led flag P s y) → Marked G (Led flag P) n 0 0 (put_in p kind o y n)
    put_marked flag P p kind (Local v) y h = plain_code _ y (λ all fits s own g. let t = h s own g in ((t.0, tt), omega arith, omega arith, t.1))
    put_marked flag P p kind (Placed true x) y h = plain_code _ y (λ all fits s own g. let t = h s own g in ((t.0, (t.0, tt)), omega arith, omega arith, t.1))
    put_marked flag P p kind (Placed false x) y h = plain_code _ y (λ all fits s own g. let t = h s own g in ((t.0, tt), omega arith, omega arith, t.1))

    pub operated_marked : {n : ℕ} (flag : Bool) (P : Type 0) (p : Place) (operator : Operator) (x y : Operand) → ((s : VariableSet) → OwnFits s → G s → Leads flag s x × Leads flag s y) → Marked G (Led flag P) n 0 0 (operated p operator x y n)
    operated_marked {n} flag P p operator x y h = one_new flag _ (Variable n) (λ all fits s own g is. (
      operated_each (divides operator && may_be_zero y) all s p n (Binary operator x y) y (λ t. let c = h s own g in and_from (has s x) (has s y) (c.0 (sym is ∙ t)) (c.1 (sym is ∙ t))),
      operated_loads (divides operator && may_be_zero y) s p n (Binary operator x y) y,
      operated_tests (divides operator && may_be_zero y) s p n (Binary operator x y) y,
      fresh_led flag P s n is,
    ))

    pub narrowed_marked : {n : ℕ} (flag : Bool) (P : Type 0) (p : Place) (kind : LoadKind) (x : Operand) → ((s : VariableSet) → OwnFits s → G s → Led flag P s x) → Marked G (Led flag P) n 0 0 (narrowed p kind x n)
    narrowed_marked flag P p I32 x h = nothing_marked x h
    narrowed_marked flag P p I8 x h = set_marked flag P p (Extended I8 x) (λ s own g. (h s own g).0)
    narrowed_marked flag P p U8 x h = set_marked flag P p (Extended U8 x) (λ s own g. (h s own g).0)
    narrowed_marked flag P p I16 x h = set_marked flag P p (Extended I16 x) (λ s own g. (h s own g).0)
    narrowed_marked flag P p U16 x h = set_marked flag P p (Extended U16 x) (λ s own g. (h s own g).0)

    -- a value in a variable whose mark is known
    pub gives_marked : {n q : ℕ} (flag : Bool) (p : Place) (x : Operand) → ((s : VariableSet) → OwnFits s → G s → (s n ≡ flag) × Leads flag s x) → Marked G Any q 0 0 (gives p n x q)
    gives_marked {n} flag p x h = plain_code _ tt (λ all fits s own g. let t = h s own g in ((λ e. t.1 (sym t.0 ∙ e), tt), omega arith, omega arith, tt))

    -- of a condition that counts where it is decided by the set
    pub branches_marked : {made : Made Condition} {n k l j t u v : ℕ} (counted : Bool) (p : Place) (pos neg : ℕ → Made (Unit {0})) → Marked G (Decides counted) n k t made →
        ((q : ℕ) → n ≤ q → Marked G Any q l u (pos q)) → ((q : ℕ) → n ≤ q → Marked G Any q j v (neg q)) → Marked G Any n (k + (l + j)) (bit counted + (t + (u + v))) (branches p made pos neg)
    branches_marked {made} {n} {k} {l} {j} {t} {u} {v} counted p pos neg c hy hn = record {
      grows = omega (arith, c.grows, y.grows, z.grows);
      marks = joined made.next c.marks (joined (pos made.next).next y.marks z.marks);
      holds = λ all fits s own g agree.
          let later = agrees_second n made.next last c.marks (joined (pos made.next).next y.marks z.marks) s c.grows agree in
          let a = c.holds all fits s own g (agrees_first n made.next last c.marks (joined (pos made.next).next y.marks z.marks) s (omega (arith, y.grows, z.grows)) agree) in
          let b = y.holds all fits s own g (agrees_first made.next (pos made.next).next last y.marks z.marks s z.grows later) in
          let d = z.holds all fits s own g (agrees_second made.next (pos made.next).next last y.marks z.marks s y.grows later) in
          let loads = loads_then s made.code (if made.given.turned then If p made.given.test (neg (pos made.next).next).code (pos made.next).code Done else If p made.given.test (pos made.next).code (neg (pos made.next).next).code Done) in
          let loads_here = loads_if s made.given.turned p made.given.test (pos made.next).code (neg (pos made.next).next).code in
          let tests = tests_then s made.code (if made.given.turned then If p made.given.test (neg (pos made.next).next).code (pos made.next).code Done else If p made.given.test (pos made.next).code (neg (pos made.next).next).code Done) in
          let tests_here = tests_if s made.given.turned p made.given.test (pos made.next).code (neg (pos made.next).next).code in
          let one_test = bit_grows (is_by_a s made.given.test) counted a.3 in (
            each_then (AddressesKept all s) made.code _ a.0 (each_if (AddressesKept all s) made.given.turned p made.given.test (pos made.next).code (neg (pos made.next).next).code b.0 d.0),
            omega (arith, loads, loads_here, a.1, b.1, d.1),
            omega (arith, tests, tests_here, one_test, a.2, b.2, d.2),
            tt,
          );
    } where
      y : Marked G Any made.next l u (pos made.next)
      y = hy made.next c.grows

      z : Marked G Any (pos made.next).next j v (neg (pos made.next).next)
      z = hn (pos made.next).next (omega (arith, c.grows, y.grows))

      last : ℕ
      last = (neg (pos made.next).next).next
