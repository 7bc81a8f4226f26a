-- Code in which conditions are threaded is as well made.
use Rattle.std.proofs.Common.{◌≡◌, ℕ, ◌<◌, Bool, true, false, not, ◌&&◌, ◌||◌, nat_eq, if◌then◌else◌, refl}
use Rattle.std.proofs.lemmas.Bool.{or_right, and_from, and_parts}
use Rattle.dae_base.specs.declared.Width.TheVariants.{B1}
use Rattle.dae_ir.specs.Code.{Done, Do, If, Loop, Each, every}
use Rattle.dae_ir.specs.Form.{Form}
use Rattle.dae_ir.specs.Rounds.{is_jump, stays}
use Rattle.dae_ir.specs.Scope.{closes, is_end}
use Rattle.dae_ir.specs.declared.form.Operand.{Operand}
use Rattle.dae_meaning.specs.declared.Operator.TheVariants.{Add}
use Rattle.dae_ir.specs.declared.form.Operand.TheVariants.{Variable, Number}
use Rattle.dae_ir.specs.declared.form.Value.TheVariants.{Binary}
use Rattle.dae_ir.specs.declared.form.Check.TheVariants.{Place as Good, InBounds}
use Rattle.dae_ir.specs.declared.form.Item.{Item}
use Rattle.dae_ir.specs.declared.form.Item.TheVariants.{Assign, Expect}
use Rattle.dae_ir.specs.declared.form.Test.{Test}
use Rattle.dae_threads.specs.Threaded.{gives_number, gives_sum, code_then, is_nonzero, list_for, IsLed, LedTo, LedInBoth, BehindItem, BehindIf, BehindLoop, IsThreaded, Unchanged, InTurn, InRest, InLists, InLoop, Threads, ListBehind, NumberLast, ChecksFirst}

-- ---- each item and each test

-- where there may be a sum, there may be one with its number behind; and with a check of the byte there, one of the byte behind what
-- is added to
pub record KeepsSums (I : Item → Type 0) : Type 0 where
  pub ordered : (v n : ℕ) (x : Operand) → I (Assign v (Binary Add (Number n) x)) → I (gives_sum v x n)
  pub checked : (v : ℕ) (x : Operand) (n : ℕ) → n < 2048 → I (gives_sum v x n) → I (Expect (Good B1 (Variable v))) → I (Expect (InBounds x n))

module _ (I : Item → Type 0) (J : Test → Type 0) where
  either_each : (x y : Form) → Each I J x → Each I J y → (c : Bool) → Each I J (if c then y else x)
  either_each x y h g true = g
  either_each x y h g false = h

  led_each : (v : ℕ) (x y : Form) → Each I J x → Each I J y → (i j : ℕ) (c d : Form) → IsLed v x y i j c d → Each I J c → Each I J d
  led_each v x y h g i j c d (LedTo place n) r = (r.0, either_each x y h g (nat_eq n 0))
  led_each v x y h g i j c d (LedInBoth place t i1 j1 i2 j2 p p' q q' f s) r = (r.0, led_each v x y h g i1 j1 p p' f r.1, led_each v x y h g i2 j2 q q' s r.2, tt)
  led_each v x y h g i j c d (BehindItem place item i1 j1 k k' f) r = (r.0, led_each v x y h g i1 j1 k k' f r.1)
  led_each v x y h g i j c d (BehindIf place t p q i1 j1 k k' f) r = (r.0, r.1, r.2, led_each v x y h g i1 j1 k k' f r.3)
  led_each v x y h g i j c d (BehindLoop place p q i1 j1 k k' f) r = (r.0, r.1, led_each v x y h g i1 j1 k k' f r.2)

  then_each : (c d : Form) → Each I J c → Each I J d → Each I J (code_then c d)
  then_each Done d r s = s
  then_each (Do place item k) d r s = (r.0, then_each k d r.1 s)
  then_each (If place t p q k) d r s = (r.0, r.1, r.2, then_each k d r.3 s)
  then_each (Loop place p q k) d r s = (r.0, r.1, then_each k d r.2 s)

  module _ (sums : KeepsSums I) where
    pub threaded_each : (c d : Form) → IsThreaded c d → Each I J c → Each I J d
    threaded_each c d (Unchanged c1) r = r
    threaded_each c d (InTurn c1 d1 e1 f g) r = threaded_each d1 e1 g (threaded_each c1 d1 f r)
    threaded_each c d (InRest place item k k' h) r = (r.0, threaded_each k k' h r.1)
    threaded_each c d (InLists place t p p' q q' k k' f g h) r = (r.0, threaded_each p p' f r.1, threaded_each q q' g r.2, threaded_each k k' h r.3)
    threaded_each c d (InLoop place p p' q q' k k' f g h) r = (threaded_each p p' f r.0, threaded_each q q' g r.1, threaded_each k k' h r.2)
    threaded_each c d (Threads place place' t v i j i' j' more more' x y p p' q q' k f g spread spread' small) r =
        let behind : J (is_nonzero v) × Each I J x × Each I J y × Each I J k = r.3 in
        (r.0, led_each v x y behind.1 behind.2 i j p p' f r.1, led_each v x y behind.1 behind.2 i' j' q q' g r.2, behind.3)
    threaded_each c d (ListBehind place t x y k early) r = (r.0, tt, r.2, then_each x k r.1 r.3)
    threaded_each c d (NumberLast place v n x k) r = (sums.ordered v n x r.0, r.1)
    threaded_each c d (ChecksFirst place place' v x n k near) r = let check : I (Expect (Good B1 (Variable v))) × Each I J k = r.1 in (sums.checked v x n near r.0 check.0, (r.0, check.1))

each_weaker : (I I' : Item → Type 0) (J J' : Test → Type 0) → ((item : Item) → I item → I' item) → ((t : Test) → J t → J' t) → (code : Form) → Each I J code → Each I' J' code
each_weaker I I' J J' f g Done r = tt
each_weaker I I' J J' f g (Do place item k) r = (f item r.0, each_weaker I I' J J' f g k r.1)
each_weaker I I' J J' f g (If place t p q k) r = (g t r.0, each_weaker I I' J J' f g p r.1, each_weaker I I' J J' f g q r.2, each_weaker I I' J J' f g k r.3)
each_weaker I I' J J' f g (Loop place p q k) r = (each_weaker I I' J J' f g p r.0, each_weaker I I' J J' f g q r.1, each_weaker I I' J J' f g k r.2)

pub threaded_names : (I I' : Item → Type 0) (J J' : Test → Type 0) → ((item : Item) → I item → I' item) → ((t : Test) → J t → J' t) → KeepsSums I' → (c d : Form) → IsThreaded c d → Each I J c → Each I' J' d
threaded_names I I' J J' f g sums c d h r = threaded_each I' J' sums c d h (each_weaker I I' J J' f g c r)

-- ---- the same by tests

three_parts : (a b c : Bool) → (a && (b && c)) ≡ true → (a ≡ true) × (b ≡ true) × (c ≡ true)
three_parts a b c h = (let p = and_parts a (b && c) h in let q = and_parts b c p.1 in (p.0, q.0, q.1))

three_from : (a b c : Bool) → a ≡ true → b ≡ true → c ≡ true → (a && (b && c)) ≡ true
three_from a b c f g h = and_from a (b && c) f (and_from b c g h)

four_parts : (a b c d : Bool) → (a && (b && (c && d))) ≡ true → (a ≡ true) × (b ≡ true) × (c ≡ true) × (d ≡ true)
four_parts a b c d h = (let p = and_parts a (b && (c && d)) h in let q = three_parts b c d p.1 in (p.0, q.0, q.1, q.2))

four_from : (a b c d : Bool) → a ≡ true → b ≡ true → c ≡ true → d ≡ true → (a && (b && (c && d))) ≡ true
four_from a b c d f g h k = and_from a (b && (c && d)) f (three_from b c d g h k)

module _ (f : Item → Bool) (h : Test → Bool) where
  abbrev Has : Form → Type 0
  Has code = every f h code ≡ true

  either_has : (x y : Form) → Has x → Has y → (c : Bool) → Has (if c then y else x)
  either_has x y r s true = s
  either_has x y r s false = r

  led_has : (v : ℕ) (x y : Form) → Has x → Has y → (i j : ℕ) (c d : Form) → IsLed v x y i j c d → Has c → Has d
  led_has v x y r s i j c d (LedTo place n) all =
      let a = and_parts (f (gives_number v n)) true all in
      and_from (f (gives_number v n)) (every f h (list_for n x y)) a.0 (either_has x y r s (nat_eq n 0))
  led_has v x y r s i j c d (LedInBoth place t i1 j1 i2 j2 p p' q q' one other) all =
      let a = four_parts (h t) (every f h p) (every f h q) true all in
      four_from (h t) (every f h p') (every f h q') true a.0 (led_has v x y r s i1 j1 p p' one a.1) (led_has v x y r s i2 j2 q q' other a.2) refl
  led_has v x y r s i j c d (BehindItem place item i1 j1 k k' rest) all =
      let a = and_parts (f item) (every f h k) all in
      and_from (f item) (every f h k') a.0 (led_has v x y r s i1 j1 k k' rest a.1)
  led_has v x y r s i j c d (BehindIf place t p q i1 j1 k k' rest) all =
      let a = four_parts (h t) (every f h p) (every f h q) (every f h k) all in
      four_from (h t) (every f h p) (every f h q) (every f h k') a.0 a.1 a.2 (led_has v x y r s i1 j1 k k' rest a.3)
  led_has v x y r s i j c d (BehindLoop place p q i1 j1 k k' rest) all =
      let a = three_parts (every f h p) (every f h q) (every f h k) all in
      three_from (every f h p) (every f h q) (every f h k') a.0 a.1 (led_has v x y r s i1 j1 k k' rest a.2)

  then_has : (c d : Form) → Has c → Has d → Has (code_then c d)
  then_has Done d r s = s
  then_has (Do place item k) d r s = (let a = and_parts (f item) (every f h k) r in and_from (f item) (every f h (code_then k d)) a.0 (then_has k d a.1 s))
  then_has (If place t p q k) d r s =
      let a = four_parts (h t) (every f h p) (every f h q) (every f h k) r in
      four_from (h t) (every f h p) (every f h q) (every f h (code_then k d)) a.0 a.1 a.2 (then_has k d a.3 s)
  then_has (Loop place p q k) d r s =
      let a = three_parts (every f h p) (every f h q) (every f h k) r in
      three_from (every f h p) (every f h q) (every f h (code_then k d)) a.0 a.1 (then_has k d a.2 s)

  module _ (sums : (v n : ℕ) (x : Operand) → f (gives_sum v x n) ≡ true) (checks : (x : Operand) (n : ℕ) → f (Expect (InBounds x n)) ≡ true) where
    pub threaded_has : (c d : Form) → IsThreaded c d → Has c → Has d
    threaded_has c d (Unchanged c1) all = all
    threaded_has c d (InTurn c1 d1 e1 one other) all = threaded_has d1 e1 other (threaded_has c1 d1 one all)
    threaded_has c d (InRest place item k k' rest) all =
        let a = and_parts (f item) (every f h k) all in
        and_from (f item) (every f h k') a.0 (threaded_has k k' rest a.1)
    threaded_has c d (InLists place t p p' q q' k k' one other rest) all =
        let a = four_parts (h t) (every f h p) (every f h q) (every f h k) all in
        four_from (h t) (every f h p') (every f h q') (every f h k') a.0 (threaded_has p p' one a.1) (threaded_has q q' other a.2) (threaded_has k k' rest a.3)
    threaded_has c d (InLoop place p p' q q' k k' one other rest) all =
        let a = three_parts (every f h p) (every f h q) (every f h k) all in
        three_from (every f h p') (every f h q') (every f h k') (threaded_has p p' one a.0) (threaded_has q q' other a.1) (threaded_has k k' rest a.2)
    threaded_has c d (Threads place place' t v i j i' j' more more' x y p p' q q' k one other spread spread' small) all =
        let a = four_parts (h t) (every f h p) (every f h q) (every f h (If place' (is_nonzero v) x y k)) all in
        let b = four_parts (h (is_nonzero v)) (every f h x) (every f h y) (every f h k) a.3 in
        four_from (h t) (every f h p') (every f h q') (every f h k) a.0 (led_has v x y b.1 b.2 i j p p' one a.1) (led_has v x y b.1 b.2 i' j' q q' other a.2) b.3
    threaded_has c d (ListBehind place t x y k early) all =
        let a = four_parts (h t) (every f h x) (every f h y) (every f h k) all in
        four_from (h t) true (every f h y) (every f h (code_then x k)) a.0 refl a.2 (then_has x k a.1 a.3)
    threaded_has c d (NumberLast place v n x k) all =
        let a = and_parts (f (Assign v (Binary Add (Number n) x))) (every f h k) all in
        and_from (f (gives_sum v x n)) (every f h k) (sums v n x) a.1
    threaded_has c d (ChecksFirst place place' v x n k near) all =
        let a = three_parts (f (gives_sum v x n)) (f (Expect (Good B1 (Variable v)))) (every f h k) all in
        three_from (f (Expect (InBounds x n))) (f (gives_sum v x n)) (every f h k) (checks x n) a.0 a.2

-- ---- no Break or Continue of a loop outside

module _ (inside : Bool) where
  abbrev Stays : Form → Type 0
  Stays code = stays inside code ≡ true

  either_stays : (x y : Form) → Stays x → Stays y → (c : Bool) → Stays (if c then y else x)
  either_stays x y r s true = s
  either_stays x y r s false = r

  abbrev may_stand : Item → Bool
  may_stand item = inside || not (is_jump item)

  led_stays : (v : ℕ) (x y : Form) → Stays x → Stays y → (i j : ℕ) (c d : Form) → IsLed v x y i j c d → Stays c → Stays d
  led_stays v x y r s i j c d (LedTo place n) all =
      let a = and_parts (may_stand (gives_number v n)) true all in
      and_from (may_stand (gives_number v n)) (stays inside (list_for n x y)) a.0 (either_stays x y r s (nat_eq n 0))
  led_stays v x y r s i j c d (LedInBoth place t i1 j1 i2 j2 p p' q q' one other) all =
      let a = three_parts (stays inside p) (stays inside q) true all in
      three_from (stays inside p') (stays inside q') true (led_stays v x y r s i1 j1 p p' one a.0) (led_stays v x y r s i2 j2 q q' other a.1) refl
  led_stays v x y r s i j c d (BehindItem place item i1 j1 k k' rest) all =
      let a = and_parts (may_stand item) (stays inside k) all in
      and_from (may_stand item) (stays inside k') a.0 (led_stays v x y r s i1 j1 k k' rest a.1)
  led_stays v x y r s i j c d (BehindIf place t p q i1 j1 k k' rest) all =
      let a = three_parts (stays inside p) (stays inside q) (stays inside k) all in
      three_from (stays inside p) (stays inside q) (stays inside k') a.0 a.1 (led_stays v x y r s i1 j1 k k' rest a.2)
  led_stays v x y r s i j c d (BehindLoop place p q i1 j1 k k' rest) all =
      let a = three_parts (stays true p) (stays true q) (stays inside k) all in
      three_from (stays true p) (stays true q) (stays inside k') a.0 a.1 (led_stays v x y r s i1 j1 k k' rest a.2)

  then_stays : (c d : Form) → Stays c → Stays d → Stays (code_then c d)
  then_stays Done d r s = s
  then_stays (Do place item k) d r s = (let a = and_parts (may_stand item) (stays inside k) r in and_from (may_stand item) (stays inside (code_then k d)) a.0 (then_stays k d a.1 s))
  then_stays (If place t p q k) d r s =
      let a = three_parts (stays inside p) (stays inside q) (stays inside k) r in
      three_from (stays inside p) (stays inside q) (stays inside (code_then k d)) a.0 a.1 (then_stays k d a.2 s)
  then_stays (Loop place p q k) d r s =
      let a = three_parts (stays true p) (stays true q) (stays inside k) r in
      three_from (stays true p) (stays true q) (stays inside (code_then k d)) a.0 a.1 (then_stays k d a.2 s)

pub threaded_stays : (c d : Form) (inside : Bool) → IsThreaded c d → stays inside c ≡ true → stays inside d ≡ true
threaded_stays c d inside (Unchanged c1) all = all
threaded_stays c d inside (InTurn c1 d1 e1 one other) all = threaded_stays d1 e1 inside other (threaded_stays c1 d1 inside one all)
threaded_stays c d inside (InRest place item k k' rest) all =
    let a = and_parts (inside || not (is_jump item)) (stays inside k) all in
    and_from (inside || not (is_jump item)) (stays inside k') a.0 (threaded_stays k k' inside rest a.1)
threaded_stays c d inside (InLists place t p p' q q' k k' one other rest) all =
    let a = three_parts (stays inside p) (stays inside q) (stays inside k) all in
    three_from (stays inside p') (stays inside q') (stays inside k') (threaded_stays p p' inside one a.0) (threaded_stays q q' inside other a.1) (threaded_stays k k' inside rest a.2)
threaded_stays c d inside (InLoop place p p' q q' k k' one other rest) all =
    let a = three_parts (stays true p) (stays true q) (stays inside k) all in
    three_from (stays true p') (stays true q') (stays inside k') (threaded_stays p p' true one a.0) (threaded_stays q q' true other a.1) (threaded_stays k k' inside rest a.2)
threaded_stays c d inside (Threads place place' t v i j i' j' more more' x y p p' q q' k one other spread spread' small) all =
    let a = three_parts (stays inside p) (stays inside q) (stays inside (If place' (is_nonzero v) x y k)) all in
    let b = three_parts (stays inside x) (stays inside y) (stays inside k) a.2 in
    three_from (stays inside p') (stays inside q') (stays inside k) (led_stays inside v x y b.0 b.1 i j p p' one a.0) (led_stays inside v x y b.0 b.1 i' j' q q' other a.1) b.2
threaded_stays c d inside (ListBehind place t x y k early) all =
    let a = three_parts (stays inside x) (stays inside y) (stays inside k) all in
    three_from true (stays inside y) (stays inside (code_then x k)) refl a.1 (then_stays inside x k a.0 a.2)
threaded_stays c d inside (NumberLast place v n x k) all = all
threaded_stays c d inside (ChecksFirst place place' v x n k near) all = all

-- ---- its own list ends as before

or_more : (a b c : Bool) → (b ≡ true → c ≡ true) → (a || b) ≡ true → (a || c) ≡ true
or_more true b c f h = refl
or_more false b c f h = f h

then_closes : (c d : Form) → closes d ≡ true → closes (code_then c d) ≡ true
then_closes Done d h = h
then_closes (Do place item k) d h = or_right (is_end item) (closes (code_then k d)) (then_closes k d h)
then_closes (If place t p q k) d h = then_closes k d h
then_closes (Loop place p q k) d h = then_closes k d h

pub threaded_closes : (c d : Form) → IsThreaded c d → closes c ≡ true → closes d ≡ true
threaded_closes c d (Unchanged c1) h = h
threaded_closes c d (InTurn c1 d1 e1 one other) h = threaded_closes d1 e1 other (threaded_closes c1 d1 one h)
threaded_closes c d (InRest place item k k' rest) h = or_more (is_end item) (closes k) (closes k') (threaded_closes k k' rest) h
threaded_closes c d (InLists place t p p' q q' k k' one other rest) h = threaded_closes k k' rest h
threaded_closes c d (InLoop place p p' q q' k k' one other rest) h = threaded_closes k k' rest h
threaded_closes c d (Threads place place' t v i j i' j' more more' x y p p' q q' k one other spread spread' small) h = h
threaded_closes c d (ListBehind place t x y k early) h = then_closes x k h
threaded_closes c d (NumberLast place v n x k) h = h
threaded_closes c d (ChecksFirst place place' v x n k near) h = h
