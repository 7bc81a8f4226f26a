-- In code in which conditions are threaded each variable is set before it is read.
use Rattle.std.proofs.Common.{◌≡◌, ℕ, Bool, true, false, ◌||◌, nat_eq, if◌then◌else◌, refl, sym, subst}
use Rattle.std.proofs.lemmas.Bool.{or_right, and_from, and_parts}
use Rattle.dae_meaning.specs.Variables.{VariableSet}
use Rattle.dae_ir.specs.Code.{Done, Do, If, Loop}
use Rattle.dae_ir.specs.Form.{Form}
use Rattle.dae_base.specs.declared.Width.TheVariants.{B1}
use Rattle.dae_ir.specs.Classes.{IsWithin, has, has_check}
use Rattle.dae_ir.specs.declared.form.Operand.TheVariants.{Variable}
use Rattle.dae_ir.specs.declared.form.Check.TheVariants.{Place as Good}
use Rattle.dae_ir.specs.declared.form.Item.{Item}
use Rattle.dae_ir.specs.declared.form.Item.TheVariants.{Assign, Load, Store, Print, Expect, Break, Continue, Call, Return, Halt}
use Rattle.dae_ir.specs.SetFirst.{form_flow, IsSetFirst, assured, after_item}
use Rattle.dae_ir.proofs.Laws.{meet, and_more, assured_more, first_more}
use Rattle.dae_threads.specs.Threaded.{gives_number, gives_sum, leads_away, ends_early, code_then, list_for, IsLed, LedTo, LedInBoth, BehindItem, BehindIf, BehindLoop, IsThreaded, Unchanged, InTurn, InRest, InLists, InLoop, Threads, ListBehind, NumberLast, ChecksFirst}

-- ---- sets

meet_more : (a b a' b' : VariableSet) → IsWithin a a' → IsWithin b b' → IsWithin (meet a b) (meet a' b')
meet_more a b a' b' f g v = and_more (a v) (b v) (a' v) (b' v) (f v) (g v)

meet_first : (a b : VariableSet) → IsWithin (meet a b) a
meet_first a b v h = (and_parts (a v) (b v) h).0

meet_second : (a b : VariableSet) → IsWithin (meet a b) b
meet_second a b v h = (and_parts (a v) (b v) h).1

meet_from : (c a b : VariableSet) → IsWithin c a → IsWithin c b → IsWithin c (meet a b)
meet_from c a b f g v h = and_from (a v) (b v) (f v h) (g v h)

within_then : (a b c : VariableSet) → IsWithin a b → IsWithin b c → IsWithin a c
within_then a b c f g v h = g v (f v h)

-- ---- code with the lists of a condition at its ends

-- what is read was set before, and what is set behind in any case
abbrev IsFirst : VariableSet → VariableSet → Form → Type 0
IsFirst set behind code = IsSetFirst form_flow set code × IsWithin behind (assured form_flow set code)

first_behind : (code : Form) (a b behind : VariableSet) → IsWithin a b → IsFirst a behind code → IsFirst b behind code
first_behind code a b behind more h = (first_more code a b more h.0, within_then behind (assured form_flow a code) (assured form_flow b code) h.1 (assured_more code a b more))

module _ (v : ℕ) (x y : Form) (before behind : VariableSet) (one : IsFirst before behind x) (other : IsFirst before behind y) where
  either_first : (c : Bool) → IsFirst before behind (if c then y else x)
  either_first true = other
  either_first false = one

  led_first : (i j : ℕ) (c d : Form) (set : VariableSet) → IsLed v x y i j c d → IsSetFirst form_flow set c → IsWithin before (assured form_flow set c) → IsFirst set behind d
  led_first i j c d set (LedTo place n) h less =
      let rest = first_behind (list_for n x y) before (after_item set (gives_number v n)) behind less (either_first (nat_eq n 0)) in
      ((h.0, rest.0), rest.1)
  led_first i j c d set (LedInBoth place t i1 j1 i2 j2 p p' q q' f g) h less =
      let a = assured form_flow set p in
      let b = assured form_flow set q in
      let first = led_first i1 j1 p p' set f h.1 (within_then before (meet a b) a less (meet_first a b)) in
      let second = led_first i2 j2 q q' set g h.2 (within_then before (meet a b) b less (meet_second a b)) in
      ((h.0, first.0, second.0, tt), meet_from behind (assured form_flow set p') (assured form_flow set q') first.1 second.1)
  led_first i j c d set (BehindItem place item i1 j1 k k' f) h less =
      let rest = led_first i1 j1 k k' (after_item set item) f h.1 less in
      ((h.0, rest.0), rest.1)
  led_first i j c d set (BehindIf place t p q i1 j1 k k' f) h less =
      let rest = led_first i1 j1 k k' (meet (assured form_flow set p) (assured form_flow set q)) f h.3 less in
      ((h.0, h.1, h.2, rest.0), rest.1)
  led_first i j c d set (BehindLoop place p q i1 j1 k k' f) h less =
      let rest = led_first i1 j1 k k' set f h.2 less in
      ((h.0, h.1, rest.0), rest.1)

-- ---- a list behind its If

then_assured : (c d : Form) (set : VariableSet) → assured form_flow set (code_then c d) ≡ assured form_flow (assured form_flow set c) d
then_assured Done d set = refl
then_assured (Do place item k) d set = then_assured k d (after_item set item)
then_assured (If place t p q k) d set = then_assured k d (meet (assured form_flow set p) (assured form_flow set q))
then_assured (Loop place p q k) d set = then_assured k d set

then_first : (c d : Form) (set : VariableSet) → IsSetFirst form_flow set c → IsSetFirst form_flow (assured form_flow set c) d → IsSetFirst form_flow set (code_then c d)
then_first Done d set r s = s
then_first (Do place item k) d set r s = (r.0, then_first k d (after_item set item) r.1 s)
then_first (If place t p q k) d set r s = (r.0, r.1, r.2, then_first k d (meet (assured form_flow set p) (assured form_flow set q)) r.3 s)
then_first (Loop place p q k) d set r s = (r.0, r.1, then_first k d set r.2 s)

after_grows : (set : VariableSet) (item : Item) → IsWithin set (after_item set item)
after_grows set (Assign v x) = λ u h. or_right (nat_eq u v) (set u) h
after_grows set (Load v kind x) = λ u h. or_right (nat_eq u v) (set u) h
after_grows set (Store width x y) = λ u h. h
after_grows set (Print spelling x) = λ u h. h
after_grows set (Expect check) = λ u h. h
after_grows set Break = λ u h. refl
after_grows set Continue = λ u h. refl
after_grows set (Call v f xs) = λ u h. or_right (nat_eq u v) (set u) h
after_grows set (Return x) = λ u h. refl
after_grows set (Halt x) = λ u h. refl

assured_grows : (c : Form) (set : VariableSet) → IsWithin set (assured form_flow set c)
assured_grows Done set v h = h
assured_grows (Do place item k) set v h = assured_grows k (after_item set item) v (after_grows set item v h)
assured_grows (If place t p q k) set v h =
    assured_grows k (meet (assured form_flow set p) (assured form_flow set q)) v (and_from (assured form_flow set p v) (assured form_flow set q v) (assured_grows p set v h) (assured_grows q set v h))
assured_grows (Loop place p q k) set v h = assured_grows k set v h

-- behind what leads elsewhere all may be said to be set
all_behind_item : (item : Item) → leads_away item ≡ true → (set : VariableSet) (v : ℕ) → after_item set item v ≡ true
all_behind_item (Assign u x) h set v = absurd (let z : false ≡ true = h in cc)
all_behind_item (Load u kind x) h set v = absurd (let z : false ≡ true = h in cc)
all_behind_item (Store width x y) h set v = absurd (let z : false ≡ true = h in cc)
all_behind_item (Print spelling x) h set v = absurd (let z : false ≡ true = h in cc)
all_behind_item (Expect check) h set v = absurd (let z : false ≡ true = h in cc)
all_behind_item Break h set v = refl
all_behind_item Continue h set v = refl
all_behind_item (Call u f xs) h set v = absurd (let z : false ≡ true = h in cc)
all_behind_item (Return x) h set v = refl
all_behind_item (Halt x) h set v = refl

all_behind : (c : Form) → ends_early c ≡ true → (set : VariableSet) (v : ℕ) → assured form_flow set c v ≡ true
all_behind Done h set v = absurd (let z : false ≡ true = h in cc)
all_behind (Do place item k) h set v = by (leads_away item) refl h (λ early. all_behind k early (after_item set item) v) where
  by : (b : Bool) → leads_away item ≡ b → (b || ends_early k) ≡ true → (ends_early k ≡ true → assured form_flow (after_item set item) k v ≡ true) → assured form_flow (after_item set item) k v ≡ true
  by true is early rest = assured_grows k (after_item set item) v (all_behind_item item is set v)
  by false is early rest = rest early
all_behind (If place t p q k) h set v = all_behind k h (meet (assured form_flow set p) (assured form_flow set q)) v
all_behind (Loop place p q k) h set v = all_behind k h set v

-- ---- code

pub threaded_first : (c d : Form) (set : VariableSet) → IsThreaded c d → IsSetFirst form_flow set c → IsFirst set (assured form_flow set c) d
threaded_first c d set (Unchanged c1) h = (h, λ u m. m)
threaded_first c d set (InTurn c1 d1 e1 f g) h =
    let one = threaded_first c1 d1 set f h in
    let other = threaded_first d1 e1 set g one.0 in
    (other.0, within_then (assured form_flow set c1) (assured form_flow set d1) (assured form_flow set e1) one.1 other.1)
threaded_first c d set (InRest place item k k' f) h = (let rest = threaded_first k k' (after_item set item) f h.1 in ((h.0, rest.0), rest.1))
threaded_first c d set (InLists place t p p' q q' k k' f g r) h =
    let one = threaded_first p p' set f h.1 in
    let other = threaded_first q q' set g h.2 in
    let old = meet (assured form_flow set p) (assured form_flow set q) in
    let new = meet (assured form_flow set p') (assured form_flow set q') in
    let more : IsWithin old new = meet_more (assured form_flow set p) (assured form_flow set q) (assured form_flow set p') (assured form_flow set q') one.1 other.1 in
    let rest = first_behind k' old new (assured form_flow old k) more (threaded_first k k' old r h.3) in
    ((h.0, one.0, other.0, rest.0), rest.1)
threaded_first c d set (InLoop place p p' q q' k k' f g r) h =
    let one = threaded_first p p' set f h.0 in
    let other = threaded_first q q' set g h.1 in
    let rest = threaded_first k k' set r h.2 in
    ((one.0, other.0, rest.0), rest.1)
threaded_first c d set (Threads place place' t v i j i' j' more more' x y p p' q q' k f g spread spread' small) h =
    let a = assured form_flow set p in
    let b = assured form_flow set q in
    let before = meet a b in
    let behind = meet (assured form_flow before x) (assured form_flow before y) in
    let condition = h.3 in
    let first : IsFirst before behind x = (condition.1, meet_first (assured form_flow before x) (assured form_flow before y)) in
    let second : IsFirst before behind y = (condition.2, meet_second (assured form_flow before x) (assured form_flow before y)) in
    let one = led_first v x y before behind first second i j p p' set f h.1 (meet_first a b) in
    let other = led_first v x y before behind first second i' j' q q' set g h.2 (meet_second a b) in
    let new = meet (assured form_flow set p') (assured form_flow set q') in
    let wider : IsWithin behind new = meet_from behind (assured form_flow set p') (assured form_flow set q') one.1 other.1 in
    let rest : IsFirst new (assured form_flow behind k) k = first_behind k behind new (assured form_flow behind k) wider (condition.3, λ u m. m) in
    ((h.0, one.0, other.0, rest.0), rest.1)
threaded_first c d set (ListBehind place t x y k early) h =
    let a = assured form_flow set x in
    let b = assured form_flow set y in
    let past : VariableSet = meet set b in
    let wider : IsWithin set past = λ v s. and_from (set v) (b v) s (all_behind y early set v) in
    let behind : VariableSet = assured form_flow past x in
    let more : IsWithin (meet a b) behind = λ v m. assured_more x set past wider v (and_parts (a v) (b v) m).0 in
    let rest : IsFirst behind (assured form_flow (meet a b) k) k = first_behind k (meet a b) behind (assured form_flow (meet a b) k) more (h.3, λ u m. m) in
    let list : IsSetFirst form_flow past (code_then x k) = then_first x k past (first_more x set past wider h.1) rest.0 in
    ((h.0, tt, h.2, list), subst (λ (s : VariableSet). IsWithin (assured form_flow (meet a b) k) s) (sym (then_assured x k past)) rest.1)
threaded_first c d set (NumberLast place v n x k) h = ((and_from (has set x) true h.0 refl, h.1), λ u m. m)
threaded_first c d set (ChecksFirst place place' v x n k near) h =
    let behind : (has_check (after_item set (gives_sum v x n)) (Good B1 (Variable v)) ≡ true) × IsSetFirst form_flow (after_item set (gives_sum v x n)) k = h.1 in
    (((and_parts (has set x) true h.0).0, (h.0, behind.1)), λ u m. m)
