-- Statements are walked over one after the other.
use Rattle.std.proofs.Common.{◌≡◌, ℕ, ◌+◌, ◌-◌, ◌<◌, ◌≤◌, Bool, true, false, nat_eq, if◌then◌else◌, List, [], ◌∷◌, ◌++◌, length, take, drop, get_or, refl, ap, sym, ◌∙◌, subst, arith}
use Rattle.std.proofs.lemmas.List.{take_more, take_all}
use Rattle.std.specs.Prelude.{Vec}
use Rattle.std.specs.declared.alloc.Global.{Global}
use Rattle.dae_base.specs.declared.Place.{Place}
use Rattle.dae_base.specs.declared.Width.TheVariants.{B1}
use Rattle.dae_ir.specs.Code.{Done, Do, If, Loop}
use Rattle.dae_ir.specs.Form.{Form, before, row, form_of}
use Rattle.dae_meaning.specs.declared.Operator.TheVariants.{Add}
use Rattle.dae_ir.specs.declared.form.Operand.TheVariants.{Variable, Number}
use Rattle.dae_ir.specs.declared.form.Value.{Value}
use Rattle.dae_ir.specs.declared.form.Value.TheVariants.{Binary}
use Rattle.dae_ir.specs.declared.form.Check.TheVariants.{Place as Good, InBounds}
use Rattle.dae_ir.specs.declared.form.Item.{Item}
use Rattle.dae_ir.specs.declared.form.Item.TheVariants.{Assign, Expect}
use Rattle.dae_ir.specs.declared.form.Test.{Test}
use Rattle.dae_ir.specs.declared.form.Statement.{Statement, Simple, If', Loop'}
use Rattle.dae_ir.specs.declared.form.Statement.TheVariants as statement
use Rattle.dae_ir.proofs.Laws.{before_if, before_loop, rest, rest_one, rest_end}
use Rattle.dae_threads.specs.Threaded.{gives_number, gives_sum, ends_early, code_then, is_nonzero, list_for, firsts, seconds, IsLed, LedTo, LedInBoth, BehindItem, BehindIf, BehindLoop, IsSpread, IsThreaded, Unchanged, InTurn, InRest, InLists, InLoop, Threads, ListBehind, NumberLast, ChecksFirst}
use Rattle.dae_threads.specs.Walked.{value_in_order, statement_in_order, list_before, IsCopy, AreCopiedBehind, IsThreadedTo, IsJoinedWith, IsJoined, AreExchanged, AreWithBoth, AreWithNext}

-- ---- lists, one behind another

list_join : (xs ys : List Statement) (k : Form) → list_before (xs ++ ys) k ≡ list_before xs (list_before ys k)
list_join [] ys k = refl
list_join (x ∷ xs) ys k = ap (before x) (list_join xs ys k)

list_form : (xs : List Statement) → form_of xs ≡ list_before xs Done
list_form [] = refl
list_form (x ∷ xs) = ap (before x) (list_form xs)

list_then : (xs ys zs : List Statement) (k : Form) → zs ≡ xs ++ ys → list_before zs k ≡ list_before xs (list_before ys k)
list_then xs ys zs k is = ap (λ (l : List Statement). list_before l k) is ∙ list_join xs ys k

-- ---- copies

pub simple_copied : (place : Place) (item item' : Item) → item' ≡ item → IsCopy (statement.Simple place item) (statement.Simple place item')
simple_copied place item item' same k = ap (λ (x : Item). Do place x k) same

copied_form : (xs ss ys : List Statement) → xs ≡ [] → AreCopiedBehind xs ss ys → form_of ys ≡ form_of ss
copied_form xs ss ys none copied = list_form ys ∙ copied Done ∙ ap (λ (l : List Statement). list_before l (list_before ss Done)) none ∙ sym (list_form ss)

module _ (p q p' q' : Vec Statement Global) (xs ys : List Statement) (none : xs ≡ []) (nothing : ys ≡ []) (first : AreCopiedBehind xs p.items p'.items) (second : AreCopiedBehind ys q.items q'.items) where
  first_form : form_of p'.items ≡ form_of p.items
  first_form = copied_form xs p.items p'.items none first

  second_form : form_of q'.items ≡ form_of q.items
  second_form = copied_form ys q.items q'.items nothing second

  pub if_copied : (place : Place) (t : Test) → IsCopy (statement.If place t p q) (statement.If place t p' q')
  if_copied place t k =
      let same : If place t (form_of p'.items) (form_of q'.items) k ≡ If place t (form_of p.items) (form_of q.items) k = rw (first_form, second_form) refl in
      before_if place t p' q' k ∙ same ∙ sym (before_if place t p q k)

  pub loop_copied : (place : Place) → IsCopy (statement.Loop place p q) (statement.Loop place p' q')
  loop_copied place k =
      let same : Loop place (form_of p'.items) (form_of q'.items) k ≡ Loop place (form_of p.items) (form_of q.items) k = rw (first_form, second_form) refl in
      before_loop place p' q' k ∙ same ∙ sym (before_loop place p q k)

pub copied_none : (xs ss out : List Statement) → out ≡ xs → AreCopiedBehind xs (take 0 ss) out
copied_none xs ss out same k = ap (λ (l : List Statement). list_before l k) same

pub copied_next : (xs ss : List Statement) (i : ℕ) (s s' : Statement) (out out' : List Statement) → i < length ss → s ≡ get_or ss i s → IsCopy s s' → out' ≡ out ++ s' ∷ [] → AreCopiedBehind xs (take i ss) out → AreCopiedBehind xs (take (i + 1) ss) out'
copied_next xs ss i s s' out out' lt is copy longer so_far k =
    let more : take (i + 1) ss ≡ take i ss ++ s ∷ [] = take_more ss i s lt ∙ ap (λ (t : Statement). take i ss ++ t ∷ []) (sym is) in
    list_then out (s' ∷ []) out' k longer
    ∙ so_far (before s' k)
    ∙ ap (λ (c : Form). list_before xs (list_before (take i ss) c)) (copy k)
    ∙ ap (λ (c : Form). list_before xs c) (sym (list_then (take i ss) (s ∷ []) (take (i + 1) ss) k more))

pub copied_all : (xs ss : List Statement) (i : ℕ) (out : List Statement) → length ss ≤ i → AreCopiedBehind xs (take i ss) out → AreCopiedBehind xs ss out
copied_all xs ss i out le so_far = subst (λ (l : List Statement). AreCopiedBehind xs l out) (take_all i ss le) so_far

-- ---- the lists of a condition at the ends of others

module _ (v : ℕ) (x y : Form) where
  abbrev Led : ℕ → ℕ → Form → Form → Type 0
  Led i j c d = IsLed v x y i j c d

  led_behind : (s : Statement) (i j : ℕ) (c d : Form) → Led i j c d → Led i j (before s c) (before s d)
  led_behind (Simple place item) i j c d h = BehindItem place item i j c d h
  led_behind (If' place t s p u q) i j c d h = BehindIf place t (row p Done) (row q Done) i j c d h
  led_behind (Loop' place s p u q) i j c d h = BehindLoop place (row p Done) (row q Done) i j c d h

  led_behind_all : (xs : List Statement) (i j : ℕ) (c d : Form) → Led i j c d → Led i j (list_before xs c) (list_before xs d)
  led_behind_all [] i j c d h = h
  led_behind_all (s ∷ xs) i j c d h = led_behind s i j (list_before xs c) (list_before xs d) (led_behind_all xs i j c d h)

  pub led_if : (place : Place) (t : Test) (p q p' q' : Vec Statement Global) (i j i' j' a b : ℕ) (none out : List Statement) → none ≡ [] → out ≡ none ++ statement.If place t p' q' ∷ []
      → Led i j (form_of p.items) (form_of p'.items) → Led i' j' (form_of q.items) (form_of q'.items) → a ≡ i + i' → b ≡ j + j' → Led a b (before (statement.If place t p q) Done) (form_of out)
  led_if place t p q p' q' i j i' j' a b none out is longer first second one_is other_is =
      let alone : form_of out ≡ before (statement.If place t p' q') Done = ap form_of (longer ∙ ap (λ (l : List Statement). l ++ statement.If place t p' q' ∷ []) is) in
      let both : Led (i + i') (j + j') (If place t (form_of p.items) (form_of q.items) Done) (If place t (form_of p'.items) (form_of q'.items) Done) =
      LedInBoth place t i j i' j' (form_of p.items) (form_of p'.items) (form_of q.items) (form_of q'.items) first second in
      let codes : Led (i + i') (j + j') (before (statement.If place t p q) Done) (form_of out) =
      subst (λ (c : Form). Led (i + i') (j + j') c (form_of out)) (sym (before_if place t p q Done))
      (subst (λ (d : Form). Led (i + i') (j + j') (If place t (form_of p.items) (form_of q.items) Done) d) (sym (alone ∙ before_if place t p' q' Done)) both) in
      subst (λ (n : ℕ). Led n b (before (statement.If place t p q) Done) (form_of out)) (sym one_is)
      (subst (λ (n : ℕ). Led (i + i') n (before (statement.If place t p q) Done) (form_of out)) (sym other_is) codes)

  led_at : (ss : List Statement) (n : ℕ) (s : Statement) (i j : ℕ) (front led out : List Statement) → n < length ss → length ss ≤ n + 1 → s ≡ get_or ss n s → AreCopiedBehind [] (take n ss) front
      → Led i j (before s Done) (form_of led) → out ≡ front ++ led → Led i j (form_of ss) (form_of out)
  led_at ss n s i j front led out lt le is copied h joined =
      let whole : take (n + 1) ss ≡ take n ss ++ s ∷ [] = take_more ss n s lt ∙ ap (λ (t : Statement). take n ss ++ t ∷ []) (sym is) in
      let old : form_of ss ≡ list_before (take n ss) (before s Done) =
      list_form ss ∙ ap (λ (l : List Statement). list_before l Done) (sym (take_all (n + 1) ss le)) ∙ list_then (take n ss) (s ∷ []) (take (n + 1) ss) Done whole in
      let new : form_of out ≡ list_before (take n ss) (form_of led) =
      list_form out ∙ list_then front led out Done joined ∙ copied (list_before led Done) ∙ ap (λ (c : Form). list_before (take n ss) c) (sym (list_form led)) in
      subst (λ (c : Form). Led i j c (form_of out)) (sym old)
      (subst (λ (d : Form). Led i j (list_before (take n ss) (before s Done)) d) (sym new) (led_behind_all (take n ss) i j (before s Done) (form_of led) h))

  -- what comes in place of the last statement comes behind the others
  pub led_list : (ss : List Statement) (s : Statement) (i j : ℕ) (front led out : List Statement) → 0 < length ss → s ≡ get_or ss (length ss - 1) s → AreCopiedBehind [] (take (length ss - 1) ss) front
      → Led i j (before s Done) (form_of led) → out ≡ front ++ led → Led i j (form_of ss) (form_of out)
  led_list ss s i j front led out some is copied h joined = led_at ss (length ss - 1) s i j front led out (omega (arith, some)) (omega arith) is copied h joined

list_of : (taken skipped : List Statement) (b : Bool) → list_before (if b then skipped else taken) Done ≡ (if b then form_of skipped else form_of taken)
list_of taken skipped true = sym (list_form skipped)
list_of taken skipped false = sym (list_form taken)

-- an end, behind which the list is copied that is for its number
pub led_end : (v n : ℕ) (place : Place) (taken skipped none first out : List Statement) (a b : ℕ) → none ≡ [] → first ≡ none ++ statement.Simple place (gives_number v n) ∷ [] → AreCopiedBehind first (if nat_eq n 0 then skipped else taken) out
    → a ≡ firsts n → b ≡ seconds n → IsLed v (form_of taken) (form_of skipped) a b (Do place (gives_number v n) Done) (form_of out)
led_end v n place taken skipped none first out a b is longer copied one_is other_is =
    let x : Form = form_of taken in
    let y : Form = form_of skipped in
    let chosen : List Statement = if nat_eq n 0 then skipped else taken in
    let begins : first ≡ statement.Simple place (gives_number v n) ∷ [] = longer ∙ ap (λ (l : List Statement). l ++ statement.Simple place (gives_number v n) ∷ []) is in
    let code : form_of out ≡ Do place (gives_number v n) (list_for n x y) =
    list_form out ∙ copied Done ∙ ap (λ (l : List Statement). list_before l (list_before chosen Done)) begins ∙ ap (λ (c : Form). Do place (gives_number v n) c) (list_of taken skipped (nat_eq n 0)) in
    subst (λ (d : Form). IsLed v x y a b (Do place (gives_number v n) Done) d) (sym code)
    (subst (λ (i : ℕ). IsLed v x y i b (Do place (gives_number v n) Done) (Do place (gives_number v n) (list_for n x y))) (sym one_is)
    (subst (λ (j : ℕ). IsLed v x y (firsts n) j (Do place (gives_number v n) Done) (Do place (gives_number v n) (list_for n x y))) (sym other_is) (LedTo place n)))

-- ---- statements, and what is behind them

across : (c c' d d' : Form) → c ≡ c' → d ≡ d' → IsThreaded c' d' → IsThreaded c d
across c c' d d' e f h = subst (λ (z : Form). IsThreaded z d) (sym e) (subst (λ (z : Form). IsThreaded c' z) (sym f) h)

pub simple_threaded : (place : Place) (item item' : Item) → item' ≡ item → IsThreadedTo (statement.Simple place item) (statement.Simple place item')
simple_threaded place item item' same k = subst (λ (x : Item). IsThreaded (Do place item k) (Do place x k)) (sym same) (Unchanged (Do place item k))

module _ (p q p' q' : Vec Statement Global) (first : IsThreaded (form_of p.items) (form_of p'.items)) (second : IsThreaded (form_of q.items) (form_of q'.items)) where
  pub if_threaded : (place : Place) (t : Test) → IsThreadedTo (statement.If place t p q) (statement.If place t p' q')
  if_threaded place t k =
      across _ _ _ _ (before_if place t p q k) (before_if place t p' q' k) (InLists place t (form_of p.items) (form_of p'.items) (form_of q.items) (form_of q'.items) k k first second (Unchanged k))

  pub loop_threaded : (place : Place) → IsThreadedTo (statement.Loop place p q) (statement.Loop place p' q')
  loop_threaded place k =
      across _ _ _ _ (before_loop place p q k) (before_loop place p' q' k) (InLoop place (form_of p.items) (form_of p'.items) (form_of q.items) (form_of q'.items) k k first second (Unchanged k))

pub if_joined : (v : ℕ) (x y : Form) (place : Place) (t : Test) (p q p' q' : Vec Statement Global) (i j i' j' a b more more' : ℕ)
    → IsLed v x y i j (form_of p.items) (form_of p'.items) → IsLed v x y i' j' (form_of q.items) (form_of q'.items) → a ≡ i + i' → b ≡ j + j'
    → IsSpread a x more → IsSpread b y more' → more + more' ≤ 1 → IsJoinedWith (statement.If place t p q) v x y (statement.If place t p' q')
if_joined v x y place t p q p' q' i j i' j' a b more more' first second one_is other_is spread spread' small place' k =
    across _ _ _ _ (before_if place t p q (If place' (is_nonzero v) x y k)) (before_if place t p' q' k)
    (Threads place place' t v i j i' j' more more' x y (form_of p.items) (form_of p'.items) (form_of q.items) (form_of q'.items) k first second
    (subst (λ (n : ℕ). IsSpread n x more) one_is spread) (subst (λ (n : ℕ). IsSpread n y more') other_is spread') small)

pub condition_joined : (s : Statement) (v : ℕ) (place : Place) (t : Test) (taken skipped : Vec Statement Global) (xs ys : List Statement) (s' : Statement) → xs ≡ taken.items → ys ≡ skipped.items → t ≡ is_nonzero v
    → IsJoinedWith s v (form_of xs) (form_of ys) s' → IsJoined s (statement.If place t taken skipped) s'
condition_joined s v place t taken skipped xs ys s' e f is joined k =
    let condition : before (statement.If place t taken skipped) k ≡ If place (is_nonzero v) (form_of xs) (form_of ys) k =
    before_if place t taken skipped k
    ∙ ap (λ (z : Test). If place z (form_of taken.items) (form_of skipped.items) k) is
    ∙ ap (λ (l : List Statement). If place (is_nonzero v) (form_of l) (form_of skipped.items) k) (sym e)
    ∙ ap (λ (l : List Statement). If place (is_nonzero v) (form_of xs) (form_of l) k) (sym f) in
    subst (λ (c : Form). IsThreaded (before s c) (before s' k)) (sym condition) (joined place k)

-- ---- lists of statements

threaded_behind : (s : Statement) (c d : Form) → IsThreaded c d → IsThreaded (before s c) (before s d)
threaded_behind (Simple place item) c d h = InRest place item c d h
threaded_behind (If' place t s p u q) c d h = InLists place t (row p Done) (row p Done) (row q Done) (row q Done) c d (Unchanged (row p Done)) (Unchanged (row q Done)) h
threaded_behind (Loop' place s p u q) c d h = InLoop place (row p Done) (row p Done) (row q Done) (row q Done) c d (Unchanged (row p Done)) (Unchanged (row q Done)) h

threaded_behind_all : (xs : List Statement) (c d : Form) → IsThreaded c d → IsThreaded (list_before xs c) (list_before xs d)
threaded_behind_all [] c d h = h
threaded_behind_all (s ∷ xs) c d h = threaded_behind s (list_before xs c) (list_before xs d) (threaded_behind_all xs c d h)

pub joined_pair : (xs : List Statement) (s t s' : Statement) (ys : List Statement) → IsJoined s t s' → ys ≡ xs ++ s' ∷ [] → AreWithBoth xs s t ys
joined_pair xs s t s' ys joined is k =
    subst (λ (d : Form). IsThreaded (list_before xs (before s (before t k))) d) (sym (list_then xs (s' ∷ []) ys k is))
    (threaded_behind_all xs (before s (before t k)) (before s' k) (joined k))

-- a sum is written with its number behind
value_ordered : (place : Place) (v : ℕ) (x : Value) (k : Form) → IsThreaded (Do place (Assign v x) k) (Do place (Assign v (value_in_order x)) k)
value_ordered place v (Binary Add (Number n) y) k = NumberLast place v n y k
value_ordered place v (Binary Add (Variable u) y) k = Unchanged (Do place (Assign v (Binary Add (Variable u) y)) k)
value_ordered place v _ k = Unchanged _

statement_ordered : (s : Statement) → IsThreadedTo s (statement_in_order s)
statement_ordered (Simple place (Assign v x)) k = value_ordered place v x k
statement_ordered _ k = Unchanged _

-- a check of a sum comes before the sum
pub sum_moved : (s t : Statement) (place place' : Place) (v u w n : ℕ) → statement_in_order s ≡ statement.Simple place (gives_sum v (Variable w) n) → t ≡ statement.Simple place' (Expect (Good B1 (Variable u))) → v ≡ u → n < 2048
    → AreExchanged s t (statement.Simple place' (Expect (InBounds (Variable w) n))) (statement.Simple place (gives_sum v (Variable w) n))
sum_moved s t place place' v u w n sum check is near k =
    let given : Statement = statement.Simple place (gives_sum v (Variable w) n) in
    let first : Statement = statement.Simple place' (Expect (InBounds (Variable w) n)) in
    let checks : t ≡ statement.Simple place' (Expect (Good B1 (Variable v))) = check ∙ ap (λ (i : ℕ). statement.Simple place' (Expect (Good B1 (Variable i)))) (sym is) in
    let ordered : IsThreaded (before s (before t k)) (before given (before t k)) = subst (λ (x : Statement). IsThreaded (before s (before t k)) (before x (before t k))) sum (statement_ordered s (before t k)) in
    let moved : IsThreaded (before given (before t k)) (before first (before given k)) =
    subst (λ (x : Statement). IsThreaded (before given (before x k)) (before first (before given k))) (sym checks) (ChecksFirst place place' v (Variable w) n k near) in
    InTurn (before s (before t k)) (before given (before t k)) (before first (before given k)) ordered moved

pub moved_pair : (xs : List Statement) (s t t' s' : Statement) (ys : List Statement) → AreExchanged s t t' s' → ys ≡ xs ++ t' ∷ s' ∷ [] → AreWithBoth xs s t ys
moved_pair xs s t t' s' ys moved is k =
    subst (λ (d : Form). IsThreaded (list_before xs (before s (before t k))) d) (sym (list_then xs (t' ∷ s' ∷ []) ys k is))
    (threaded_behind_all xs (before s (before t k)) (before t' (before s' k)) (moved k))

pub apart_pair : (xs : List Statement) (s t : Statement) (ys : List Statement) → ys ≡ xs ++ s ∷ t ∷ [] → AreWithBoth xs s t ys
apart_pair xs s t ys is k =
    subst (λ (d : Form). IsThreaded (list_before xs (before s (before t k))) d) (sym (list_then xs (s ∷ t ∷ []) ys k is)) (Unchanged (list_before xs (before s (before t k))))

pub next_with_last : (xs xs' : List Statement) (s t : Statement) (ys : List Statement) → xs ≡ xs' ++ s ∷ [] → AreWithBoth xs' s t ys → AreWithNext xs t ys
next_with_last xs xs' s t ys is both k = subst (λ (c : Form). IsThreaded c (list_before ys k)) (sym (list_then xs' (s ∷ []) xs (before t k) is)) (both k)

pub next_alone : (xs xs' : List Statement) (t : Statement) (ys : List Statement) → xs ≡ xs' ++ [] → ys ≡ xs' ++ t ∷ [] → AreWithNext xs t ys
next_alone xs xs' t ys is longer k =
    across _ _ _ _ (list_then xs' [] xs (before t k) is) (list_then xs' (t ∷ []) ys k longer) (Unchanged (list_before xs' (before t k)))

-- ---- lists behind their conditions

pub next_as_is : (xs : List Statement) (s : Statement) (ys : List Statement) → ys ≡ xs ++ s ∷ [] → AreWithNext xs s ys
next_as_is xs s ys is k =
    subst (λ (d : Form). IsThreaded (list_before xs (before s k)) d) (sym (list_then xs (s ∷ []) ys k is)) (Unchanged (list_before xs (before s k)))

-- what comes in place of a statement comes behind others
pub next_instead : (xs : List Statement) (s s' : Statement) (ys : List Statement) → IsThreadedTo s s' → AreWithNext xs s' ys → AreWithNext xs s ys
next_instead xs s s' ys one next k =
    InTurn (list_before xs (before s k)) (list_before xs (before s' k)) (list_before ys k) (threaded_behind_all xs (before s k) (before s' k) (one k)) (next k)

then_before : (s : Statement) (c d : Form) → code_then (before s c) d ≡ before s (code_then c d)
then_before (Simple place item) c d = refl
then_before (If' place t s p u q) c d = refl
then_before (Loop' place s p u q) c d = refl

then_list : (ss : List Statement) (k : Form) → code_then (form_of ss) k ≡ list_before ss k
then_list [] k = refl
then_list (s ∷ ss) k = then_before s (form_of ss) k ∙ ap (before s) (then_list ss k)

-- the first list comes behind the condition, where the second one ends early
pub list_behind : (xs : List Statement) (place : Place) (t : Test) (none p q : Vec Statement Global) (ys : List Statement) → none.items ≡ [] → ends_early (form_of q.items) ≡ true
    → ys ≡ xs ++ statement.If place t none q ∷ p.items → AreWithNext xs (statement.If place t p q) ys
list_behind xs place t none p q ys nothing early is k =
    let x : Form = form_of p.items in
    let y : Form = form_of q.items in
    let list : Form = list_before p.items k in
    let condition : before (statement.If place t none q) list ≡ If place t Done y list = before_if place t none q list ∙ ap (λ (l : List Statement). If place t (form_of l) y list) nothing in
    let step : IsThreaded (If place t x y k) (If place t Done y list) = subst (λ (c : Form). IsThreaded (If place t x y k) (If place t Done y c)) (then_list p.items k) (ListBehind place t x y k early) in
    across (list_before xs (before (statement.If place t p q) k)) (list_before xs (If place t x y k)) (list_before ys k) (list_before xs (If place t Done y list))
    (ap (λ (c : Form). list_before xs c) (before_if place t p q k))
    (list_then xs (statement.If place t none q ∷ p.items) ys k is ∙ ap (λ (c : Form). list_before xs c) condition)
    (threaded_behind_all xs (If place t x y k) (If place t Done y list) step)

-- the first i statements have become those
abbrev pub ThreadedUpTo : List Statement → ℕ → List Statement → Type 0
ThreadedUpTo ss i out = IsThreaded (form_of ss) (list_before out (form_of (drop i ss)))

pub threaded_none : (ss out : List Statement) → out ≡ [] → ThreadedUpTo ss 0 out
threaded_none ss out none = subst (λ (l : List Statement). IsThreaded (form_of ss) (list_before l (form_of ss))) (sym none) (Unchanged (form_of ss))

pub threaded_next : (ss : List Statement) (i : ℕ) (s s' : Statement) (out out' : List Statement) → i < length ss → s ≡ get_or ss i s → IsThreadedTo s s' → AreWithNext out s' out' → ThreadedUpTo ss i out → ThreadedUpTo ss (i + 1) out'
threaded_next ss i s s' out out' lt is one joined so_far =
    let behind : Form = rest (i + 1) ss in
    let first : IsThreaded (form_of ss) (list_before out (before s behind)) = subst (λ (c : Form). IsThreaded (form_of ss) (list_before out c)) (rest_one ss i s lt is) so_far in
    let second : IsThreaded (list_before out (before s behind)) (list_before out (before s' behind)) = threaded_behind_all out (before s behind) (before s' behind) (one behind) in
    InTurn (form_of ss) (list_before out (before s behind)) (list_before out' behind) first
    (InTurn (list_before out (before s behind)) (list_before out (before s' behind)) (list_before out' behind) second (joined behind))

-- one statement more came behind those
pub threaded_further : (ss : List Statement) (i : ℕ) (s : Statement) (out out' : List Statement) → i < length ss → s ≡ get_or ss i s → AreWithNext out s out' → ThreadedUpTo ss i out → ThreadedUpTo ss (i + 1) out'
threaded_further ss i s out out' lt is one so_far = threaded_next ss i s s out out' lt is (λ k. Unchanged (before s k)) one so_far

pub threaded_all : (ss : List Statement) (i : ℕ) (out : List Statement) → length ss ≤ i → ThreadedUpTo ss i out → IsThreaded (form_of ss) (form_of out)
threaded_all ss i out le so_far =
    subst (λ (d : Form). IsThreaded (form_of ss) d) (ap (λ (c : Form). list_before out c) (rest_end ss i le) ∙ sym (list_form out)) so_far
