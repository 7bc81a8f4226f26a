-- What is known of the words that variables hold, as far as the actions before them in a list tell: a test of a place needs no
-- code where the address is known to pass it, and none of its alignment where that is known.
use Rattle.std.specs.Prelude.{◌≡◌, ℕ, suc, ◌+◌, ◌-◌, ◌*◌, ◌/◌, ◌%◌, ◌^◌, ◌≤◌, nat_eq, nat_lt, nat_le, Bool, true, false, not, ◌&&◌, ◌||◌, if◌then◌else◌, List, [], ◌∷◌, ◌++◌, take, Option, Some, None}
use Rattle.dae_base.specs.declared.Width.{Width}
use Rattle.dae_base.specs.declared.Width.TheVariants.{B1, B2, B4}
use Rattle.dae_base.specs.declared.LoadKind.{LoadKind}
use Rattle.dae_base.specs.declared.LoadKind.TheVariants.{I8, U8, I16, U16, I32}
use Rattle.dae_base.specs.Words.{size, plus, times}
use Rattle.dae_ir.specs.declared.form.Operand.{Operand}
use Rattle.dae_ir.specs.declared.form.Operand.TheVariants.{Variable, Number}
use Rattle.dae_ir.specs.declared.form.Value.{Value}
use Rattle.dae_ir.specs.declared.form.Value.TheVariants.{Same, Extended, Binary, Holds}
use Rattle.dae_ir.specs.declared.form.Check.TheVariants.{Place}
use Rattle.dae_ir.specs.declared.stream.Action.{Action}
use Rattle.dae_ir.specs.declared.stream.Action.TheVariants.{Set as Compute, Own, Receive, Accept, Probe, Tell, Break, Continue, Return, Call}
use Rattle.dae_ir.specs.Deeds.{Deed, Went, Take, Push, Reserve, Send, Say, Halts}
use Rattle.dae_ir.specs.Classes.{VariableSet}
use Rattle.dae_ir.specs.Code.{Done, Do, If, Loop}
use Rattle.dae_ir.specs.Streams.{Actions}
use Rattle.dae_ir.specs.declared.form.Test.{Test}
use Rattle.dae_ir.specs.declared.stream.Branch.{Branch}
use Rattle.dae_ir.specs.declared.stream.Branch.TheVariants.{Silent, Tells, Hears}
use Rattle.dae_meaning.specs.declared.Comparison.{Comparison}
use Rattle.dae_meaning.specs.declared.Comparison.TheVariants.{LessSigned, LessUnsigned, AtLeastSigned, AtLeastUnsigned}
use Rattle.dae_select_walks.specs.Live.{sets}
use Rattle.dae_meaning.specs.Variables.{Env}
use Rattle.dae_meaning.specs.declared.Operator.{Operator}
use Rattle.dae_meaning.specs.declared.Operator.TheVariants.{Add, Subtract, Multiply, DivideSigned, DivideUnsigned, RemainderSigned, RemainderUnsigned, And, ShiftLeft, ShiftRightSigned, ShiftRightUnsigned}
use Rattle.dae_select_walks.specs.declared.Affine.{Affine}
use Rattle.dae_select_walks.specs.declared.Bounds.{Bounds}
use Rattle.dae_select_walks.specs.declared.Fact.{Fact}
use Rattle.dae_select_walks.specs.declared.Fact.TheVariants.{Within, Equals}
use Rattle.dae_select_walks.specs.declared.Need.{Need}
use Rattle.dae_select_walks.specs.declared.Need.TheVariants.{All, Ends, Nothing}

-- ---- bounds of a word

-- a greatest word that is the greatest of all says nothing
abbrev pub is_bounded : Bounds → Bool
is_bounded b = nat_lt b.high (2 ^ 32 - 1)

pub record LiesIn (b : Bounds) (n : ℕ) : Type 0 where
  pub low : b.low ≤ n
  pub high : is_bounded b ≡ true → n ≤ b.high
  pub aligned : n % size b.aligned ≡ 0

-- the bounds of which only a width is known that divides
abbrev pub aligned_to : Width → Bounds
aligned_to width = record { low = 0; high = 2 ^ 32 - 1; aligned = width }

abbrev pub any : Bounds
any = aligned_to B1

abbrev pub alignment : ℕ → Width
alignment n = if nat_eq (n % 4) 0 then B4 else (if nat_eq (n % 2) 0 then B2 else B1)

abbrev pub single : ℕ → Bounds
single n = record { low = n; high = n; aligned = alignment n }

abbrev pub lesser : Width → Width → Width
lesser B1 y = B1
lesser B2 B1 = B1
lesser B2 y = B2
lesser B4 y = y

abbrev pub greater : Width → Width → Width
greater B1 y = y
greater B2 B4 = B4
greater B2 y = B2
greater B4 y = B4

-- of a sum, a difference and a product: where none of them can leave the words, and else only the alignment
abbrev pub added : Bounds → Bounds → Bounds
added a b =
    if nat_lt (a.high + b.high) (2 ^ 32 - 1) && nat_le (a.low + b.low) (a.high + b.high) then record { low = a.low + b.low; high = a.high + b.high; aligned = lesser a.aligned b.aligned }
    else aligned_to (lesser a.aligned b.aligned)

abbrev pub subtracted : Bounds → Bounds → Bounds
subtracted a b =
    if is_bounded a && nat_le b.high a.low then record { low = a.low - b.high; high = a.high - b.low; aligned = lesser a.aligned b.aligned }
    else aligned_to (lesser a.aligned b.aligned)

abbrev pub multiplied : Bounds → Bounds → Bounds
multiplied a b =
    if (is_bounded a && is_bounded b) && (nat_lt (a.high * b.high) (2 ^ 32 - 1) && nat_le (a.low * b.low) (a.high * b.high))
    then record { low = a.low * b.low; high = a.high * b.high; aligned = greater a.aligned b.aligned }
    else aligned_to (greater a.aligned b.aligned)

-- only one word lies in these
abbrev pub is_single : Bounds → Bool
is_single b = is_bounded b && nat_eq b.low b.high

-- signed words below 2 ^ 31 are divided and shifted as numbers
abbrev pub is_small : Bounds → Bool
is_small b = nat_lt b.high (2 ^ 31)

-- of a quotient by a number, of a remainder by words above 0, and of a conjunction, which is at most either operand
abbrev pub quotient_bounds : Bounds → ℕ → Bounds
quotient_bounds a n = record { low = a.low / n; high = a.high / n; aligned = B1 }

abbrev pub remainder_bounds : Bounds → Bounds → Bounds
remainder_bounds a b = record { low = 0; high = if nat_lt a.high b.high then a.high else b.high - 1; aligned = B1 }

abbrev pub conjunction_bounds : Bounds → Bounds → Bounds
conjunction_bounds a b = record { low = 0; high = if nat_lt a.high b.high then a.high else b.high; aligned = greater a.aligned b.aligned }

-- a shift by a number is a product or a quotient
abbrev pub combined_bounds : Operator → Bounds → Bounds → Bounds
combined_bounds Add a b = added a b
combined_bounds Subtract a b = subtracted a b
combined_bounds Multiply a b = multiplied a b
combined_bounds DivideUnsigned a b = if (is_bounded a && is_single b) && nat_lt 0 b.low then quotient_bounds a b.low else any
combined_bounds DivideSigned a b = if ((is_small a && is_small b) && is_single b) && nat_lt 0 b.low then quotient_bounds a b.low else any
combined_bounds RemainderUnsigned a b = if is_bounded b && nat_lt 0 b.low then remainder_bounds a b else any
combined_bounds RemainderSigned a b = if (is_small a && is_small b) && nat_lt 0 b.low then remainder_bounds a b else any
combined_bounds And a b = conjunction_bounds a b
combined_bounds ShiftLeft a b = if is_single b then multiplied a (single (2 ^ (b.low % 32))) else any
combined_bounds ShiftRightUnsigned a b = if is_bounded a && is_single b then quotient_bounds a (2 ^ (b.low % 32)) else any
combined_bounds ShiftRightSigned a b = if is_small a && is_single b then quotient_bounds a (2 ^ (b.low % 32)) else any
combined_bounds operator a b = any

-- the low bits of a word, which are at most n: they are the word itself where that is so small
abbrev pub low_bounds : ℕ → Bounds → Bounds
low_bounds n b = if nat_le b.high n then b else record { low = 0; high = n; aligned = b.aligned }

-- where the word is at most n, it stays as it is
abbrev pub kept_bounds : ℕ → Bounds → Bounds
kept_bounds n b = if nat_le b.high n then b else any

-- of a word's low bits, extended as a load of this kind does it
abbrev pub extended_bounds : LoadKind → Bounds → Bounds
extended_bounds I8 b = kept_bounds (2 ^ 7 - 1) b
extended_bounds U8 b = low_bounds (2 ^ 8 - 1) b
extended_bounds I16 b = kept_bounds (2 ^ 15 - 1) b
extended_bounds U16 b = low_bounds (2 ^ 16 - 1) b
extended_bounds I32 b = b

-- of whether a test holds
abbrev pub flag_bounds : Bounds
flag_bounds = record { low = 0; high = 1; aligned = B1 }

-- ---- facts

-- a word is an affine one, where the variables are these
abbrev pub IsAffine : Affine → Env → ℕ → Type 0
IsAffine x env n = n % 2 ^ 32 ≡ (x.scale * env x.base + x.offset) % 2 ^ 32

abbrev pub Lies : Fact → Env → Type 0
Lies (Within v b) env = LiesIn b (env v)
Lies (Equals v x) env = IsAffine x env (env v)

-- each fact is so
abbrev pub AllLie : List Fact → Env → Type 0
AllLie [] env = Unit {0}
AllLie (fact ∷ facts) env = Lies fact env × AllLie facts env

-- the bounds of a variable: the first that are told, and else any
abbrev pub gives_bounds : ℕ → Fact → Bool
gives_bounds v (Within u b) = nat_eq u v
gives_bounds v (Equals u x) = false

abbrev pub fact_bounds : Fact → Bounds
fact_bounds (Within u b) = b
fact_bounds (Equals u x) = any

abbrev pub bounds_among : List Fact → ℕ → Bounds → Bounds
bounds_among [] v otherwise = otherwise
bounds_among (fact ∷ facts) v otherwise = if gives_bounds v fact then fact_bounds fact else bounds_among facts v otherwise

-- the affine word that a variable equals: the first that is told, and else its own
abbrev pub gives_affine : ℕ → Fact → Bool
gives_affine v (Within u b) = false
gives_affine v (Equals u x) = nat_eq u v

abbrev pub own_word : ℕ → Affine
own_word v = record { scale = 1; base = v; offset = 0 }

abbrev pub fact_affine : Fact → Affine
fact_affine (Within u b) = own_word u
fact_affine (Equals u x) = x

abbrev pub affine_among : List Fact → ℕ → Affine → Affine
affine_among [] v otherwise = otherwise
affine_among (fact ∷ facts) v otherwise = if gives_affine v fact then fact_affine fact else affine_among facts v otherwise

-- the first variable of which it is told that it equals this
abbrev pub same_affine : Affine → Affine → Bool
same_affine x y = nat_eq x.scale y.scale && (nat_eq x.base y.base && nat_eq x.offset y.offset)

abbrev pub has_affine : Affine → Fact → Bool
has_affine x (Within u b) = false
has_affine x (Equals u y) = same_affine y x

abbrev pub fact_variable : Fact → ℕ
fact_variable (Within u b) = u
fact_variable (Equals u x) = u

abbrev pub equal_among : List Fact → Affine → Option ℕ → Option ℕ
equal_among [] x otherwise = otherwise
equal_among (fact ∷ facts) x otherwise = if has_affine x fact then Some (fact_variable fact) else equal_among facts x otherwise

-- the facts that are of no variable of a set
abbrev pub is_about : VariableSet → Fact → Bool
is_about set (Within v b) = set v
is_about set (Equals v x) = set v || set x.base

abbrev pub less : VariableSet → List Fact → List Fact
less set [] = []
less set (fact ∷ facts) = if is_about set fact then less set facts else fact ∷ less set facts

-- what is known at a place of a list: what was known where the list begins, of variables that the list hasn't set, and what the latest
-- actions of the list tell
pub record Facts : Type 0 where
  pub outer : List Fact
  pub inner : List Fact

abbrev pub unknown : Facts
unknown = record { outer = []; inner = [] }

pub record Hold (facts : Facts) (env : Env) : Type 0 where
  pub outer : AllLie facts.outer env
  pub inner : AllLie facts.inner env

abbrev pub bounds_in : Facts → ℕ → Bounds
bounds_in facts v = bounds_among facts.inner v (bounds_among facts.outer v any)

abbrev pub operand_bounds : Facts → Operand → Bounds
operand_bounds facts (Variable v) = bounds_in facts v
operand_bounds facts (Number n) = single n

abbrev pub affine_in : Facts → ℕ → Affine
affine_in facts v = affine_among facts.inner v (affine_among facts.outer v (own_word v))

abbrev pub operand_affine : Facts → Operand → Affine
operand_affine facts (Variable v) = affine_in facts v
operand_affine facts (Number n) = record { scale = 0; base = 0; offset = n }

-- the sum of an affine word and a number, and their product
abbrev pub shifted_by : ℕ → Affine → Affine
shifted_by n x = record { scale = x.scale; base = x.base; offset = plus x.offset n }

abbrev pub scaled_by : ℕ → Affine → Affine
scaled_by n x = record { scale = times x.scale n; base = x.base; offset = times x.offset n }

abbrev pub combined_affine : Operator → Affine → Affine → Option Affine
combined_affine Add x y = if nat_eq x.scale 0 then Some (shifted_by x.offset y) else (if nat_eq y.scale 0 then Some (shifted_by y.offset x) else None)
combined_affine Multiply x y = if nat_eq x.scale 0 then Some (scaled_by x.offset y) else (if nat_eq y.scale 0 then Some (scaled_by y.offset x) else None)
combined_affine operator x y = None

abbrev pub difference_affine : Affine → Operand → Option Affine
difference_affine x (Variable v) = None
difference_affine x (Number n) = Some (shifted_by (2 ^ 32 - n) x)

abbrev pub result_affine : Facts → Operator → Operand → Operand → Option Affine
result_affine facts Subtract x y = difference_affine (operand_affine facts x) y
result_affine facts operator x y = combined_affine operator (operand_affine facts x) (operand_affine facts y)

abbrev pub affine_of : Facts → Value → Option Affine
affine_of facts (Same x) = Some (operand_affine facts x)
affine_of facts (Binary operator x y) = result_affine facts operator x y
affine_of facts value = None

-- what is told of a variable that equals an affine word holds of this word, where it is told of a number below 2 ^ 32 - 1
abbrev pub some_bounds : Facts → Option ℕ → Bounds
some_bounds facts None = any
some_bounds facts (Some v) = if is_bounded (bounds_in facts v) then bounds_in facts v else any

abbrev pub equal_in : Facts → Affine → Option ℕ
equal_in facts x = equal_among facts.inner x (equal_among facts.outer x None)

abbrev pub equal_bounds : Facts → Option Affine → Bounds
equal_bounds facts None = any
equal_bounds facts (Some x) = some_bounds facts (equal_in facts x)

-- both of two bounds
abbrev pub closer : Bounds → Bounds → Bounds
closer a b =
    record { low = if nat_lt a.low b.low then b.low else a.low; high = if nat_lt a.high b.high then a.high else b.high; aligned = greater a.aligned b.aligned }

abbrev pub result_bounds : Facts → Operator → Operand → Operand → Bounds
result_bounds facts operator x y =
    closer (combined_bounds operator (operand_bounds facts x) (operand_bounds facts y)) (equal_bounds facts (result_affine facts operator x y))

abbrev pub value_bounds : Facts → Value → Bounds
value_bounds facts (Same x) = operand_bounds facts x
value_bounds facts (Extended kind x) = extended_bounds kind (operand_bounds facts x)
value_bounds facts (Holds t) = flag_bounds
value_bounds facts (Binary operator x y) = result_bounds facts operator x y
value_bounds facts value = any

-- bounds that say nothing are no fact
abbrev pub says_nothing : Bounds → Bool
says_nothing b = nat_eq b.low 0 && (not (is_bounded b) && nat_eq (size b.aligned) 1)

abbrev pub fact_of : ℕ → Bounds → List Fact
fact_of v b = if says_nothing b then [] else Within v b ∷ []

-- a number is told by its bounds, and what was of the variable itself is no more
abbrev pub affine_fact : ℕ → Option Affine → List Fact
affine_fact v None = []
affine_fact v (Some x) = if nat_eq x.scale 0 || nat_eq x.base v then [] else Equals v x ∷ []

abbrev pub just : ℕ → VariableSet
just v u = nat_eq u v

-- of what a list tells the latest few are kept, so that the time for a list doesn't grow with it
abbrev pub latest : ℕ → Bounds → List Fact → List Fact
latest v b facts = take 64 (fact_of v b ++ less (just v) facts)

-- a variable gets a word in these bounds
abbrev pub with_bounds : ℕ → Bounds → Facts → Facts
with_bounds v b facts = record { outer = less (just v) facts.outer; inner = latest v b facts.inner }

-- a variable that was set equals an affine word of variables that weren't
abbrev pub with_affine : ℕ → Option Affine → Facts → Facts
with_affine v x facts = record facts { inner = take 64 (affine_fact v x ++ facts.inner) }

-- of a variable more is known
abbrev pub refined : ℕ → Bounds → Facts → Facts
refined v b facts = record facts { inner = take 64 (fact_of v b ++ facts.inner) }

-- ---- tests of places

abbrev pub is_aligned : Width → Bounds → Bool
is_aligned width b = nat_le (size width) (size b.aligned)

-- each word of these bounds is a good address for an access of this width, where common memory has so many addresses
abbrev pub is_good : ℕ → Width → Bounds → Bool
is_good memory width b = is_aligned width b && (nat_le 16 b.low && (is_bounded b && nat_le (b.high + size width) memory))

-- a message is told soon behind a test, as it is to the test's group in the other stream: so a test that has no code leaves no queue
-- unused that its stream uses
abbrev pub tells_within : ℕ → Actions → Bool
tells_within (suc n) (Do m (Tell x) k) = true
tells_within (suc n) (Do m a k) = tells_within n k
tells_within n code = false

-- what is needed of the block of an action, behind which these come. A variable that is set to itself needs none
abbrev pub needed : ℕ → Bool → Width → Bounds → Need
needed memory told width b = if told && is_good memory width b then Nothing else (if is_aligned width b then Ends else All)

abbrev pub need_of : ℕ → Facts → Action → Actions → Need
need_of memory facts (Probe (Place width x)) k = needed memory (tells_within 24 k) width (operand_bounds facts x)
need_of memory facts (Compute v (Same (Variable u))) k = if nat_eq u v then Nothing else All
need_of memory facts a k = All

-- an address that has passed the test
abbrev pub passed_bounds : ℕ → Width → Bounds → Bounds
passed_bounds memory width b =
    record { low = if nat_lt b.low 16 then 16 else b.low; high = if nat_lt b.high (memory - size width) then b.high else memory - size width; aligned = greater width b.aligned }

-- ---- behind an action

-- what is known behind an action, where this is known before it. What a call leaves isn't looked at
abbrev pub facts_behind : ℕ → Action → Facts → Facts
facts_behind memory (Compute v x) facts = with_affine v (affine_of facts x) (with_bounds v (value_bounds facts x) facts)
facts_behind memory (Own v kind x) facts = with_bounds v any facts
facts_behind memory (Receive v) facts = with_bounds v any facts
facts_behind memory (Accept v) facts = with_bounds v any facts
facts_behind memory (Probe (Place width (Variable v))) facts = refined v (passed_bounds memory width (bounds_in facts v)) facts
facts_behind memory (Call None f xs) facts = facts
facts_behind memory (Call (Some v) f xs) facts = with_bounds v any facts
facts_behind memory a facts = facts

-- ---- in lists and behind them

-- the variables that code sets
abbrev pub is_set : Actions → VariableSet
is_set Done v = false
is_set (Do m a k) v = sets a v || is_set k v
is_set (If m b p q k) v = is_set p v || (is_set q v || is_set k v)
is_set (Loop m body step k) v = is_set body v || (is_set step v || is_set k v)

abbrev pub in_either : VariableSet → VariableSet → VariableSet
in_either one other v = one v || other v

-- all that is known, where a list begins
abbrev pub at_begin : List Fact → Facts
at_begin facts = record { outer = facts; inner = [] }

abbrev pub all_of : Facts → List Fact
all_of facts = facts.inner ++ facts.outer

-- what code leaves of it
abbrev pub kept : VariableSet → Facts → Facts
kept set facts = record { outer = less set facts.outer; inner = less set facts.inner }

-- a variable is at most this
abbrev pub at_most : Operand → Bounds → ℕ → List Fact
at_most (Variable v) b n = Within v (record b { high = if nat_lt b.high n then b.high else n }) ∷ []
at_most (Number m) b n = []

-- what a comparison tells, where it holds or not: of the lesser operand, by the bounds of both. Signed words are compared as numbers below 2 ^ 31
abbrev pub compared_facts : Comparison → Bool → Operand → Operand → Bounds → Bounds → List Fact
compared_facts LessUnsigned true x y a b = if is_bounded b && nat_lt 0 b.high then at_most x a (b.high - 1) else []
compared_facts AtLeastUnsigned false x y a b = if is_bounded b && nat_lt 0 b.high then at_most x a (b.high - 1) else []
compared_facts LessSigned true x y a b = if (nat_lt a.high (2 ^ 31) && nat_lt b.high (2 ^ 31)) && nat_lt 0 b.high then at_most x a (b.high - 1) else []
compared_facts AtLeastSigned false x y a b = if (nat_lt a.high (2 ^ 31) && nat_lt b.high (2 ^ 31)) && nat_lt 0 b.high then at_most x a (b.high - 1) else []
compared_facts LessUnsigned false x y a b = if is_bounded a then at_most y b a.high else []
compared_facts AtLeastUnsigned true x y a b = if is_bounded a then at_most y b a.high else []
compared_facts LessSigned false x y a b = if nat_lt a.high (2 ^ 31) && nat_lt b.high (2 ^ 31) then at_most y b a.high else []
compared_facts AtLeastSigned true x y a b = if nat_lt a.high (2 ^ 31) && nat_lt b.high (2 ^ 31) then at_most y b a.high else []
compared_facts comparison way x y a b = []

abbrev pub test_facts : Test → Bool → Facts → List Fact
test_facts t way facts = compared_facts t.comparison way t.left t.right (operand_bounds facts t.left) (operand_bounds facts t.right)

-- what a branch tells where it goes this way
abbrev pub branch_facts : Branch → Bool → Facts → List Fact
branch_facts (Silent t) way facts = test_facts t way facts
branch_facts (Tells t) way facts = test_facts t way facts
branch_facts Hears way facts = []

-- where the one list of an If begins, and the other
abbrev pub facts_in_first : Branch → Facts → Facts
facts_in_first b facts = at_begin (branch_facts b true facts ++ all_of facts)

abbrev pub facts_in_second : Branch → Facts → Facts
facts_in_second b facts = at_begin (branch_facts b false facts ++ all_of facts)

abbrev pub only_leaves : Actions → Bool
only_leaves (Do m Break Done) = true
only_leaves code = false

-- behind an If: where its second list only leaves the loop, what its test tells holds on
abbrev pub facts_past_if : Branch → Actions → Actions → Facts → Facts
facts_past_if b p q facts =
    if only_leaves q then kept (is_set p) (record facts { outer = branch_facts b true facts ++ facts.outer })
    else kept (in_either (is_set p) (is_set q)) facts

-- where a loop's step begins, if this is known where a turn begins
abbrev pub facts_behind_turn : Actions → Facts → Facts
facts_behind_turn (If m b p q t) facts =
    if only_leaves q then at_begin (less (is_set t) (facts_past_if b p q facts).outer) else at_begin (less (is_set (If m b p q t)) facts.outer)
facts_behind_turn body facts = at_begin (less (is_set body) facts.outer)

abbrev pub counter_in : Operand → List ℕ
counter_in (Variable v) = v ∷ []
counter_in (Number n) = []

-- a variable that a loop's test compares, which its step sets: it may only grow. What divides it isn't guessed
abbrev pub counter_of : Test → List ℕ
counter_of t = counter_in t.left ++ counter_in t.right

abbrev pub grows : ℕ → Bounds → List Fact
grows v b = if nat_lt b.high (2 ^ 31) then Within v (record { low = b.low; high = 2 ^ 31 - 1; aligned = B1 }) ∷ [] else []

abbrev pub counters : List ℕ → Actions → Actions → Facts → List Fact
counters [] body step facts = []
counters (v ∷ vs) body step facts = if is_set step v && not (is_set body v) then grows v (bounds_in facts v) else counters vs body step facts

abbrev pub guessed : Actions → Actions → Facts → List Fact
guessed (If m (Tells t) p q k) step facts = counters (counter_of t) (If m (Tells t) p q k) step facts
guessed (If m (Silent t) p q k) step facts = counters (counter_of t) (If m (Silent t) p q k) step facts
guessed body step facts = []

-- what is known behind a list of actions alone, which goes on behind it
abbrev pub behind_straight : ℕ → Actions → Facts → Option Facts
behind_straight memory Done facts = Some facts
behind_straight memory (Do m Break k) facts = None
behind_straight memory (Do m Continue k) facts = None
behind_straight memory (Do m (Return y) k) facts = None
behind_straight memory (Do m a k) facts = behind_straight memory k (facts_behind memory a facts)
behind_straight memory code facts = None

-- each word in the one bounds is in the others
abbrev pub is_inside : Bounds → Bounds → Bool
is_inside a b = nat_le b.low a.low && ((not (is_bounded b) || (is_bounded a && nat_le a.high b.high)) && is_aligned b.aligned a)

-- bounds that are told are said; no other fact is guessed
abbrev pub is_said : Facts → Fact → Bool
is_said facts (Within v b) = is_inside (bounds_in facts v) b
is_said facts (Equals v x) = false

abbrev pub says : Facts → List Fact → Bool
says facts [] = true
says facts (fact ∷ rest) = is_said facts fact && says facts rest

abbrev pub say : Option Facts → List Fact → Bool
say None rest = false
say (Some facts) rest = says facts rest

-- a guess that holds before the loop and, where it holds before a turn, behind the step
abbrev pub holds_on : ℕ → Actions → Actions → Facts → List Fact → List Fact → Bool
holds_on memory body step facts others guess =
    says facts guess && say (behind_straight memory step (facts_behind_turn body (at_begin (guess ++ others)))) guess

abbrev pub checked_guess : Bool → List Fact → List Fact
checked_guess true guess = guess
checked_guess false guess = []

-- where a loop begins a turn: what the loop doesn't set, and what is found inductive
abbrev pub facts_at_turn : ℕ → Actions → Actions → Facts → Facts
facts_at_turn memory body step facts =
    let others = less (in_either (is_set body) (is_set step)) (all_of facts) in
    let guess = guessed body step facts in
    at_begin (checked_guess (holds_on memory body step facts others guess) guess ++ others)

abbrev pub facts_at_step : ℕ → Actions → Actions → Facts → Facts
facts_at_step memory body step facts = facts_behind_turn body (facts_at_turn memory body step facts)

abbrev pub facts_past_loop : Actions → Actions → Facts → Facts
facts_past_loop body step facts = kept (in_either (is_set body) (is_set step)) facts

-- ---- what is known at a place is what is known where the code goes on

-- what is to be known behind code, where a Break goes and a Continue
pub record Outs : Type 0 where
  pub next : Facts
  pub leaves : Facts
  pub skips : Facts

abbrev pub outs : Facts → Facts → Facts → Outs
outs next leaves skips = record { next = next; leaves = leaves; skips = skips }

abbrev pub Entails : Facts → Facts → Type 0
Entails a b = (env : Env) → Hold a env → Hold b env

abbrev pub FactsGo : ℕ → Facts → Actions → Outs → Type 0
FactsGo memory known Done o = Entails known o.next
FactsGo memory known (Do m Break k) o = Entails known o.leaves
FactsGo memory known (Do m Continue k) o = Entails known o.skips
FactsGo memory known (Do m (Return y) k) o = Unit {0}
FactsGo memory known (Do m a k) o = FactsGo memory (facts_behind memory a known) k o
FactsGo memory known (If m b p q k) o =
    FactsGo memory (facts_in_first b known) p (record o { next = facts_past_if b p q known })
    × FactsGo memory (facts_in_second b known) q (record o { next = facts_past_if b p q known })
    × FactsGo memory (facts_past_if b p q known) k o
FactsGo memory known (Loop m body step k) o =
    Entails known (facts_at_turn memory body step known)
    × FactsGo memory (facts_at_turn memory body step known) body (outs (facts_at_step memory body step known) (facts_past_loop body step known) (facts_at_step memory body step known))
    × FactsGo memory (facts_at_step memory body step known) step (outs (facts_at_turn memory body step known) (facts_past_loop body step known) (facts_at_turn memory body step known))
    × FactsGo memory (facts_past_loop body step known) k o

-- whatever words a deed takes, what it leaves the variables at is so
abbrev pub LeavesOnly : (Env → Type 0) → Deed → Type 0
LeavesOnly P (Went env) = P env
LeavesOnly P (Take queue go) = (x : ℕ) → LeavesOnly P (go x)
LeavesOnly P (Push queue x rest) = LeavesOnly P rest
LeavesOnly P (Reserve queue kind a rest) = LeavesOnly P rest
LeavesOnly P (Send width a rest) = LeavesOnly P rest
LeavesOnly P (Say text rest) = LeavesOnly P rest
LeavesOnly P (Halts quit) = Unit {0}
