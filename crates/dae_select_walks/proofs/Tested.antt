-- What a test tells of its operands holds where it goes that way.
use Rattle.std.proofs.Common.{◌≡◌, ℕ, ◌-◌, ◌≤◌, ◌<◌, ◌^◌, Bool, true, false, not, ◌&&◌, List, [], ◌++◌, refl, sym, ◌∙◌, arith}
use Rattle.std.specs.Prelude.{nat_lt, if◌then◌else◌, int_lt}
use Rattle.std.proofs.lemmas.Bool.Decides.{nat_tests}
use Rattle.std.proofs.lemmas.Bool.{and_parts}
use Rattle.dae_base.specs.Words.{signed}
use Rattle.dae_ir.specs.Form.{value, holds}
use Rattle.dae_ir.specs.declared.form.Operand.{Operand}
use Rattle.dae_ir.specs.declared.form.Operand.TheVariants.{Variable, Number}
use Rattle.dae_ir.specs.declared.form.Test.{Test}
use Rattle.dae_ir.specs.declared.stream.Branch.{Branch}
use Rattle.dae_ir.specs.declared.stream.Branch.TheVariants.{Silent, Tells, Hears}
use Rattle.dae_meaning.specs.Operations.{compared}
use Rattle.dae_meaning.specs.Variables.{Env}
use Rattle.dae_meaning.specs.declared.Comparison.{Comparison}
use Rattle.dae_meaning.specs.declared.Comparison.TheVariants.{Equal, NotEqual, LessSigned, LessUnsigned, AtLeastSigned, AtLeastUnsigned}
use Rattle.dae_select_walks.specs.declared.Bounds.{Bounds}
use Rattle.dae_select_walks.specs.declared.Fact.{Fact}
use Rattle.dae_select_walks.specs.Facts.{LiesIn, is_bounded, AllLie, Facts, Hold, operand_bounds, at_begin, all_of, at_most, compared_facts, test_facts, branch_facts}
use Rattle.dae_select_walks.proofs.Facts.{small_word, bounded_small, lie_both, operand_is}
use Rattle.dae_select_walks.proofs.Words.{signed_small}

most_holds : (x : Operand) (b : Bounds) (n : ℕ) (env : Env) → LiesIn b (value x env) → value x env ≤ n → AllLie (at_most x b n) env
most_holds (Number m) b n env h less = tt
most_holds (Variable v) b n env h less = (record { low = h.low; high = by (nat_lt b.high n) (λ i. grind (arith, nat_tests)); aligned = h.aligned }, tt)
  where
    by : (c : Bool) → (c ≡ true → b.high < n) → nat_lt (if c then b.high else n) (2 ^ 32 - 1) ≡ true → env v ≤ (if c then b.high else n)
    by true i small = h.high small
    by false i small = less

-- signed words below 2 ^ 31 are in the order of their numbers
signed_order : (v w : ℕ) → v < 2 ^ 31 → w < 2 ^ 31 → int_lt (signed v) (signed w) ≡ nat_lt v w
signed_order v w l m = let e = signed_small v l in let f = signed_small w m in rw (e, f) (grind (arith, nat_tests))

if_lie : (c : Bool) (facts : List Fact) (env : Env) → (c ≡ true → AllLie facts env) → AllLie (if c then facts else []) env
if_lie true facts env h = h refl
if_lie false facts env h = tt

not_true : (c : Bool) → not c ≡ false → c ≡ true
not_true true e = refl
not_true false e = absurd cc

not_false : (c : Bool) → not c ≡ true → c ≡ false
not_false true e = absurd cc
not_false false e = refl

lesser_lies : (x : Operand) (a b : Bounds) (y : ℕ) (env : Env) → LiesIn a (value x env) → LiesIn b y → is_bounded b ≡ true → value x env < y → AllLie (at_most x a (b.high - 1)) env
lesser_lies x a b y env h k bounded less = let top = k.high bounded in most_holds x a (b.high - 1) env h (omega arith)

unsigned_less : (x : Operand) (a b : Bounds) (y : ℕ) (env : Env) → LiesIn a (value x env) → LiesIn b y → nat_lt (value x env) y ≡ true → AllLie (if is_bounded b && nat_lt 0 b.high then at_most x a (b.high - 1) else []) env
unsigned_less x a b y env h k e = if_lie (is_bounded b && nat_lt 0 b.high) (at_most x a (b.high - 1)) env (λ c. (let two = and_parts (is_bounded b) (nat_lt 0 b.high) c in lesser_lies x a b y env h k two.0 (grind (arith, nat_tests))))

signed_less : (x : Operand) (a b : Bounds) (y : ℕ) (env : Env) → LiesIn a (value x env) → LiesIn b y → int_lt (signed (value x env)) (signed y) ≡ true
    → AllLie (if (nat_lt a.high (2 ^ 31) && nat_lt b.high (2 ^ 31)) && nat_lt 0 b.high then at_most x a (b.high - 1) else []) env
signed_less x a b y env h k e = if_lie ((nat_lt a.high (2 ^ 31) && nat_lt b.high (2 ^ 31)) && nat_lt 0 b.high) (at_most x a (b.high - 1)) env (λ c.
    let one = and_parts (nat_lt a.high (2 ^ 31) && nat_lt b.high (2 ^ 31)) (nat_lt 0 b.high) c in
    let two = and_parts (nat_lt a.high (2 ^ 31)) (nat_lt b.high (2 ^ 31)) one.0 in
    let order : nat_lt (value x env) y ≡ true = sym (signed_order (value x env) y (small_word a (value x env) h two.0) (small_word b y k two.1)) ∙ e in
    lesser_lies x a b y env h k (bounded_small b two.1) (grind (arith, nat_tests)))

-- where it isn't less, the other is at most as great
unsigned_most : (y : Operand) (a b : Bounds) (x : ℕ) (env : Env) → LiesIn a x → LiesIn b (value y env) → nat_lt x (value y env) ≡ false → AllLie (if is_bounded a then at_most y b a.high else []) env
unsigned_most y a b x env h k e = if_lie (is_bounded a) (at_most y b a.high) env (λ c. (let top = h.high c in let le : value y env ≤ x = grind (arith, nat_tests) in most_holds y b a.high env k (omega arith)))

signed_most : (y : Operand) (a b : Bounds) (x : ℕ) (env : Env) → LiesIn a x → LiesIn b (value y env) → int_lt (signed x) (signed (value y env)) ≡ false
    → AllLie (if nat_lt a.high (2 ^ 31) && nat_lt b.high (2 ^ 31) then at_most y b a.high else []) env
signed_most y a b x env h k e = if_lie (nat_lt a.high (2 ^ 31) && nat_lt b.high (2 ^ 31)) (at_most y b a.high) env (λ c.
    let two = and_parts (nat_lt a.high (2 ^ 31)) (nat_lt b.high (2 ^ 31)) c in
    let order : nat_lt x (value y env) ≡ false = sym (signed_order x (value y env) (small_word a x h two.0) (small_word b (value y env) k two.1)) ∙ e in
    let top = h.high (bounded_small a two.0) in
    let le : value y env ≤ x = grind (arith, nat_tests) in
    most_holds y b a.high env k (omega arith))

compared_lie : (c : Comparison) (way : Bool) (x y : Operand) (a b : Bounds) (env : Env) → LiesIn a (value x env) → LiesIn b (value y env) → compared c (value x env) (value y env) ≡ way → AllLie (compared_facts c way x y a b) env
unfolding compared
compared_lie LessUnsigned true x y a b env h k e = unsigned_less x a b (value y env) env h k e
compared_lie LessUnsigned false x y a b env h k e = unsigned_most y a b (value x env) env h k e
compared_lie LessSigned true x y a b env h k e = signed_less x a b (value y env) env h k e
compared_lie LessSigned false x y a b env h k e = signed_most y a b (value x env) env h k e
compared_lie AtLeastUnsigned true x y a b env h k e = unsigned_most y a b (value x env) env h k (not_false (nat_lt (value x env) (value y env)) e)
compared_lie AtLeastUnsigned false x y a b env h k e = unsigned_less x a b (value y env) env h k (not_true (nat_lt (value x env) (value y env)) e)
compared_lie AtLeastSigned true x y a b env h k e = signed_most y a b (value x env) env h k (not_false (int_lt (signed (value x env)) (signed (value y env))) e)
compared_lie AtLeastSigned false x y a b env h k e = signed_less x a b (value y env) env h k (not_true (int_lt (signed (value x env)) (signed (value y env))) e)
compared_lie Equal way x y a b env h k e = tt
compared_lie NotEqual way x y a b env h k e = tt

test_lies : (t : Test) (way : Bool) (known : Facts) (env : Env) → Hold known env → holds t env ≡ way → AllLie (test_facts t way known) env
test_lies t way known env h e = compared_lie t.comparison way t.left t.right (operand_bounds known t.left) (operand_bounds known t.right) env (operand_is known env t.left h) (operand_is known env t.right h) e

-- a branch tells so of its test
abbrev pub Goes_by : Branch → Bool → Env → Type 0
Goes_by (Silent t) way env = holds t env ≡ way
Goes_by (Tells t) way env = holds t env ≡ way
Goes_by Hears way env = Unit {0}

pub branch_lies : (b : Branch) (way : Bool) (known : Facts) (env : Env) → Hold known env → Goes_by b way env → Hold (at_begin (branch_facts b way known ++ all_of known)) env
branch_lies b way known env h e = record { outer = lie_both (branch_facts b way known) (all_of known) env (by b e) (lie_both known.inner known.outer env h.inner h.outer); inner = tt }
  where
    by : (b : Branch) → Goes_by b way env → AllLie (branch_facts b way known) env
    by (Silent t) e = test_lies t way known env h e
    by (Tells t) e = test_lies t way known env h e
    by Hears e = tt
