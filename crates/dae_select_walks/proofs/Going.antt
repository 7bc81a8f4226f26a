-- What is known where a list begins holds where its code goes on, of variables that it doesn't set.
use Rattle.std.proofs.Common.{◌≡◌, ℕ, ◌≤◌, Bool, true, false, not, ◌&&◌, ◌||◌, List, [], ◌∷◌, ◌++◌, Option, Some, None, refl, sym, ◌∙◌, subst, arith}
use Rattle.std.specs.Prelude.{nat_eq, nat_le, if◌then◌else◌}
use Rattle.std.proofs.lemmas.Bool.Decides.{nat_tests}
use Rattle.std.proofs.lemmas.Bool.{and_parts}
use Rattle.dae_ir.specs.Code.{Done, Do, If, Loop}
use Rattle.dae_ir.specs.Classes.{VariableSet}
use Rattle.dae_ir.specs.Streams.{Actions}
use Rattle.dae_ir.specs.declared.form.Operand.TheVariants.{Variable, Number}
use Rattle.dae_ir.specs.declared.form.Check.TheVariants.{Place, InBounds, Zero, Room, Frame, Abort}
use Rattle.dae_ir.specs.declared.stream.Mark.{Mark}
use Rattle.dae_ir.specs.declared.stream.Action.{Action}
use Rattle.dae_ir.specs.declared.stream.Action.TheVariants.{Set as Compute, Issue, Own, Receive, Address, Datum, Offer, Accept, Emit, Probe, Tell, Hear, Stop, Break, Continue, Call, Return}
use Rattle.dae_ir.specs.declared.stream.Branch.{Branch}
use Rattle.dae_meaning.specs.Variables.{Env}
use Rattle.dae_select_walks.specs.declared.Bounds.{Bounds}
use Rattle.dae_select_walks.specs.declared.Fact.{Fact}
use Rattle.dae_select_walks.specs.declared.Fact.TheVariants.{Within, Equals}
use Rattle.dae_select_walks.specs.Live.{sets}
use Rattle.dae_select_walks.specs.Facts.{LiesIn, is_bounded, Lies, AllLie, is_about, less, Facts, Hold, bounds_in, just, facts_behind, is_aligned, is_set, in_either, at_begin, all_of, kept, branch_facts, facts_in_first, facts_in_second, only_leaves, facts_past_if, facts_behind_turn, guessed, behind_straight, is_inside, is_said, says, say, holds_on, checked_guess, facts_past_loop, Outs, outs, Entails, FactsGo}
use Rattle.dae_select_walks.proofs.Facts.{lie_both, lie_less, known_is, of_wider}

-- ---- lists of facts

lie_parts : (xs ys : List Fact) (env : Env) → AllLie (xs ++ ys) env → AllLie xs env × AllLie ys env
lie_parts [] ys env h = (tt, h)
lie_parts (x ∷ xs) ys env h = let rest = lie_parts xs ys env h.1 in ((h.0, rest.0), rest.1)

neither : (b c : Bool) → (b || c) ≡ false → (b ≡ false) × (c ≡ false)
neither true c e = absurd cc
neither false c e = (refl, e)

not_either : (b c : Bool) → b ≡ false → c ≡ false → (b || c) ≡ false
not_either true c e f = absurd cc
not_either false c e f = f

about_more : (s t : VariableSet) → ((v : ℕ) → t v ≡ false → s v ≡ false) → (x : Fact) → is_about t x ≡ false → is_about s x ≡ false
about_more s t only (Within v b) e = only v e
about_more s t only (Equals v x) e = let two = neither (t v) (t x.base) e in not_either (s v) (s x.base) (only v two.0) (only x.base two.1)

-- where less is dropped, more holds
less_more : (s t : VariableSet) → ((v : ℕ) → t v ≡ false → s v ≡ false) → (xs : List Fact) (env : Env) → AllLie (less s xs) env → AllLie (less t xs) env
less_more s t only [] env h = tt
less_more s t only (x ∷ xs) env h = by (is_about s x) (is_about t x) refl refl h (less_more s t only xs env)
  where
    by : (b c : Bool) → is_about s x ≡ b → is_about t x ≡ c → AllLie (if b then less s xs else x ∷ less s xs) env → (AllLie (less s xs) env → AllLie (less t xs) env) → AllLie (if c then less t xs else x ∷ less t xs) env
    by true true e f h k = k h
    by false true e f h k = k h.1
    by true false e f h k = let same : false ≡ true = sym (about_more s t only x f) ∙ e in absurd cc
    by false false e f h k = (h.0, k h.1)

less_parts : (s : VariableSet) (xs ys : List Fact) (env : Env) → AllLie (less s (xs ++ ys)) env → AllLie (less s xs) env × AllLie (less s ys) env
less_parts s [] ys env h = (tt, h)
less_parts s (x ∷ xs) ys env h = by (is_about s x) h (less_parts s xs ys env)
  where
    by : (b : Bool) → AllLie (if b then less s (xs ++ ys) else x ∷ less s (xs ++ ys)) env → (AllLie (less s (xs ++ ys)) env → AllLie (less s xs) env × AllLie (less s ys) env)
        → AllLie (if b then less s xs else x ∷ less s xs) env × AllLie (less s ys) env
    by true h k = k h
    by false h k = let rest = k h.1 in ((h.0, rest.0), rest.1)

-- dropped one set after the other
less_twice : (s t u : VariableSet) → ((v : ℕ) → u v ≡ false → (s v ≡ false) × (t v ≡ false)) → (xs : List Fact) (env : Env) → AllLie (less t (less s xs)) env → AllLie (less u xs) env
less_twice s t u only [] env h = tt
less_twice s t u only (x ∷ xs) env h = by (is_about s x) (is_about t x) (is_about u x) refl refl refl h (less_twice s t u only xs env)
  where
    by : (b c d : Bool) → is_about s x ≡ b → is_about t x ≡ c → is_about u x ≡ d → AllLie (less t (if b then less s xs else x ∷ less s xs)) env → (AllLie (less t (less s xs)) env → AllLie (less u xs) env) → AllLie (if d then less u xs else x ∷ less u xs) env
    by true c true e f g h k = k h
    by true c false e f g h k = let same : false ≡ true = sym (about_more s u (λ v i. (only v i).0) x g) ∙ e in absurd cc
    by false true true e f g h k = k (subst (λ (z : Bool). AllLie (if z then less t (less s xs) else x ∷ less t (less s xs)) env) f h)
    by false true false e f g h k = let same : false ≡ true = sym (about_more t u (λ v i. (only v i).1) x g) ∙ f in absurd cc
    by false false true e f g h k = k (subst (λ (z : Bool). AllLie (if z then less t (less s xs) else x ∷ less t (less s xs)) env) f h).1
    by false false false e f g h k = (let two = subst (λ (z : Bool). AllLie (if z then less t (less s xs) else x ∷ less t (less s xs)) env) f h in (two.0, k two.1))

-- ---- where code goes on

-- what is known where a list begins, of what its code doesn't set, is enough behind it
abbrev pub Reaches : List Fact → Facts → Type 0
Reaches facts to = (env : Env) → AllLie facts env → Hold to env

pub record Reach (code : Actions) (facts : List Fact) (o : Outs) : Type 0 where
  pub next : Reaches (less (is_set code) facts) o.next
  pub leaves : Reaches (less (is_set code) facts) o.leaves
  pub skips : Reaches (less (is_set code) facts) o.skips

-- of other facts, where these hold
reach_by : (code code' : Actions) (xs ys : List Fact) (o : Outs) → ((env : Env) → AllLie (less (is_set code') ys) env → AllLie (less (is_set code) xs) env) → Reach code xs o → Reach code' ys o
reach_by code code' xs ys o h r = record { next = λ env k. r.next env (h env k); leaves = λ env k. r.leaves env (h env k); skips = λ env k. r.skips env (h env k) }

set_then : (m : Mark) (a : Action) (k : Actions) (xs : List Fact) (o : Outs) → Reach (Do m a k) xs o → Reach k (less (sets a) xs) o
set_then m a k xs o r = reach_by (Do m a k) k xs (less (sets a) xs) o (λ env h. less_twice (sets a) (is_set k) (is_set (Do m a k)) (λ v e. neither (sets a v) (is_set k v) e) xs env h) r

begins : (facts : List Fact) (env : Env) → AllLie facts env → Hold (at_begin facts) env
begins facts env h = record { outer = h; inner = tt }

less_both : (s : VariableSet) (xs ys : List Fact) (env : Env) → AllLie (less s xs) env → AllLie (less s ys) env → AllLie (less s (xs ++ ys)) env
less_both s [] ys env h k = k
less_both s (x ∷ xs) ys env h k = by (is_about s x) h (λ l. less_both s xs ys env l k)
  where
    by : (b : Bool) → AllLie (if b then less s xs else x ∷ less s xs) env → (AllLie (less s xs) env → AllLie (less s (xs ++ ys)) env) → AllLie (if b then less s (xs ++ ys) else x ∷ less s (xs ++ ys)) env
    by true h k = k h
    by false h k = (h.0, k h.1)

-- ---- an If

-- what holds behind one, where its second list only leaves the loop or may go on
abbrev past : Bool → Branch → Actions → Actions → Facts → Facts
past c b p q facts =
    if c then kept (is_set p) (record facts { outer = branch_facts b true facts ++ facts.outer }) else kept (in_either (is_set p) (is_set q)) facts

only_set : (p q k : Actions) (v : ℕ) → (is_set p v || (is_set q v || is_set k v)) ≡ false → (is_set p v ≡ false) × (is_set q v ≡ false) × (is_set k v ≡ false)
only_set p q k v e = let one = neither (is_set p v) (is_set q v || is_set k v) e in let two = neither (is_set q v) (is_set k v) one.1 in (one.0, two.0, two.1)

-- an If's first list reaches behind it
past_first : (c : Bool) (b : Branch) (p q : Actions) (known : Facts) → Reaches (less (is_set p) (branch_facts b true known ++ all_of known)) (past c b p q known)
past_first true b p q known env h =
    let parts = less_parts (is_set p) (branch_facts b true known) (all_of known) env h in
    let two = less_parts (is_set p) known.inner known.outer env parts.1 in
    record { outer = less_both (is_set p) (branch_facts b true known) known.outer env parts.0 two.1; inner = two.0 }
past_first false b p q known env h =
    let parts = less_parts (is_set p) (branch_facts b true known) (all_of known) env h in
    let two = less_parts (is_set p) known.inner known.outer env parts.1 in
    record {
      outer = less_more (is_set p) (in_either (is_set p) (is_set q)) (λ v e. (neither (is_set p v) (is_set q v) e).0) known.outer env two.1;
      inner = less_more (is_set p) (in_either (is_set p) (is_set q)) (λ v e. (neither (is_set p v) (is_set q v) e).0) known.inner env two.0;
    }

past_second : (b : Branch) (p q : Actions) (known : Facts) → Reaches (less (is_set q) (branch_facts b false known ++ all_of known)) (past false b p q known)
past_second b p q known env h =
    let parts = less_parts (is_set q) (branch_facts b false known) (all_of known) env h in
    let two = less_parts (is_set q) known.inner known.outer env parts.1 in
    record {
      outer = less_more (is_set q) (in_either (is_set p) (is_set q)) (λ v e. (neither (is_set p v) (is_set q v) e).1) known.outer env two.1;
      inner = less_more (is_set q) (in_either (is_set p) (is_set q)) (λ v e. (neither (is_set p v) (is_set q v) e).1) known.inner env two.0;
    }

-- what is known behind it
past_rest : (c : Bool) (m : Mark) (b : Branch) (p q k : Actions) (known : Facts) (o : Outs) → Reach (If m b p q k) known.outer o → Reach k (past c b p q known).outer o
past_rest true m b p q k known o r =
    reach_by (If m b p q k) k known.outer (less (is_set p) (branch_facts b true known ++ known.outer)) o
    (λ env h.
    let all = less_twice (is_set p) (is_set k) (is_set (If m b p q k)) (λ v e. (let parts = only_set p q k v e in (parts.0, parts.2))) (branch_facts b true known ++ known.outer) env h in
    (less_parts (is_set (If m b p q k)) (branch_facts b true known) known.outer env all).1) r
past_rest false m b p q k known o r =
    reach_by (If m b p q k) k known.outer (less (in_either (is_set p) (is_set q)) known.outer) o
    (λ env h. less_twice (in_either (is_set p) (is_set q)) (is_set k) (is_set (If m b p q k)) (λ v e. (let parts = only_set p q k v e in (not_either (is_set p v) (is_set q v) parts.0 parts.1, parts.2))) known.outer env h) r

-- one of its lists, where it leads as the whole does
list_out : (m : Mark) (b : Branch) (way : Bool) (p q k list : Actions) (known : Facts) (to : Facts) → ((v : ℕ) → is_set (If m b p q k) v ≡ false → is_set list v ≡ false) → Reaches (less (is_set (If m b p q k)) known.outer) to
    → Reaches (less (is_set list) (branch_facts b way known ++ all_of known)) to
list_out m b way p q k list known to only r env h =
    let parts = less_parts (is_set list) (branch_facts b way known) (all_of known) env h in
    let two = less_parts (is_set list) known.inner known.outer env parts.1 in
    r env (less_more (is_set list) (is_set (If m b p q k)) only known.outer env two.1)

leaves_go : (memory : ℕ) (known : Facts) (q : Actions) (o : Outs) → only_leaves q ≡ true → Entails known o.leaves → FactsGo memory known q o
leaves_go memory known (Do m Break Done) o is h = h
leaves_go memory known q o is h = absurd cc

-- ---- facts that are said

inside_is : (a b : Bounds) (n : ℕ) → is_inside a b ≡ true → LiesIn a n → LiesIn b n
inside_is a b n e h =
    let one = and_parts (nat_le b.low a.low) ((not (is_bounded b) || (is_bounded a && nat_le a.high b.high)) && is_aligned b.aligned a) e in
    let two = and_parts (not (is_bounded b) || (is_bounded a && nat_le a.high b.high)) (is_aligned b.aligned a) one.1 in
    let low : b.low ≤ a.low = (let t = one.0 in grind (arith, nat_tests)) in
    let n0 = h.low in
    record { low = omega arith; high = λ bounded. above (is_bounded b) (is_bounded a && nat_le a.high b.high) bounded two.0; aligned = of_wider b.aligned a.aligned n two.1 h.aligned }
  where
    above : (c d : Bool) → c ≡ true → (not c || (is_bounded a && nat_le a.high b.high)) ≡ true → n ≤ b.high
    above false d e f = absurd cc
    above true d e f =
        let parts = and_parts (is_bounded a) (nat_le a.high b.high) f in
        let n1 = h.high parts.0 in
        let less : a.high ≤ b.high = (let t = parts.1 in grind (arith, nat_tests)) in omega arith

said_is : (facts : Facts) (fact : Fact) (env : Env) → is_said facts fact ≡ true → Hold facts env → Lies fact env
said_is facts (Within v b) env e h = inside_is (bounds_in facts v) b (env v) e (known_is facts env v h)
said_is facts (Equals v x) env e h = absurd cc

says_is : (facts : Facts) (rest : List Fact) (env : Env) → says facts rest ≡ true → Hold facts env → AllLie rest env
says_is facts [] env e h = tt
says_is facts (fact ∷ rest) env e h =
    let two = and_parts (is_said facts fact) (says facts rest) e in (said_is facts fact env two.0 h, says_is facts rest env two.1 h)

-- ---- actions alone

-- what is said behind them, and what they don't set
straight_go : (memory : ℕ) (code : Actions) (known last : Facts) (guess others : List Fact) (leaves skips : Facts) → behind_straight memory code known ≡ Some last → says last guess ≡ true → Reaches (less (is_set code) known.outer) (at_begin others)
    → FactsGo memory known code (outs (at_begin (guess ++ others)) leaves skips)
straight_go memory Done known last guess others leaves skips e said r =
    let same : known ≡ last = cc in
    λ env h. begins (guess ++ others) env (lie_both guess others env (says_is last guess env said (subst (λ (f : Facts). Hold f env) same h)) (r env (lie_less (is_set Done) known.outer env h.outer)).outer)
straight_go memory (Do m Break k) known last guess others leaves skips e said r = absurd cc
straight_go memory (Do m Continue k) known last guess others leaves skips e said r = absurd cc
straight_go memory (Do m (Return y) k) known last guess others leaves skips e said r = absurd cc
straight_go memory (Do m (Compute v y) k) known last guess others leaves skips e said r = straight_go memory k (facts_behind memory (Compute v y) known) last guess others leaves skips e said (λ env h. r env (less_twice (just v) (is_set k) (is_set (Do m (Compute v y) k)) (λ u i. neither (nat_eq u v) (is_set k u) i) known.outer env h))
straight_go memory (Do m (Own v kind y) k) known last guess others leaves skips e said r = straight_go memory k (facts_behind memory (Own v kind y) known) last guess others leaves skips e said (λ env h. r env (less_twice (just v) (is_set k) (is_set (Do m (Own v kind y) k)) (λ u i. neither (nat_eq u v) (is_set k u) i) known.outer env h))
straight_go memory (Do m (Receive v) k) known last guess others leaves skips e said r = straight_go memory k (facts_behind memory (Receive v) known) last guess others leaves skips e said (λ env h. r env (less_twice (just v) (is_set k) (is_set (Do m (Receive v) k)) (λ u i. neither (nat_eq u v) (is_set k u) i) known.outer env h))
straight_go memory (Do m (Accept v) k) known last guess others leaves skips e said r = straight_go memory k (facts_behind memory (Accept v) known) last guess others leaves skips e said (λ env h. r env (less_twice (just v) (is_set k) (is_set (Do m (Accept v) k)) (λ u i. neither (nat_eq u v) (is_set k u) i) known.outer env h))
straight_go memory (Do m (Call (Some v) f ys) k) known last guess others leaves skips e said r = straight_go memory k (facts_behind memory (Call (Some v) f ys) known) last guess others leaves skips e said (λ env h. r env (less_twice (just v) (is_set k) (is_set (Do m (Call (Some v) f ys) k)) (λ u i. neither (nat_eq u v) (is_set k u) i) known.outer env h))
straight_go memory (Do m (Call None f ys) k) known last guess others leaves skips e said r = straight_go memory k known last guess others leaves skips e said (λ env h. r env h)
straight_go memory (Do m (Probe (Place width (Variable v))) k) known last guess others leaves skips e said r = straight_go memory k (facts_behind memory (Probe (Place width (Variable v))) known) last guess others leaves skips e said (λ env h. r env h)
straight_go memory (Do m (Probe (Place width (Number n))) k) known last guess others leaves skips e said r = straight_go memory k known last guess others leaves skips e said (λ env h. r env h)
straight_go memory (Do m (Probe (InBounds y offset)) k) known last guess others leaves skips e said r = straight_go memory k known last guess others leaves skips e said (λ env h. r env h)
straight_go memory (Do m (Probe (Zero y)) k) known last guess others leaves skips e said r = straight_go memory k known last guess others leaves skips e said (λ env h. r env h)
straight_go memory (Do m (Probe (Room f)) k) known last guess others leaves skips e said r = straight_go memory k known last guess others leaves skips e said (λ env h. r env h)
straight_go memory (Do m (Probe Frame) k) known last guess others leaves skips e said r = straight_go memory k known last guess others leaves skips e said (λ env h. r env h)
straight_go memory (Do m (Probe Abort) k) known last guess others leaves skips e said r = straight_go memory k known last guess others leaves skips e said (λ env h. r env h)
straight_go memory (Do m (Issue kind y) k) known last guess others leaves skips e said r = straight_go memory k known last guess others leaves skips e said (λ env h. r env h)
straight_go memory (Do m (Address width y) k) known last guess others leaves skips e said r = straight_go memory k known last guess others leaves skips e said (λ env h. r env h)
straight_go memory (Do m (Datum y) k) known last guess others leaves skips e said r = straight_go memory k known last guess others leaves skips e said (λ env h. r env h)
straight_go memory (Do m (Offer v) k) known last guess others leaves skips e said r = straight_go memory k known last guess others leaves skips e said (λ env h. r env h)
straight_go memory (Do m (Emit spelling y) k) known last guess others leaves skips e said r = straight_go memory k known last guess others leaves skips e said (λ env h. r env h)
straight_go memory (Do m (Tell y) k) known last guess others leaves skips e said r = straight_go memory k known last guess others leaves skips e said (λ env h. r env h)
straight_go memory (Do m (Hear only) k) known last guess others leaves skips e said r = straight_go memory k known last guess others leaves skips e said (λ env h. r env h)
straight_go memory (Do m (Stop y) k) known last guess others leaves skips e said r = straight_go memory k known last guess others leaves skips e said (λ env h. r env h)
straight_go memory (If m b p q k) known last guess others leaves skips e said r = absurd cc
straight_go memory (Loop m body step k) known last guess others leaves skips e said r = absurd cc

-- ---- loops

-- what is known where a step begins, of what neither sets
turn_says : (body step : Actions) (known : Facts) (env : Env) → AllLie (less (is_set step) (facts_behind_turn body known).outer) env → AllLie (less (in_either (is_set body) (is_set step)) known.outer) env
turn_says Done step known env h = less_twice (is_set Done) (is_set step) (in_either (is_set Done) (is_set step)) (λ v e. neither (is_set Done v) (is_set step v) e) known.outer env h
turn_says (Do m a k) step known env h = less_twice (is_set (Do m a k)) (is_set step) (in_either (is_set (Do m a k)) (is_set step)) (λ v e. neither (is_set (Do m a k) v) (is_set step v) e) known.outer env h
turn_says (Loop m x y k) step known env h = less_twice (is_set (Loop m x y k)) (is_set step) (in_either (is_set (Loop m x y k)) (is_set step)) (λ v e. neither (is_set (Loop m x y k) v) (is_set step v) e) known.outer env h
turn_says (If m b p q t) step known env h = by (only_leaves q) h
  where
    body : Actions
    body = If m b p q t

    by : (c : Bool) → AllLie (less (is_set step) (if c then at_begin (less (is_set t) (past c b p q known).outer) else at_begin (less (is_set body) known.outer)).outer) env → AllLie (less (in_either (is_set body) (is_set step)) known.outer) env
    by true h =
        let one = less_twice (is_set t) (is_set step) (in_either (is_set t) (is_set step)) (λ v e. neither (is_set t v) (is_set step v) e) (less (is_set p) (branch_facts b true known ++ known.outer)) env h in
        let two = less_twice (is_set p) (in_either (is_set t) (is_set step)) (in_either (is_set body) (is_set step))
        (λ v e. (let parts = neither (is_set body v) (is_set step v) e in let sets = only_set p q t v parts.0 in (sets.0, not_either (is_set t v) (is_set step v) sets.2 parts.1)))
        (branch_facts b true known ++ known.outer) env one in
        (less_parts (in_either (is_set body) (is_set step)) (branch_facts b true known) known.outer env two).1
    by false h = less_twice (is_set body) (is_set step) (in_either (is_set body) (is_set step)) (λ v e. neither (is_set body v) (is_set step v) e) known.outer env h

again : (s : VariableSet) (xs : List Fact) (env : Env) → AllLie (less s (less s xs)) env → AllLie (less s xs) env
again s xs env h = less_twice s s s (λ v e. (e, e)) xs env h

-- which is what holds behind it
others_past : (body step : Actions) (known : Facts) (guess : List Fact) → Reaches (less (in_either (is_set body) (is_set step)) (guess ++ less (in_either (is_set body) (is_set step)) (all_of known))) (facts_past_loop body step known)
others_past body step known guess env h =
    let set = in_either (is_set body) (is_set step) in
    let rest = again set (all_of known) env (less_parts set guess (less set (all_of known)) env h).1 in
    let two = less_parts set known.inner known.outer env rest in
    record { outer = two.1; inner = two.0 }

-- ---- code

abbrev pub Goes : ℕ → Actions → Type 0
Goes memory code = (known : Facts) (o : Outs) → Reach code known.outer o → FactsGo memory known code o

if_go : (memory : ℕ) (m : Mark) (b : Branch) (p q k : Actions) (known : Facts) (o : Outs) (c : Bool) → only_leaves q ≡ c → Goes memory p → Goes memory q → Goes memory k → Reach (If m b p q k) known.outer o
    → FactsGo memory (facts_in_first b known) p (record o { next = past c b p q known }) × FactsGo memory (facts_in_second b known) q (record o { next = past c b p q known }) × FactsGo memory (past c b p q known) k o
if_go memory m b p q k known o c e in_first in_second rest r = (
  in_first (facts_in_first b known) (record o { next = past c b p q known }) (record {
    next = past_first c b p q known;
    leaves = list_out m b true p q k p known o.leaves (λ v i. (only_set p q k v i).0) r.leaves;
    skips = list_out m b true p q k p known o.skips (λ v i. (only_set p q k v i).0) r.skips;
  }),
  second c e,
  rest (past c b p q known) o (past_rest c m b p q k known o r),
)
  where
    second : (c : Bool) → only_leaves q ≡ c → FactsGo memory (facts_in_second b known) q (record o { next = past c b p q known })
    second true e = leaves_go memory (facts_in_second b known) q (record o { next = past true b p q known }) e
        (λ env h. list_out m b false p q k q known o.leaves (λ v i. (only_set p q k v i).1) r.leaves env (lie_less (is_set q) (branch_facts b false known ++ all_of known) env h.outer))
    second false e = in_second (facts_in_second b known) (record o { next = past false b p q known }) (record {
      next = past_second b p q known;
      leaves = list_out m b false p q k q known o.leaves (λ v i. (only_set p q k v i).1) r.leaves;
      skips = list_out m b false p q k q known o.skips (λ v i. (only_set p q k v i).1) r.skips;
    })

-- a body that begins with a test, of which one list leaves the loop
tested_go : (memory : ℕ) (m : Mark) (b : Branch) (p q t : Actions) (turn next : Facts) → only_leaves q ≡ true → turn.inner ≡ [] → Goes memory p → Goes memory t → Reaches (less (is_set (If m b p q t)) turn.outer) next
    → FactsGo memory (facts_in_first b turn) p (outs (past true b p q turn) next (at_begin (less (is_set t) (past true b p q turn).outer)))
    × FactsGo memory (facts_in_second b turn) q (outs (past true b p q turn) next (at_begin (less (is_set t) (past true b p q turn).outer)))
    × FactsGo memory (past true b p q turn) t (outs (at_begin (less (is_set t) (past true b p q turn).outer)) next (at_begin (less (is_set t) (past true b p q turn).outer)))
tested_go memory m b p q t turn next is empty in_first rest leaves =
    let N : Facts = past true b p q turn in
    let S : Facts = at_begin (less (is_set t) N.outer) in (
      in_first (facts_in_first b turn) (outs N next S) (record {
        next = past_first true b p q turn;
        leaves = list_out m b true p q t p turn next (λ v i. (only_set p q t v i).0) leaves;
        skips = λ env h. begins (less (is_set t) N.outer) env (lie_less (is_set t) N.outer env (past_first true b p q turn env h).outer);
      }),
      leaves_go memory (facts_in_second b turn) q (outs N next S) is
          (λ env h. list_out m b false p q t q turn next (λ v i. (only_set p q t v i).1) leaves env (lie_less (is_set q) (branch_facts b false turn ++ all_of turn) env h.outer)),
      rest N (outs S next S) (record {
        next = λ env h. begins (less (is_set t) N.outer) env h;
        leaves = λ env h. leaves env
            (let all = less_twice (is_set p) (is_set t) (is_set (If m b p q t)) (λ v e. (let parts = only_set p q t v e in (parts.0, parts.2))) (branch_facts b true turn ++ turn.outer) env h in
            (less_parts (is_set (If m b p q t)) (branch_facts b true turn) turn.outer env all).1);
        skips = λ env h. begins (less (is_set t) N.outer) env h;
      }),
    )

-- a body that doesn't
plain_go : (memory : ℕ) (body : Actions) (turn next : Facts) → Goes memory body → Reaches (less (is_set body) turn.outer) next → FactsGo memory turn body (outs (at_begin (less (is_set body) turn.outer)) next (at_begin (less (is_set body) turn.outer)))
plain_go memory body turn next go leaves = go turn (outs (at_begin (less (is_set body) turn.outer)) next (at_begin (less (is_set body) turn.outer))) (record {
  next = λ env h. begins (less (is_set body) turn.outer) env h;
  leaves = leaves;
  skips = λ env h. begins (less (is_set body) turn.outer) env h;
})

-- where a turn begins, its guess holds on or is none
turn_holds : (memory : ℕ) (body step : Actions) (known : Facts) (guess : List Fact) (c : Bool) → holds_on memory body step known (less (in_either (is_set body) (is_set step)) (all_of known)) guess ≡ c
    → Entails known (at_begin (checked_guess c guess ++ less (in_either (is_set body) (is_set step)) (all_of known)))
turn_holds memory body step known guess true e env h =
    let two = and_parts (says known guess) (say (behind_straight memory step (facts_behind_turn body (at_begin (guess ++ less (in_either (is_set body) (is_set step)) (all_of known))))) guess) e in
    begins (guess ++ less (in_either (is_set body) (is_set step)) (all_of known)) env
    (lie_both guess (less (in_either (is_set body) (is_set step)) (all_of known)) env (says_is known guess env two.0 h) (lie_less (in_either (is_set body) (is_set step)) (all_of known) env (lie_both known.inner known.outer env h.inner h.outer)))
turn_holds memory body step known guess false e env h =
    begins (less (in_either (is_set body) (is_set step)) (all_of known)) env (lie_less (in_either (is_set body) (is_set step)) (all_of known) env (lie_both known.inner known.outer env h.inner h.outer))

step_go : (memory : ℕ) (body step : Actions) (known : Facts) (guess : List Fact) (c : Bool) → holds_on memory body step known (less (in_either (is_set body) (is_set step)) (all_of known)) guess ≡ c → Goes memory step
    → FactsGo memory (facts_behind_turn body (at_begin (checked_guess c guess ++ less (in_either (is_set body) (is_set step)) (all_of known)))) step
    (outs (at_begin (checked_guess c guess ++ less (in_either (is_set body) (is_set step)) (all_of known))) (facts_past_loop body step known) (at_begin (checked_guess c guess ++ less (in_either (is_set body) (is_set step)) (all_of known))))
step_go memory body step known guess true e go = by (behind_straight memory step S) refl two.1
  where
    others : List Fact
    others = less (in_either (is_set body) (is_set step)) (all_of known)

    S : Facts
    S = facts_behind_turn body (at_begin (guess ++ others))

    two : (says known guess ≡ true) × (say (behind_straight memory step S) guess ≡ true)
    two = and_parts (says known guess) (say (behind_straight memory step S) guess) e

    by : (o : Option Facts) → behind_straight memory step S ≡ o → say o guess ≡ true → FactsGo memory S step (outs (at_begin (guess ++ others)) (facts_past_loop body step known) (at_begin (guess ++ others)))
    by None i said = absurd cc
    by (Some last) i said =
        straight_go memory step S last guess others (facts_past_loop body step known) (at_begin (guess ++ others)) i said
        (λ env h. begins others env (again (in_either (is_set body) (is_set step)) (all_of known) env (less_parts (in_either (is_set body) (is_set step)) guess others env (turn_says body step (at_begin (guess ++ others)) env h)).1))
step_go memory body step known guess false e go =
    let others = less (in_either (is_set body) (is_set step)) (all_of known) in
    let S : Facts = facts_behind_turn body (at_begin others) in
    let T : Facts = at_begin others in
    let same : (env : Env) → AllLie (less (is_set step) S.outer) env → Hold T env = λ env h. begins others env (again (in_either (is_set body) (is_set step)) (all_of known) env (turn_says body step T env h)) in
    go S (outs T (facts_past_loop body step known) T) (record {
      next = same;
      leaves = λ env h. others_past body step known [] env (turn_says body step T env h);
      skips = same;
    })

-- a turn's body, by its form
abbrev pub TurnGoes : ℕ → Actions → Type 0
TurnGoes memory body =
    (others : List Fact) (next : Facts) → Reaches (less (is_set body) others) next → FactsGo memory (at_begin others) body (outs (facts_behind_turn body (at_begin others)) next (facts_behind_turn body (at_begin others)))

turned_go : (memory : ℕ) (m : Mark) (b : Branch) (p q t : Actions) (others : List Fact) (next : Facts) (c : Bool) → only_leaves q ≡ c → Goes memory (If m b p q t) → Goes memory p → Goes memory t → Reaches (less (is_set (If m b p q t)) others) next
    → FactsGo memory (at_begin others) (If m b p q t) (outs (facts_behind_turn (If m b p q t) (at_begin others)) next (facts_behind_turn (If m b p q t) (at_begin others)))
turned_go memory m b p q t others next true e go in_first rest leaves = rw e (tested_go memory m b p q t (at_begin others) next e refl in_first rest leaves)
turned_go memory m b p q t others next false e go in_first rest leaves =
    subst (λ (c : Bool). FactsGo memory (at_begin others) (If m b p q t) (outs (if c then at_begin (less (is_set t) (facts_past_if b p q (at_begin others)).outer) else at_begin (less (is_set (If m b p q t)) others)) next (if c then at_begin (less (is_set t) (facts_past_if b p q (at_begin others)).outer) else at_begin (less (is_set (If m b p q t)) others))))
    (sym e) (plain_go memory (If m b p q t) (at_begin others) next go leaves)

loop_go : (memory : ℕ) (m : Mark) (body step k : Actions) (known : Facts) (o : Outs) → Goes memory step → Goes memory k → TurnGoes memory body → Reach (Loop m body step k) known.outer o → FactsGo memory known (Loop m body step k) o
loop_go memory m body step k known o in_step rest in_body r =
    let set = in_either (is_set body) (is_set step) in
    let others = less set (all_of known) in
    let guess = guessed body step known in
    let c = holds_on memory body step known others guess in (
      turn_holds memory body step known guess c refl,
      in_body (checked_guess c guess ++ others) (facts_past_loop body step known)
          (λ env h. others_past body step known (checked_guess c guess) env (less_more (is_set body) set (λ v e. (neither (is_set body v) (is_set step v) e).0) (checked_guess c guess ++ others) env h)),
      step_go memory body step known guess c refl in_step,
      rest (facts_past_loop body step known) o (reach_by (Loop m body step k) k known.outer (less set known.outer) o
          (λ env h. less_twice set (is_set k) (is_set (Loop m body step k)) (λ v e.
          (let one = neither (is_set body v) (is_set step v || is_set k v) e in let two = neither (is_set step v) (is_set k v) one.1 in (not_either (is_set body v) (is_set step v) one.0 two.0, two.1))) known.outer env h) r),
    )

-- what is known where code begins, of what it doesn't set, is known where it goes on
pub facts_go : (memory : ℕ) (code : Actions) (known : Facts) (o : Outs) → Reach code known.outer o → FactsGo memory known code o
facts_go memory Done known o r = λ env h. r.next env (lie_less (is_set Done) known.outer env h.outer)
facts_go memory (Do m Break k) known o r = λ env h. r.leaves env (lie_less (is_set (Do m Break k)) known.outer env h.outer)
facts_go memory (Do m Continue k) known o r = λ env h. r.skips env (lie_less (is_set (Do m Continue k)) known.outer env h.outer)
facts_go memory (Do m (Return y) k) known o r = tt
facts_go memory (Do m (Compute v y) k) known o r = facts_go memory k (facts_behind memory (Compute v y) known) o (set_then m (Compute v y) k known.outer o r)
facts_go memory (Do m (Own v kind y) k) known o r = facts_go memory k (facts_behind memory (Own v kind y) known) o (set_then m (Own v kind y) k known.outer o r)
facts_go memory (Do m (Receive v) k) known o r = facts_go memory k (facts_behind memory (Receive v) known) o (set_then m (Receive v) k known.outer o r)
facts_go memory (Do m (Accept v) k) known o r = facts_go memory k (facts_behind memory (Accept v) known) o (set_then m (Accept v) k known.outer o r)
facts_go memory (Do m (Call (Some v) f ys) k) known o r = facts_go memory k (facts_behind memory (Call (Some v) f ys) known) o (set_then m (Call (Some v) f ys) k known.outer o r)
facts_go memory (Do m (Call None f ys) k) known o r = facts_go memory k (facts_behind memory (Call None f ys) known) o (reach_by (Do m (Call None f ys) k) k known.outer known.outer o (λ env h. h) r)
facts_go memory (Do m (Probe (Place width (Variable v))) k) known o r = facts_go memory k (facts_behind memory (Probe (Place width (Variable v))) known) o (reach_by (Do m (Probe (Place width (Variable v))) k) k known.outer known.outer o (λ env h. h) r)
facts_go memory (Do m (Probe (Place width (Number n))) k) known o r = facts_go memory k (facts_behind memory (Probe (Place width (Number n))) known) o (reach_by (Do m (Probe (Place width (Number n))) k) k known.outer known.outer o (λ env h. h) r)
facts_go memory (Do m (Probe (InBounds y offset)) k) known o r = facts_go memory k (facts_behind memory (Probe (InBounds y offset)) known) o (reach_by (Do m (Probe (InBounds y offset)) k) k known.outer known.outer o (λ env h. h) r)
facts_go memory (Do m (Probe (Zero y)) k) known o r = facts_go memory k (facts_behind memory (Probe (Zero y)) known) o (reach_by (Do m (Probe (Zero y)) k) k known.outer known.outer o (λ env h. h) r)
facts_go memory (Do m (Probe (Room f)) k) known o r = facts_go memory k (facts_behind memory (Probe (Room f)) known) o (reach_by (Do m (Probe (Room f)) k) k known.outer known.outer o (λ env h. h) r)
facts_go memory (Do m (Probe Frame) k) known o r = facts_go memory k (facts_behind memory (Probe Frame) known) o (reach_by (Do m (Probe Frame) k) k known.outer known.outer o (λ env h. h) r)
facts_go memory (Do m (Probe Abort) k) known o r = facts_go memory k (facts_behind memory (Probe Abort) known) o (reach_by (Do m (Probe Abort) k) k known.outer known.outer o (λ env h. h) r)
facts_go memory (Do m (Issue kind y) k) known o r = facts_go memory k (facts_behind memory (Issue kind y) known) o (reach_by (Do m (Issue kind y) k) k known.outer known.outer o (λ env h. h) r)
facts_go memory (Do m (Address width y) k) known o r = facts_go memory k (facts_behind memory (Address width y) known) o (reach_by (Do m (Address width y) k) k known.outer known.outer o (λ env h. h) r)
facts_go memory (Do m (Datum y) k) known o r = facts_go memory k (facts_behind memory (Datum y) known) o (reach_by (Do m (Datum y) k) k known.outer known.outer o (λ env h. h) r)
facts_go memory (Do m (Offer v) k) known o r = facts_go memory k (facts_behind memory (Offer v) known) o (reach_by (Do m (Offer v) k) k known.outer known.outer o (λ env h. h) r)
facts_go memory (Do m (Emit spelling y) k) known o r = facts_go memory k (facts_behind memory (Emit spelling y) known) o (reach_by (Do m (Emit spelling y) k) k known.outer known.outer o (λ env h. h) r)
facts_go memory (Do m (Tell y) k) known o r = facts_go memory k (facts_behind memory (Tell y) known) o (reach_by (Do m (Tell y) k) k known.outer known.outer o (λ env h. h) r)
facts_go memory (Do m (Hear only) k) known o r = facts_go memory k (facts_behind memory (Hear only) known) o (reach_by (Do m (Hear only) k) k known.outer known.outer o (λ env h. h) r)
facts_go memory (Do m (Stop y) k) known o r = facts_go memory k (facts_behind memory (Stop y) known) o (reach_by (Do m (Stop y) k) k known.outer known.outer o (λ env h. h) r)
facts_go memory (If m b p q k) known o r =
    if_go memory m b p q k known o (only_leaves q) refl (λ known o r. facts_go memory p known o r) (λ known o r. facts_go memory q known o r) (λ known o r. facts_go memory k known o r) r
facts_go memory (Loop m Done step k) known o r = loop_go memory m Done step k known o (λ known o r. facts_go memory step known o r) (λ known o r. facts_go memory k known o r) (λ others next leaves. plain_go memory Done (at_begin others) next (λ known o r. facts_go memory Done known o r) leaves) r
facts_go memory (Loop m (Do m' a t) step k) known o r = loop_go memory m (Do m' a t) step k known o (λ known o r. facts_go memory step known o r) (λ known o r. facts_go memory k known o r) (λ others next leaves. plain_go memory (Do m' a t) (at_begin others) next (λ known o r. facts_go memory (Do m' a t) known o r) leaves) r
facts_go memory (Loop m (Loop m' x y t) step k) known o r = loop_go memory m (Loop m' x y t) step k known o (λ known o r. facts_go memory step known o r) (λ known o r. facts_go memory k known o r) (λ others next leaves. plain_go memory (Loop m' x y t) (at_begin others) next (λ known o r. facts_go memory (Loop m' x y t) known o r) leaves) r
facts_go memory (Loop m (If m' b p q t) step k) known o r = loop_go memory m (If m' b p q t) step k known o (λ known o r. facts_go memory step known o r) (λ known o r. facts_go memory k known o r)
    (λ others next leaves. turned_go memory m' b p q t others next (only_leaves q) refl (λ known o r. facts_go memory (If m' b p q t) known o r) (λ known o r. facts_go memory p known o r) (λ known o r. facts_go memory t known o r) leaves) r
