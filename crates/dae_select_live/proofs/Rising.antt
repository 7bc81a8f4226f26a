-- What a search finds in a rising list of variables, and what edits at that place do to its variables.
use Rattle.std.proofs.Common.{◌≡◌, ℕ, zero, suc, ◌+◌, ◌-◌, ◌<◌, ◌≤◌, Bool, true, false, not, ◌&&◌, ◌||◌, List, ◌∷◌, length, get_or, Result, Ok, Err, IfOk, IfErr, refl, ap, sym, subst, ◌∙◌, arith, []}
use Rattle.std.proofs.Math.Path.{fun_ext}
use Rattle.std.specs.Prelude.{nat_eq}
use Rattle.std.specs.List.{insert, remove}
use Rattle.std.specs.List.Sorted.{IsBinarySearchResult}
use Rattle.std.specs.Ordering.{nat_cmp}
use Rattle.std.proofs.lemmas.Bool.Decides.{nat_tests}
use Rattle.std.proofs.lemmas.List.Edits.{length-insert, get_or-insert_below, get_or-insert_at, get_or-insert_above, length-remove, get_or-remove_below, get_or-remove_above}
use Rattle.std.proofs.lemmas.List.Sorted as sorted
use Rattle.dae_base.proofs.Laws.{or_true, or_nothing}
use Rattle.dae_ir.specs.Classes.{VariableSet}
use Rattle.dae_select_walks.specs.Live.{with_all, only}
use Rattle.dae_select_live.specs.Members.{member, without, AreRising, IsAt, IsGapFor}

-- ---- the search

no_fall : (vs : List ℕ) → AreRising vs → (i j : ℕ) → i ≤ j → j < length vs → get_or vs i 0 ≤ get_or vs j 0
no_fall vs rising i j le lt = grind (arith, rising i j, λ (same : i ≡ j). ap (λ (k : ℕ). get_or vs k 0) same)

pub searched : (vs : List ℕ) (v : ℕ) (r : Result ℕ ℕ) → AreRising vs → IsBinarySearchResult (λ y. nat_cmp y v) vs r → record { found : IfOk r (IsAt vs v); absent : IfErr r (IsGapFor vs v) }
searched vs v (Ok i) rising e =
    let h = sorted.searched vs v (Ok i) e (no_fall vs rising) in
    record { found = record { within = h.0; here = h.1 }; absent = tt }
searched vs v (Err i) rising e =
    let h = sorted.searched vs v (Err i) e (no_fall vs rising) in
    record { found = tt; absent = record { within = h.0; smaller = h.1; greater = h.2 } }

-- ---- what is there and what isn't

pub member_at : (vs : List ℕ) (v i : ℕ) → IsAt vs v i → true ≡ member vs v
member_at [] v i at = absurd (omega (arith, at.within))
member_at (x ∷ vs) v zero at = (let same : nat_eq v x ≡ true = grind (arith, nat_tests, at.here) in rw same refl)
member_at (x ∷ vs) v (suc i) at =
    let rest : true ≡ member vs v = member_at vs v i (record { within = omega (arith, at.within); here = at.here }) in
    rw (sym rest) (sym (or_true (nat_eq v x)))

-- the variable stands nowhere
abbrev IsNowhere : List ℕ → ℕ → Type 0
IsNowhere vs v = (k : ℕ) → k < length vs → get_or vs k 0 ≡ v → ⊥

nowhere_there : (vs : List ℕ) (v : ℕ) → IsNowhere vs v → false ≡ member vs v
nowhere_there [] v none = refl
nowhere_there (x ∷ vs) v none =
    let other : nat_eq v x ≡ false = grind (arith, nat_tests, none 0 (omega arith)) in
    rw other (nowhere_there vs v (λ k lt e. none (suc k) (omega arith) e))

gap_nowhere : (vs : List ℕ) (v i : ℕ) → IsGapFor vs v i → IsNowhere vs v
gap_nowhere vs v i gap k lt e = grind (arith, gap.smaller k, gap.greater k)

pub member_in_gap : (vs : List ℕ) (v i : ℕ) → IsGapFor vs v i → false ≡ member vs v
member_in_gap vs v i gap = nowhere_there vs v (gap_nowhere vs v i gap)

-- ---- a variable comes in

or_in : (a b c : Bool) → a || (b || c) ≡ b || (a || c)
or_in true true c = refl
or_in true false c = refl
or_in false b c = refl

inserted_at : (vs : List ℕ) (i v u : ℕ) → member (insert vs i v) u ≡ nat_eq u v || member vs u
inserted_at vs zero v u = refl
inserted_at [] (suc i) v u = refl
inserted_at (x ∷ vs) (suc i) v u = ap (λ (b : Bool). nat_eq u x || b) (inserted_at vs i v u) ∙ or_in (nat_eq u x) (nat_eq u v) (member vs u)

pub member_inserted : (vs : List ℕ) (i v : ℕ) → member (insert vs i v) ≡ with_all (only v) (member vs)
member_inserted vs i v = fun_ext (λ u. inserted_at vs i v u)

one_there : (b c : Bool) → (b ≡ true → true ≡ c) → c ≡ b || c
one_there true c h = sym (h refl)
one_there false c h = refl

pub member_again : (vs : List ℕ) (v i : ℕ) → IsAt vs v i → member vs ≡ with_all (only v) (member vs)
member_again vs v i at = fun_ext (λ u. one_there (nat_eq u v) (member vs u) (λ e. (let same : v ≡ u = grind (arith, nat_tests) in member_at vs v i at ∙ ap (member vs) same)))

pub rising_insert : (vs : List ℕ) (v i : ℕ) → IsGapFor vs v i → AreRising vs → AreRising (insert vs i v)
rising_insert vs v i gap rising a b lt inside =
    let new = insert vs i v in
    let long = length-insert vs i v gap.within in
    let below : (k : ℕ) → k < i → get_or new k 0 ≡ get_or vs k 0 = λ k h. get_or-insert_below vs i v 0 k h gap.within in
    let here : (k : ℕ) → k ≡ i → get_or new k 0 ≡ v = λ k same. rw same (get_or-insert_at vs i v 0 gap.within) in
    let above : (k : ℕ) → i < k → get_or new k 0 ≡ get_or vs (k - 1) 0 = λ k h. subst (λ (q : ℕ). get_or new q 0 ≡ get_or vs (k - 1) 0) {x = k - 1 + 1} (omega arith) (get_or-insert_above vs i v 0 (k - 1) (omega arith) gap.within) in
    grind (arith, below a, here a, above a, below b, here b, above b, rising a b, rising a (b - 1), rising (a - 1) (b - 1), gap.smaller a, gap.greater (b - 1))

-- ---- a variable goes out

rising_tail : (x : ℕ) (vs : List ℕ) → AreRising (x ∷ vs) → AreRising vs
rising_tail x vs rising i j lt inside = rising (suc i) (suc j) (omega arith) (omega arith)

first_nowhere : (x : ℕ) (vs : List ℕ) → AreRising (x ∷ vs) → IsNowhere vs x
first_nowhere x vs rising k lt e = (let less : x < get_or vs k 0 = rising 0 (suc k) (omega arith) (omega arith) in omega arith)

first_out : (b c : Bool) → (b ≡ true → false ≡ c) → c ≡ (b || c) && not b
first_out true c h = sym (h refl)
first_out false true h = refl
first_out false false h = refl

other_out : (a b c : Bool) → (a ≡ true → b ≡ false) → a || (c && not b) ≡ (a || c) && not b
other_out true b c h = rw (h refl) refl
other_out false b c h = refl

removed_at : (vs : List ℕ) (v i u : ℕ) → IsAt vs v i → AreRising vs → member (remove vs i) u ≡ member vs u && not (nat_eq u v)
removed_at [] v i u at rising = absurd (omega (arith, at.within))
removed_at (x ∷ vs) v zero u at rising =
    let none : nat_eq u x ≡ true → false ≡ member vs u = λ e. (let same : x ≡ u = grind (arith, nat_tests) in nowhere_there vs x (first_nowhere x vs rising) ∙ ap (member vs) same) in
    first_out (nat_eq u x) (member vs u) none ∙ ap (λ (w : ℕ). (nat_eq u x || member vs u) && not (nat_eq u w)) at.here
removed_at (x ∷ vs) v (suc i) u at rising =
    let less : x < get_or vs i 0 = rising 0 (suc i) (omega arith) at.within in
    let rest = removed_at vs v i u (record { within = omega (arith, at.within); here = at.here }) (rising_tail x vs rising) in
    ap (λ (b : Bool). nat_eq u x || b) rest ∙ other_out (nat_eq u x) (nat_eq u v) (member vs u) (λ e. grind (arith, nat_tests, at.here))

pub member_removed : (vs : List ℕ) (v i : ℕ) → IsAt vs v i → AreRising vs → member (remove vs i) ≡ without v (member vs)
member_removed vs v i at rising = fun_ext (λ u. removed_at vs v i u at rising)

kept_out : (b c : Bool) → (b ≡ true → false ≡ c) → c ≡ c && not b
kept_out true c h = sym (h refl) ∙ ap (λ (d : Bool). d && false) (h refl)
kept_out false true h = refl
kept_out false false h = refl

pub member_kept : (vs : List ℕ) (v i : ℕ) → IsGapFor vs v i → member vs ≡ without v (member vs)
member_kept vs v i gap = fun_ext (λ u. kept_out (nat_eq u v) (member vs u) (λ e. (let same : v ≡ u = grind (arith, nat_tests) in member_in_gap vs v i gap ∙ ap (member vs) same)))

pub rising_remove : (vs : List ℕ) (i : ℕ) → i < length vs → AreRising vs → AreRising (remove vs i)
rising_remove vs i within rising a b lt inside =
    let new = remove vs i in
    let long = length-remove vs i within in
    let below : (k : ℕ) → k < i → get_or new k 0 ≡ get_or vs k 0 = λ k h. get_or-remove_below vs i 0 k h within in
    let above : (k : ℕ) → i ≤ k → get_or new k 0 ≡ get_or vs (k + 1) 0 = λ k h. get_or-remove_above vs i 0 k h within in
    grind (arith, below a, above a, below b, above b, rising a b, rising a (b + 1), rising (a + 1) (b + 1))

-- without no variable
and_true : (b : Bool) → b ≡ b && true
and_true true = refl
and_true false = refl

pub without_none : (set : VariableSet) → set ≡ (λ u. set u && not false)
without_none set = fun_ext (λ u. and_true (set u))

-- ---- the variables of another set

or_first : (a b c : Bool) → (a || b) || c ≡ b || (a || c)
or_first true true c = refl
or_first true false c = refl
or_first false b c = refl

pub one_comes_in : (now new rest : List ℕ) (v : ℕ) → member new ≡ with_all (only v) (member now) → with_all (member new) (member rest) ≡ with_all (member now) (member (v ∷ rest))
one_comes_in now new rest v e = ap (λ (set : VariableSet). with_all set (member rest)) e ∙ fun_ext (λ u. or_first (nat_eq u v) (member now u) (member rest u))

pub nothing_left : (now : List ℕ) → with_all (member now) (member []) ≡ member now
nothing_left now = fun_ext (λ u. or_nothing (member now u))
