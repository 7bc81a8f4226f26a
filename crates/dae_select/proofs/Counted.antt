-- Words and calls of lists of steps, as far as they are counted, and lists with none.
use Rattle.std.proofs.Common.{◌≡◌, ℕ, ◌+◌, ◌-◌, ◌^◌, ◌<◌, ◌≤◌, Bool, true, false, List, ◌∷◌, length, drop, get_or, refl, ap, sym, ◌∙◌, arith, []}
use Rattle.std.specs.Prelude.{Option, Some, None, Vec, nat_eq, nat_lt, if◌then◌else◌, ◌&&◌}
use Rattle.std.specs.declared.alloc.Global.{Global}
use Rattle.std.proofs.lemmas.Bool.Decides.{nat_tests}
use Rattle.dae_base.proofs.Laws.{drop_at}
use Rattle.dae_ir.specs.Code.{Done, If, Loop}
use Rattle.dae_ir.specs.Streams.{Actions, actions_of, step_onto}
use Rattle.dae_ir.specs.declared.stream.Mark.{Mark}
use Rattle.dae_ir.specs.declared.stream.Action.{Action}
use Rattle.dae_ir.specs.declared.stream.Branch.{Branch}
use Rattle.dae_ir.specs.declared.stream.Step.{Step, Act, If', Loop'}
use Rattle.dae_ir.specs.declared.stream.Step.TheVariants as step
use Rattle.dae_select_live.proofs.Laws.{onto_if, onto_loop}
use Rattle.dae_select_walks.specs.Compiled.{is_told}
use Rattle.dae_select_walks.specs.Facts.{Facts, only_leaves, facts_past_if}
use Rattle.dae_select_blocks.specs.Code.{does_nothing, leaves_first}
use Rattle.dae_select_blocks.specs.Sizes.{calls_in, most_words_in}
use Rattle.dae_select.specs.Counting.{capped}
use Rattle.dae_select.specs.Growing.{first_test, facts_in_tail}
use Rattle.dae_select.specs.declared.making.PlacedBranch.{PlacedBranch}

-- a sum of what is counted counts as much as the sum
pub capped_sum : (k m n : ℕ) → capped (k + capped m + capped n) ≡ capped (k + m + n)
capped_sum k m n = by (nat_lt m (2 ^ 17)) (nat_lt n (2 ^ 17)) refl refl
  where
    both : (v w : ℕ) → 2 ^ 17 ≤ v → 2 ^ 17 ≤ w → capped v ≡ capped w
    both v w h g = (let a : nat_lt v (2 ^ 17) ≡ false = grind (arith, nat_tests) in let b : nat_lt w (2 ^ 17) ≡ false = grind (arith, nat_tests) in rw (a, b) refl)

    by : (a b : Bool) → nat_lt m (2 ^ 17) ≡ a → nat_lt n (2 ^ 17) ≡ b → capped (k + (if a then m else 2 ^ 17) + (if b then n else 2 ^ 17)) ≡ capped (k + m + n)
    by true true e h = refl
    by true false e h = (let far : (2 ^ 17 ≤ n) = grind (arith, nat_tests) in both (k + m + 2 ^ 17) (k + m + n) (omega arith) (omega arith))
    by false b e h = (let far : (2 ^ 17 ≤ m) = grind (arith, nat_tests) in both (k + 2 ^ 17 + (if b then n else 2 ^ 17)) (k + m + n) (omega arith) (omega arith))

no_more : (m n : ℕ) → 0 + m + n ≡ m + n
no_more m n = omega arith

-- the same of two
capped_both : (m n : ℕ) → capped (capped m + capped n) ≡ capped (m + n)
capped_both m n = ap capped (sym (no_more (capped m) (capped n))) ∙ capped_sum 0 m n ∙ ap capped (no_more m n)

-- a step in front of others
pub onto_words : (s : Step) (k : Actions) → most_words_in (step_onto s k) ≡ most_words_in (step_onto s Done) + most_words_in k
onto_words (Act m x) k = omega arith
onto_words (If' m b s p t q) k = omega arith
onto_words (Loop' m s p t q) k = omega arith

pub if_words : (s : Step) (m : Mark) (b : Branch) (p q : Vec Step Global) (first second result : ℕ) → s ≡ step.If m b p q → first ≡ capped (most_words_in (actions_of p.items)) → second ≡ capped (most_words_in (actions_of q.items))
    → result ≡ capped (14 + first + second) → result ≡ capped (most_words_in (step_onto s Done))
if_words s m b p q first second result is e h all =
    let whole : step_onto s Done ≡ If m b (actions_of p.items) (actions_of q.items) Done = ap (λ (z : Step). step_onto z Done) is ∙ onto_if m b p q Done in
    let sum : 14 + most_words_in (actions_of p.items) + most_words_in (actions_of q.items) ≡ most_words_in (If m b (actions_of p.items) (actions_of q.items) Done) = omega arith in
    all ∙ ap (λ (n : ℕ). capped (14 + n + second)) e ∙ ap (λ (n : ℕ). capped (14 + capped (most_words_in (actions_of p.items)) + n)) h
    ∙ capped_sum 14 (most_words_in (actions_of p.items)) (most_words_in (actions_of q.items)) ∙ ap capped sum ∙ ap (λ (c : Actions). capped (most_words_in c)) (sym whole)

pub loop_words : (s : Step) (m : Mark) (p q : Vec Step Global) (first second result : ℕ) → s ≡ step.Loop m p q → first ≡ capped (most_words_in (actions_of p.items)) → second ≡ capped (most_words_in (actions_of q.items))
    → result ≡ capped (14 + first + second) → result ≡ capped (most_words_in (step_onto s Done))
loop_words s m p q first second result is e h all =
    let whole : step_onto s Done ≡ Loop m (actions_of p.items) (actions_of q.items) Done = ap (λ (z : Step). step_onto z Done) is ∙ onto_loop m p q Done in
    let sum : 14 + most_words_in (actions_of p.items) + most_words_in (actions_of q.items) ≡ most_words_in (Loop m (actions_of p.items) (actions_of q.items) Done) = omega arith in
    all ∙ ap (λ (n : ℕ). capped (14 + n + second)) e ∙ ap (λ (n : ℕ). capped (14 + capped (most_words_in (actions_of p.items)) + n)) h
    ∙ capped_sum 14 (most_words_in (actions_of p.items)) (most_words_in (actions_of q.items)) ∙ ap capped sum ∙ ap (λ (c : Actions). capped (most_words_in c)) (sym whole)

-- the words of the steps from the j-th on
abbrev pub CountFrom : List Step → ℕ → ℕ → Type 0
CountFrom steps j n = n ≡ capped (most_words_in (actions_of (drop j steps)))

pub one_counted : (steps : List Step) (j : ℕ) (s : Step) (one sum all : ℕ) → 0 < j → j ≤ length steps → s ≡ get_or steps (j - 1) s → CountFrom steps j sum → one ≡ capped (most_words_in (step_onto s Done)) → all ≡ capped (one + sum) → CountFrom steps (j - 1) all
one_counted steps j s one sum all some le is so_far e h =
    let rest = most_words_in (actions_of (drop j steps)) in let here = most_words_in (step_onto s Done) in
    let back : j - 1 + 1 ≡ j = omega arith in
    let at' : drop (j - 1) steps ≡ s ∷ drop j steps = drop_at steps (j - 1) s (omega arith) is ∙ ap (λ (i : ℕ). s ∷ drop i steps) back in
    let two : capped (capped here + capped rest) ≡ capped (here + rest) = capped_both here rest in
    h ∙ ap (λ (n : ℕ). capped (n + sum)) e ∙ ap (λ (n : ℕ). capped (capped here + n)) so_far ∙ two ∙ ap capped (sym (onto_words s (actions_of (drop j steps))))
    ∙ ap (λ (l : List Step). capped (most_words_in (actions_of l))) (sym at')

-- ---- calls, counted alike

onto_calls : (s : Step) (k : Actions) → calls_in (step_onto s k) ≡ calls_in (step_onto s Done) + calls_in k
onto_calls (Act m x) k = omega arith
onto_calls (If' m b s p t q) k = omega arith
onto_calls (Loop' m s p t q) k = omega arith

pub if_calls : (s : Step) (m : Mark) (b : Branch) (p q : Vec Step Global) (first second result : ℕ) → s ≡ step.If m b p q → first ≡ capped (calls_in (actions_of p.items)) → second ≡ capped (calls_in (actions_of q.items))
    → result ≡ capped (first + second) → result ≡ capped (calls_in (step_onto s Done))
if_calls s m b p q first second result is e h all =
    let whole : step_onto s Done ≡ If m b (actions_of p.items) (actions_of q.items) Done = ap (λ (z : Step). step_onto z Done) is ∙ onto_if m b p q Done in
    let sum : calls_in (actions_of p.items) + calls_in (actions_of q.items) ≡ calls_in (If m b (actions_of p.items) (actions_of q.items) Done) = omega arith in
    all ∙ ap (λ (n : ℕ). capped (n + second)) e ∙ ap (λ (n : ℕ). capped (capped (calls_in (actions_of p.items)) + n)) h
    ∙ capped_both (calls_in (actions_of p.items)) (calls_in (actions_of q.items)) ∙ ap capped sum ∙ ap (λ (c : Actions). capped (calls_in c)) (sym whole)

pub loop_calls : (s : Step) (m : Mark) (p q : Vec Step Global) (first second result : ℕ) → s ≡ step.Loop m p q → first ≡ capped (calls_in (actions_of p.items)) → second ≡ capped (calls_in (actions_of q.items))
    → result ≡ capped (first + second) → result ≡ capped (calls_in (step_onto s Done))
loop_calls s m p q first second result is e h all =
    let whole : step_onto s Done ≡ Loop m (actions_of p.items) (actions_of q.items) Done = ap (λ (z : Step). step_onto z Done) is ∙ onto_loop m p q Done in
    let sum : calls_in (actions_of p.items) + calls_in (actions_of q.items) ≡ calls_in (Loop m (actions_of p.items) (actions_of q.items) Done) = omega arith in
    all ∙ ap (λ (n : ℕ). capped (n + second)) e ∙ ap (λ (n : ℕ). capped (capped (calls_in (actions_of p.items)) + n)) h
    ∙ capped_both (calls_in (actions_of p.items)) (calls_in (actions_of q.items)) ∙ ap capped sum ∙ ap (λ (c : Actions). capped (calls_in c)) (sym whole)

-- the calls of the steps from the j-th on
abbrev pub CallsFrom : List Step → ℕ → ℕ → Type 0
CallsFrom steps j n = n ≡ capped (calls_in (actions_of (drop j steps)))

pub one_call_counted : (steps : List Step) (j : ℕ) (s : Step) (one sum all : ℕ) → 0 < j → j ≤ length steps → s ≡ get_or steps (j - 1) s → CallsFrom steps j sum → one ≡ capped (calls_in (step_onto s Done)) → all ≡ capped (one + sum) → CallsFrom steps (j - 1) all
one_call_counted steps j s one sum all some le is so_far e h =
    let rest = calls_in (actions_of (drop j steps)) in let here = calls_in (step_onto s Done) in
    let back : j - 1 + 1 ≡ j = omega arith in
    let at' : drop (j - 1) steps ≡ s ∷ drop j steps = drop_at steps (j - 1) s (omega arith) is ∙ ap (λ (i : ℕ). s ∷ drop i steps) back in
    h ∙ ap (λ (n : ℕ). capped (n + sum)) e ∙ ap (λ (n : ℕ). capped (capped here + n)) so_far ∙ capped_both here rest ∙ ap capped (sym (onto_calls s (actions_of (drop j steps))))
    ∙ ap (λ (l : List Step). capped (calls_in (actions_of l))) (sym at')

-- a list with no steps does nothing
some_step : (s : Step) (steps : List Step) → nat_eq (length (s ∷ steps)) 0 ≡ false
some_step s steps = grind (arith, nat_tests)

pub empty_does_nothing : (steps : List Step) → nat_eq (length steps) 0 ≡ does_nothing (actions_of steps)
empty_does_nothing [] = refl
empty_does_nothing (Act m x ∷ steps) = some_step (Act m x) steps
empty_does_nothing (If' m b s p t q ∷ steps) = some_step (If' m b s p t q) steps
empty_does_nothing (Loop' m s p t q ∷ steps) = some_step (Loop' m s p t q) steps

-- ---- the test that a body begins with

begins_with : (body : List Step) (s : Step) → 0 < length body → s ≡ get_or body 0 s → (k : Actions) × (actions_of body ≡ step_onto s k)
begins_with [] s some is = absurd (omega arith)
begins_with (x ∷ xs) s some is = (actions_of xs, ap (λ (z : Step). step_onto z (actions_of xs)) (sym is))

pub leaving_if : (body : List Step) (s : Step) (m : Mark) (b : Branch) (p q : Vec Step Global) → 0 < length body → s ≡ get_or body 0 s → s ≡ step.If m b p q
    → (first_test (actions_of body) ≡ Some (record { place = m.place; branch = b })) × (leaves_first (actions_of body) ≡ (is_told b && (does_nothing (actions_of p.items) && only_leaves (actions_of q.items))))
leaving_if body s m b p q some is e =
    let begins = begins_with body s some is in
    let whole : actions_of body ≡ If m b (actions_of p.items) (actions_of q.items) begins.0 = begins.1 ∙ ap (λ (z : Step). step_onto z begins.0) e ∙ onto_if m b p q begins.0 in
    (ap first_test whole, ap leaves_first whole)

pub leaving_act : (body : List Step) (s : Step) (m : Mark) (a : Action) → 0 < length body → s ≡ get_or body 0 s → s ≡ step.Act m a → leaves_first (actions_of body) ≡ false
leaving_act body s m a some is e = (let begins = begins_with body s some is in ap leaves_first (begins.1 ∙ ap (λ (z : Step). step_onto z begins.0) e))

pub leaving_loop : (body : List Step) (s : Step) (m : Mark) (p q : Vec Step Global) → 0 < length body → s ≡ get_or body 0 s → s ≡ step.Loop m p q → leaves_first (actions_of body) ≡ false
leaving_loop body s m p q some is e =
    let begins = begins_with body s some is in
    ap leaves_first (begins.1 ∙ ap (λ (z : Step). step_onto z begins.0) e ∙ onto_loop m p q begins.0)

-- what is known behind that test, where it stands behind the step
pub tail_done : (t : PlacedBranch) (body : List Step) (known : Facts) → length body ≡ 0 → facts_in_tail (Some t) (actions_of body) known ≡ known
tail_done t [] known e = refl
tail_done t (x ∷ xs) known e = absurd (omega arith)

pub tail_if : (t : PlacedBranch) (body : List Step) (known : Facts) (s : Step) (m : Mark) (b : Branch) (p q : Vec Step Global) → 0 < length body → s ≡ get_or body 0 s → s ≡ step.If m b p q
    → facts_in_tail (Some t) (actions_of body) known ≡ facts_past_if b (actions_of p.items) (actions_of q.items) known
tail_if t body known s m b p q some is e =
    let begins = begins_with body s some is in
    ap (λ (c : Actions). facts_in_tail (Some t) c known) (begins.1 ∙ ap (λ (z : Step). step_onto z begins.0) e ∙ onto_if m b p q begins.0)

pub tail_act : (t : PlacedBranch) (body : List Step) (known : Facts) (s : Step) (m : Mark) (a : Action) → 0 < length body → s ≡ get_or body 0 s → s ≡ step.Act m a → facts_in_tail (Some t) (actions_of body) known ≡ known
tail_act t body known s m a some is e =
    let begins = begins_with body s some is in
    ap (λ (c : Actions). facts_in_tail (Some t) c known) (begins.1 ∙ ap (λ (z : Step). step_onto z begins.0) e)

pub tail_loop : (t : PlacedBranch) (body : List Step) (known : Facts) (s : Step) (m : Mark) (p q : Vec Step Global) → 0 < length body → s ≡ get_or body 0 s → s ≡ step.Loop m p q → facts_in_tail (Some t) (actions_of body) known ≡ known
tail_loop t body known s m p q some is e =
    let begins = begins_with body s some is in
    ap (λ (c : Actions). facts_in_tail (Some t) c known) (begins.1 ∙ ap (λ (z : Step). step_onto z begins.0) e ∙ onto_loop m p q begins.0)

pub none_if : (t : Bool) (o : Option PlacedBranch) → t ≡ false → None ≡ (if t then o else None)
none_if t o e = rw e refl

pub some_if : (t : Bool) (o : Option PlacedBranch) (x : PlacedBranch) → t ≡ true → o ≡ Some x → Some x ≡ (if t then o else None)
some_if t o x e h = rw (e, h) refl

pub all_three : (a b c : Bool) → a ≡ true → b ≡ true → c ≡ true → (a && (b && c)) ≡ true
all_three a b c e h k = rw (e, h, k) refl

pub not_first : (a b : Bool) → a ≡ false → (a && b) ≡ false
not_first a b e = rw e refl

pub not_last : (a b : Bool) → b ≡ false → (a && b) ≡ false
not_last true b e = e
not_last false b e = refl
