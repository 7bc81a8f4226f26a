-- Where a stream sets each variable before it reads it, only what was set before is live.
use Rattle.std.proofs.Common.{◌≡◌, ℕ, Bool, true, false, not, ◌&&◌, ◌||◌, List, [], ◌∷◌, Option, Some, None, refl, arith, ◌⊎◌, inl, inr}
use Rattle.std.specs.Prelude.{nat_eq}
use Rattle.std.proofs.lemmas.Bool.Decides.{nat_tests}
use Rattle.std.proofs.lemmas.Bool.{or_right, and_from, or_cases}
use Rattle.dae_base.proofs.Laws.{and_first, and_second}
use Rattle.dae_ir.specs.Code.{Done, Do, If, Loop}
use Rattle.dae_ir.specs.Classes.{VariableSet, has, has_value, has_check}
use Rattle.dae_ir.specs.Streams.{Actions}
use Rattle.dae_ir.specs.SetFirst.{IsSetFirst, assured, stream_flow, ActionReads, BranchReads, AllGiven, SomeRead, after_action, with_some}
use Rattle.dae_ir.specs.declared.form.Operand.{Operand}
use Rattle.dae_ir.specs.declared.form.Operand.TheVariants.{Variable, Number}
use Rattle.dae_ir.specs.declared.form.Value.{Value}
use Rattle.dae_ir.specs.declared.form.Value.TheVariants.{Same, Extended, Binary, Holds, FrameAddress}
use Rattle.dae_ir.specs.declared.form.Check.{Check}
use Rattle.dae_ir.specs.declared.form.Check.TheVariants.{Place, InBounds, Zero, Room, Frame, Abort}
use Rattle.dae_ir.specs.declared.stream.Argument.{Argument}
use Rattle.dae_ir.specs.declared.stream.Action.{Action}
use Rattle.dae_ir.specs.declared.stream.Action.TheVariants.{Set as Compute, Issue, Own, Receive, Address, Datum, Offer, Accept, Emit, Probe, Tell, Hear, Stop, Break, Continue, Call, Return}
use Rattle.dae_ir.specs.declared.stream.Branch.{Branch}
use Rattle.dae_ir.specs.declared.stream.Branch.TheVariants.{Silent, Tells, Hears}
use Rattle.dae_select_walks.specs.Live.{none, in_operand, in_option, in_value, in_check, in_arguments, reads, sets, decided, LiveWays, ways, behind, after, live}

-- ---- what is read was set

operand_set : (d : VariableSet) (x : Operand) (u : ℕ) → has d x ≡ true → in_operand x u ≡ true → d u ≡ true
operand_set d (Variable v) u h e = let same : u ≡ v = grind (arith, nat_tests) in rw same h
operand_set d (Number k) u h e = absurd cc

both_set : (d : VariableSet) (x y : Operand) (u : ℕ) → (has d x && has d y) ≡ true → (in_operand x u || in_operand y u) ≡ true → d u ≡ true
both_set d x y u h e = by (has d x) (has d y) (in_operand x u) refl refl refl h e
  where
    by : (a b c : Bool) → has d x ≡ a → has d y ≡ b → in_operand x u ≡ c → (a && b) ≡ true → (c || in_operand y u) ≡ true → d u ≡ true
    by true true true ea eb ec h e = operand_set d x u ea ec
    by true true false ea eb ec h e = operand_set d y u eb e
    by true false c ea eb ec h e = absurd cc
    by false b c ea eb ec h e = absurd cc

value_set : (d : VariableSet) (x : Value) (u : ℕ) → has_value d x ≡ true → in_value x u ≡ true → d u ≡ true
value_set d (Same x) u h e = operand_set d x u h e
value_set d (Extended kind x) u h e = operand_set d x u h e
value_set d (Binary operator x y) u h e = both_set d x y u h e
value_set d (Holds t) u h e = both_set d t.left t.right u h e
value_set d (FrameAddress offset) u h e = absurd cc

check_set : (d : VariableSet) (x : Check) (u : ℕ) → has_check d x ≡ true → in_check x u ≡ true → d u ≡ true
check_set d (Place width x) u h e = operand_set d x u h e
check_set d (InBounds x offset) u h e = operand_set d x u h e
check_set d (Zero x) u h e = operand_set d x u h e
check_set d (Room f) u h e = absurd cc
check_set d Frame u h e = absurd cc
check_set d Abort u h e = absurd cc

given_set : (d : VariableSet) (xs : List Argument) (u : ℕ) → AllGiven d xs → in_arguments xs u ≡ true → d u ≡ true
given_set d [] u h e = absurd cc
given_set d (x ∷ xs) u h e = by (in_operand x.operand u) refl e (given_set d xs u h.1)
  where
    by : (b : Bool) → in_operand x.operand u ≡ b → (b || in_arguments xs u) ≡ true → (in_arguments xs u ≡ true → d u ≡ true) → d u ≡ true
    by true t e later = operand_set d x.operand u h.0 t
    by false t e later = later e

option_set : (d : VariableSet) (x : Option Operand) (u : ℕ) → SomeRead d x → in_option x u ≡ true → d u ≡ true
option_set d None u h e = absurd cc
option_set d (Some x) u h e = operand_set d x u h e

reads_set : (d : VariableSet) (a : Action) (u : ℕ) → ActionReads d a → reads a u ≡ true → d u ≡ true
reads_set d (Compute v x) u h e = value_set d x u h e
reads_set d (Issue kind x) u h e = operand_set d x u h e
reads_set d (Own v kind x) u h e = operand_set d x u h e
reads_set d (Receive v) u h e = absurd cc
reads_set d (Address width x) u h e = operand_set d x u h e
reads_set d (Datum x) u h e = operand_set d x u h e
reads_set d (Offer v) u h e = let same : u ≡ v = grind (arith, nat_tests) in rw same h
reads_set d (Accept v) u h e = absurd cc
reads_set d (Emit spelling x) u h e = operand_set d x u h e
reads_set d (Probe check) u h e = check_set d check u h e
reads_set d (Tell x) u h e = operand_set d x u h e
reads_set d (Hear only) u h e = absurd cc
reads_set d (Stop x) u h e = option_set d x u h e
reads_set d Break u h e = absurd cc
reads_set d Continue u h e = absurd cc
reads_set d (Call v f xs) u h e = given_set d xs u h e
reads_set d (Return x) u h e = option_set d x u h e

branch_set : (d : VariableSet) (b : Branch) (u : ℕ) → BranchReads d b → decided b u ≡ true → d u ≡ true
branch_set d (Silent t) u h e = both_set d t.left t.right u h e
branch_set d (Tells t) u h e = both_set d t.left t.right u h e
branch_set d Hears u h e = absurd cc

-- ---- what is set stays so

some_more : (v : Option ℕ) (d : VariableSet) (u : ℕ) → d u ≡ true → with_some v d u ≡ true
some_more None d u h = h
some_more (Some v) d u h = or_right (nat_eq u v) (d u) h

action_more : (d : VariableSet) (a : Action) (u : ℕ) → d u ≡ true → after_action d a u ≡ true
action_more d (Compute v x) u h = or_right (nat_eq u v) (d u) h
action_more d (Own v kind x) u h = or_right (nat_eq u v) (d u) h
action_more d (Receive v) u h = or_right (nat_eq u v) (d u) h
action_more d (Accept v) u h = or_right (nat_eq u v) (d u) h
action_more d (Call v f xs) u h = some_more v d u h
action_more d Break u h = refl
action_more d Continue u h = refl
action_more d (Stop x) u h = refl
action_more d (Return x) u h = refl
action_more d a u h = h

code_more : (d : VariableSet) (code : Actions) (u : ℕ) → d u ≡ true → assured stream_flow d code u ≡ true
code_more d Done u h = h
code_more d (Do m a k) u h = code_more (after_action d a) k u (action_more d a u h)
code_more d (If m b p q k) u h =
    code_more (λ v. assured stream_flow d p v && assured stream_flow d q v) k u (and_from (assured stream_flow d p u) (assured stream_flow d q u) (code_more d p u h) (code_more d q u h))
code_more d (Loop m body step k) u h = code_more d k u h

-- what an action adds is what it sets, but where it doesn't go on
unset : (v u : ℕ) (b : Bool) → (nat_eq u v || b) ≡ true → not (nat_eq u v) ≡ true → b ≡ true
unset v u b h k = by (nat_eq u v) h k
  where
    by : (t : Bool) → (t || b) ≡ true → not t ≡ true → b ≡ true
    by true h k = absurd cc
    by false h k = h

-- ---- what is live was set

split' : (a b c : Bool) → (a || (b && c)) ≡ true → (a ≡ true) ⊎ ((b ≡ true) × (c ≡ true))
split' true b c h = inl refl
split' false true true h = inr (refl, refl)
split' false true false h = absurd cc
split' false false c h = absurd cc

behind_set : (d : VariableSet) (a : Action) (k : VariableSet) (x : LiveWays) (u : ℕ) → (k u ≡ true → after_action d a u ≡ true) → (x.leaves u ≡ true → d u ≡ true) → (x.skips u ≡ true → d u ≡ true) → after a k x u ≡ true → not (sets a u) ≡ true → d u ≡ true
behind_set d (Compute v y) k x u f l s h n = unset v u (d u) (f h) n
behind_set d (Own v kind y) k x u f l s h n = unset v u (d u) (f h) n
behind_set d (Receive v) k x u f l s h n = unset v u (d u) (f h) n
behind_set d (Accept v) k x u f l s h n = unset v u (d u) (f h) n
behind_set d (Call None g xs) k x u f l s h n = f h
behind_set d (Call (Some v) g xs) k x u f l s h n = unset v u (d u) (f h) n
behind_set d Break k x u f l s h n = l h
behind_set d Continue k x u f l s h n = s h
behind_set d (Stop y) k x u f l s h n = absurd cc
behind_set d (Return y) k x u f l s h n = absurd cc
behind_set d a k x u f l s h n = f h

pub live_set : (code : Actions) (d : VariableSet) (x : LiveWays) → IsSetFirst stream_flow d code → ((u : ℕ) → x.next u ≡ true → assured stream_flow d code u ≡ true) → ((u : ℕ) → x.leaves u ≡ true → d u ≡ true) → ((u : ℕ) → x.skips u ≡ true → d u ≡ true) → (u : ℕ) → live code x u ≡ true → d u ≡ true
live_set Done d x first next leaves skips u h = next u h
live_set (Do m a k) d x first next leaves skips u h =
    elim (split' (reads a u) (after a (live k x) x u) (not (sets a u)) h) [
      | inl e ↦ reads_set d a u first.0 e
      | inr e ↦ behind_set d a (live k x) x u (live_set k (after_action d a) x first.1 next (λ v l. action_more d a v (leaves v l)) (λ v l. action_more d a v (skips v l)) u) (leaves u) (skips u) e.0 e.1
    ]
live_set (If m b p q k) d x first next leaves skips u h =
    let d' : VariableSet = λ v. assured stream_flow d p v && assured stream_flow d q v in
    let more : (v : ℕ) → d v ≡ true → d' v ≡ true = λ v l. and_from (assured stream_flow d p v) (assured stream_flow d q v) (code_more d p v l) (code_more d q v l) in
    let out : (v : ℕ) → live k x v ≡ true → d' v ≡ true = live_set k d' x first.3 next (λ v l. more v (leaves v l)) (λ v l. more v (skips v l)) in
    elim (or_cases (decided b u) (live p (behind (live k x) x) u || live q (behind (live k x) x) u) h) [
      | inl e ↦ branch_set d b u first.0 e
      | inr e ↦ elim (or_cases (live p (behind (live k x) x) u) (live q (behind (live k x) x) u) e) [
        | inl e ↦ live_set p d (behind (live k x) x) first.1 (λ v l. and_first (assured stream_flow d p v) (assured stream_flow d q v) (out v l)) leaves skips u e
        | inr e ↦ live_set q d (behind (live k x) x) first.2 (λ v l. and_second (assured stream_flow d p v) (assured stream_flow d q v) (out v l)) leaves skips u e
      ]
    ]
live_set (Loop m body step k) d x first next leaves skips u h =
    let out : (v : ℕ) → live k x v ≡ true → d v ≡ true = live_set k d x first.2 next leaves skips in
    let again : (v : ℕ) → live step (ways none (live k x) none) v ≡ true → d v ≡ true = live_set step d (ways none (live k x) none) first.1 (λ v e. absurd cc) out (λ v e. absurd cc) in
    live_set body d (ways (live step (ways none (live k x) none)) (live k x) (live step (ways none (live k x) none))) first.0 (λ v e. code_more d body v (again v e)) out again u h
