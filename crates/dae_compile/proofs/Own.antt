-- What is live in a stream of a scoped form are variables of its function.
use Rattle.std.proofs.Common.{◌≡◌, ◌⊎◌, inl, inr, ℕ, ◌+◌, ◌≤◌, ◌<◌, Bool, true, false, not, ◌&&◌, ◌||◌, List, [], ◌∷◌, ◌++◌, sym, subst, arith}
use Rattle.std.specs.Prelude.{Option, Some, None, nat_eq, nat_lt, nat_le}
use Rattle.std.specs.List.{AllByRecursion}
use Rattle.std.proofs.lemmas.Bool.Decides.{nat_tests}
use Rattle.std.proofs.lemmas.Bool.{or_cases, eqb-true}
use Rattle.dae_base.proofs.Laws.{and_true}
use Rattle.dae_ir.specs.Code.{Done, Do, If, Loop}
use Rattle.dae_ir.specs.Classes.{VariableSet, Classes}
use Rattle.dae_ir.specs.Form.{form_of}
use Rattle.dae_ir.specs.Scope.{IsIn, ValueIn, TestIn, FunctionIn, IsScoped}
use Rattle.dae_ir.specs.Streams.{Actions, actions_of, stream_of}
use Rattle.dae_ir.specs.Programs.{IsFunctionOf, AreFunctionsOf, IsStreamOf}
use Rattle.dae_ir.specs.declared.form.Ir.{Ir}
use Rattle.dae_ir.specs.declared.form.Function.{Function}
use Rattle.dae_ir.specs.declared.form.Operand.{Operand}
use Rattle.dae_ir.specs.declared.form.Operand.TheVariants.{Variable, Number}
use Rattle.dae_ir.specs.declared.form.Test.{Test}
use Rattle.dae_ir.specs.declared.form.Value.{Value}
use Rattle.dae_ir.specs.declared.form.Value.TheVariants.{Same, Extended, Binary, Holds, FrameAddress}
use Rattle.dae_ir.specs.declared.form.Check.{Check}
use Rattle.dae_ir.specs.declared.form.Check.TheVariants.{Place as Good, InBounds, Zero, Room, Frame, Abort}
use Rattle.dae_ir.specs.declared.stream.Argument.{Argument}
use Rattle.dae_ir.specs.declared.stream.Stream.{Stream}
use Rattle.dae_ir.specs.declared.stream.StreamFunction.{StreamFunction}
use Rattle.dae_ir.specs.declared.stream.Action.{Action}
use Rattle.dae_ir.specs.declared.stream.Action.TheVariants.{Set as Compute, Issue, Own, Receive, Address, Datum, Offer, Accept, Emit, Probe, Tell, Hear, Stop, Break, Continue, Call, Return}
use Rattle.dae_ir.specs.declared.stream.Branch.{Branch}
use Rattle.dae_ir.specs.declared.stream.Branch.TheVariants.{Silent, Tells, Hears}
use Rattle.dae_select_walks.specs.Live.{LiveWays, ways, behind, none, in_operand, in_option, in_test, in_value, in_check, in_arguments, reads, sets, is, decided, after, live, lives, turn, body_ways, step_ways, nowhere, parameters_of, function_lives}
use Rattle.dae_regalloc.specs.Seen.{AreBelow}
use Rattle.dae_link.specs.Settled.{HasAtMost}
use Rattle.dae_compile.proofs.Names.{ProbeIn, OptionIn, ResultIn, ArgumentsIn, ActionIn, BranchIn, AreIn, stream_in}

module _ (n : ℕ) where
  both_below : (s t : VariableSet) → AreBelow n s → AreBelow n t → AreBelow n (λ u. s u || t u)
  both_below s t h i u e = by (or_cases (s u) (t u) e)
    where
      by : (s u ≡ true) ⊎ (t u ≡ true) → u < n
      by (inl f) = h u f
      by (inr f) = i u f

  one_below : (v : ℕ) → v < n → AreBelow n (λ u. nat_eq u v)
  one_below v h u e = subst (λ (w : ℕ). w < n) (sym (eqb-true u v e)) h

  none_below : AreBelow n none
  none_below u e = absurd (let z : false ≡ true = e in cc)

  operand_below : (x : Operand) → IsIn n x → AreBelow n (in_operand x)
  operand_below (Variable v) h = one_below v h
  operand_below (Number k) h = none_below

  option_below : (x : Option Operand) → OptionIn n x → AreBelow n (in_option x)
  option_below None h = none_below
  option_below (Some x) h = operand_below x h

  test_below : (t : Test) → TestIn n t → AreBelow n (in_test t)
  test_below t h = both_below (in_operand t.left) (in_operand t.right) (operand_below t.left h.0) (operand_below t.right h.1)

  value_below : (x : Value) → ValueIn n x → AreBelow n (in_value x)
  value_below (Same x) h = operand_below x h
  value_below (Extended kind x) h = operand_below x h
  value_below (Binary operator x y) h = both_below (in_operand x) (in_operand y) (operand_below x h.0) (operand_below y h.1)
  value_below (Holds t) h = test_below t h
  value_below (FrameAddress offset) h = none_below

  check_below : (x : Check) → ProbeIn n x → AreBelow n (in_check x)
  check_below (Good width x) h = operand_below x h
  check_below (InBounds x offset) h = operand_below x h
  check_below (Zero x) h = operand_below x h
  check_below (Room f) h = none_below
  check_below Frame h = none_below
  check_below Abort h = none_below

  arguments_below : (xs : List Argument) → ArgumentsIn n xs → AreBelow n (in_arguments xs)
  arguments_below [] h = none_below
  arguments_below (x ∷ xs) h = both_below (in_operand x.operand) (in_arguments xs) (operand_below x.operand h.0) (arguments_below xs h.1)

  reads_below : (a : Action) → ActionIn n a → AreBelow n (reads a)
  reads_below (Compute v x) h = value_below x h.1
  reads_below (Issue kind x) h = operand_below x h
  reads_below (Own v kind x) h = operand_below x h.1
  reads_below (Receive v) h = none_below
  reads_below (Address width x) h = operand_below x h
  reads_below (Datum x) h = operand_below x h
  reads_below (Offer v) h = one_below v h
  reads_below (Accept v) h = none_below
  reads_below (Emit spelling x) h = operand_below x h
  reads_below (Probe check) h = check_below check h
  reads_below (Tell x) h = operand_below x h
  reads_below (Hear only) h = none_below
  reads_below (Stop x) h = option_below x h
  reads_below Break h = none_below
  reads_below Continue h = none_below
  reads_below (Call v f xs) h = arguments_below xs h.1
  reads_below (Return x) h = option_below x h

  result_below : (v : Option ℕ) → ResultIn n v → AreBelow n (is v)
  result_below None h = none_below
  result_below (Some v) h = one_below v h

  sets_below : (a : Action) → ActionIn n a → AreBelow n (sets a)
  sets_below (Compute v x) h = one_below v h.0
  sets_below (Issue kind x) h = none_below
  sets_below (Own v kind x) h = one_below v h.0
  sets_below (Receive v) h = one_below v h
  sets_below (Address width x) h = none_below
  sets_below (Datum x) h = none_below
  sets_below (Offer v) h = none_below
  sets_below (Accept v) h = one_below v h
  sets_below (Emit spelling x) h = none_below
  sets_below (Probe check) h = none_below
  sets_below (Tell x) h = none_below
  sets_below (Hear only) h = none_below
  sets_below (Stop x) h = none_below
  sets_below Break h = none_below
  sets_below Continue h = none_below
  sets_below (Call v f xs) h = result_below v h.0
  sets_below (Return x) h = none_below

  decided_below : (b : Branch) → BranchIn n b → AreBelow n (decided b)
  decided_below (Silent t) h = test_below t h
  decided_below (Tells t) h = test_below t h
  decided_below Hears h = none_below

  -- ---- what is live

  record WaysBelow (x : LiveWays) : Type 0 where
    next : AreBelow n x.next
    leaves : AreBelow n x.leaves
    skips : AreBelow n x.skips

  after_below : (a : Action) (k : VariableSet) (x : LiveWays) → AreBelow n k → WaysBelow x → AreBelow n (after a k x)
  after_below (Compute v y) k x h w = h
  after_below (Issue kind y) k x h w = h
  after_below (Own v kind y) k x h w = h
  after_below (Receive v) k x h w = h
  after_below (Address width y) k x h w = h
  after_below (Datum y) k x h w = h
  after_below (Offer v) k x h w = h
  after_below (Accept v) k x h w = h
  after_below (Emit spelling y) k x h w = h
  after_below (Probe check) k x h w = h
  after_below (Tell y) k x h w = h
  after_below (Hear only) k x h w = h
  after_below (Stop y) k x h w = none_below
  after_below Break k x h w = w.leaves
  after_below Continue k x h w = w.skips
  after_below (Call v f xs) k x h w = h
  after_below (Return y) k x h w = none_below

  without_below : (s t : VariableSet) → AreBelow n s → AreBelow n (λ u. s u && not (t u))
  without_below s t h u e = h u (and_true (s u) (not (t u)) e).0

  ways_below : (next leaves skips : VariableSet) → AreBelow n next → AreBelow n leaves → AreBelow n skips → WaysBelow (ways next leaves skips)
  ways_below next leaves skips h i j = record { next = h; leaves = i; skips = j }

  live_below : (code : Actions) (x : LiveWays) → AreIn n code → WaysBelow x → AreBelow n (live code x)
  live_below Done x h w = w.next
  live_below (Do m a k) x h w =
      let k' = live_below k x h.1 w in
      both_below (reads a) (λ u. after a (live k x) x u && not (sets a u)) (reads_below a h.0) (without_below (after a (live k x) x) (sets a) (after_below a (live k x) x k' w))
  live_below (If m b p q k) x h w =
      let k' = live_below k x h.3 w in
      let further = ways_below (live k x) x.leaves x.skips k' w.leaves w.skips in
      both_below (decided b) (λ u. live p (behind (live k x) x) u || live q (behind (live k x) x) u) (decided_below b h.0)
      (both_below (live p (behind (live k x) x)) (live q (behind (live k x) x)) (live_below p (behind (live k x) x) h.1 further) (live_below q (behind (live k x) x) h.2 further))
  live_below (Loop m body step k) x h w =
      let k' = live_below k x h.2 w in
      let once = live_below step (ways none (live k x) none) h.1 (ways_below none (live k x) none none_below k' none_below) in
      live_below body (ways (live step (ways none (live k x) none)) (live k x) (live step (ways none (live k x) none))) h.0
      (ways_below (live step (ways none (live k x) none)) (live k x) (live step (ways none (live k x) none)) once k' once)

  turn_below : (body step : Actions) (l : VariableSet) → AreIn n body → AreIn n step → AreBelow n l → AreBelow n (turn body step l)
  turn_below body step l h i k =
      let once = live_below step (ways none l none) i (ways_below none l none none_below k none_below) in
      live_below body (ways (live step (ways none l none)) l (live step (ways none l none))) h
      (ways_below (live step (ways none l none)) l (live step (ways none l none)) once k once)

  all_append : (ps qs : List VariableSet) → AllByRecursion (AreBelow n) ps → AllByRecursion (AreBelow n) qs → AllByRecursion (AreBelow n) (ps ++ qs)
  all_append [] qs h i = i
  all_append (p ∷ ps) qs h i = (h.0, all_append ps qs h.1 i)

  lives_below : (code : Actions) (x : LiveWays) → AreIn n code → WaysBelow x → AllByRecursion (AreBelow n) (lives code x)
  lives_below Done x h w = tt
  lives_below (Do m a k) x h w = (both_below (live (Do m a k) x) (sets a) (live_below (Do m a k) x h w) (sets_below a h.0), lives_below k x h.1 w)
  lives_below (If m b p q k) x h w =
      let k' = live_below k x h.3 w in
      let further = ways_below (live k x) x.leaves x.skips k' w.leaves w.skips in
      (live_below (If m b p q k) x h w, all_append (lives p (behind (live k x) x)) _ (lives_below p (behind (live k x) x) h.1 further) (all_append (lives q (behind (live k x) x)) _ (lives_below q (behind (live k x) x) h.2 further) (lives_below k x h.3 w)))
  lives_below (Loop m body step k) x h w =
      let l = live k x in
      let k' = live_below k x h.2 w in
      let around = turn_below body step l h.0 h.1 k' in
      let steps = ways_below (turn body step l) l (turn body step l) around k' around in
      let again = live_below step (step_ways body step l) h.1 steps in
      let bodies = ways_below (live step (step_ways body step l)) l (live step (step_ways body step l)) again k' again in
      (live_below (Loop m body step k) x h w, all_append (lives body (body_ways body step l)) _ (lives_below body (body_ways body step l) h.0 bodies) (all_append (lives step (step_ways body step l)) _ (lives_below step (step_ways body step l) h.1 steps) (lives_below k x h.2 w)))

  parameters_below : (count : ℕ) → count < n → AreBelow n (parameters_of count)
  parameters_below count h u e =
      let le : u ≤ count = (let t = (and_true (nat_lt 0 u) (nat_le u count) e).1 in grind (arith, nat_tests)) in
      omega (arith, h, le)

  pub function_below : (count : ℕ) (code : Actions) → count < n → AreIn n code → AllByRecursion (AreBelow n) (function_lives count code)
  function_below count code h i =
      let w = ways_below none none none none_below none_below none_below in
      (both_below (live code nowhere) (parameters_of count) (live_below code nowhere i w) (parameters_below count h), lives_below code nowhere i w)

-- ---- streams

own_lives : (functions : List Function) (by_a : Bool) (of : ℕ → Classes) (c : Classes) (cap : ℕ) (f : Function) (g : StreamFunction) → FunctionIn functions f → IsFunctionOf by_a of c cap f g → AllByRecursion (AreBelow g.variables) (function_lives g.parameters (actions_of g.body))
own_lives functions by_a of c cap f g h is =
    let whole = function_below f.variables f.parameters (stream_of by_a of c cap (form_of f.body)) h.parameters (stream_in f.variables functions of c cap by_a (form_of f.body) h.names) in
    subst (λ (v : ℕ). AllByRecursion (AreBelow v) (function_lives g.parameters (actions_of g.body))) (sym is.variables)
    (subst (λ (k : ℕ). AllByRecursion (AreBelow f.variables) (function_lives k (actions_of g.body))) (sym is.parameters)
    (subst (λ (code : Actions). AllByRecursion (AreBelow f.variables) (function_lives f.parameters code)) (sym is.body) whole))

module _ (m : ℕ) (functions : List Function) (by_a : Bool) (of : ℕ → Classes) (cap : ℕ) where
  all_at_most : (k : ℕ) (fs : List Function) (gs : List StreamFunction) → AllByRecursion (FunctionIn functions) fs → AllByRecursion (λ (f : Function). f.variables ≤ m) fs → AreFunctionsOf by_a of cap k fs gs → AllByRecursion (HasAtMost m) gs
  all_at_most k [] [] h few is = tt
  all_at_most k [] (g ∷ gs) h few is = absurd is
  all_at_most k (f ∷ fs) [] h few is = absurd is
  all_at_most k (f ∷ fs) (g ∷ gs) h few is =
      (record { own = own_lives functions by_a of (of k) cap f g h.0 is.0; few = subst (λ (v : ℕ). v ≤ m) (sym is.0.variables) few.0 }, all_at_most (k + 1) fs gs h.1 few.1 is.1)

-- a stream of a scoped form, in which no function has more than m variables
pub stream_at_most : (m : ℕ) (ir : Ir) (by_a : Bool) (of : ℕ → Classes) (cap : ℕ) (s : Stream) → IsScoped ir → AllByRecursion (λ (f : Function). f.variables ≤ m) ir.functions → IsStreamOf by_a of cap ir s → AllByRecursion (HasAtMost m) s.functions
stream_at_most m ir by_a of cap s scoped few is = all_at_most m ir.functions by_a of cap 0 ir.functions s.functions scoped.functions few is.functions
