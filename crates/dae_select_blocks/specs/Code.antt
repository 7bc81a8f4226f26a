-- The code of structured actions. Every jump is told by the lengths of what it leads over, so no labels are needed: the
-- code of a list stands anywhere, and depends only on the words at which functions are entered.
use Rattle.std.specs.Prelude.{ℕ, zero, suc, ◌+◌, ◌-◌, Bool, true, false, not, ◌&&◌, ◌||◌, nat_eq, nat_lt, List, [], ◌∷◌, ◌++◌, length, Option, Some, pos, if◌then◌else◌, None}
use Rattle.dae_encode.specs.declared.Inst.{Inst}
use Rattle.dae_encode.specs.declared.Inst.TheVariants.{Addi, Ecall}
use Rattle.dae_ir.specs.Code.{Done, Do, If, Loop}
use Rattle.dae_ir.specs.Classes.{VariableSet}
use Rattle.dae_ir.specs.Streams.{Actions}
use Rattle.dae_ir.specs.declared.form.Operand.TheVariants.{Variable, Number}
use Rattle.dae_ir.specs.declared.form.Value.{Value}
use Rattle.dae_ir.specs.declared.form.Value.TheVariants.{Same, Binary, Extended, Holds, FrameAddress}
use Rattle.dae_ir.specs.declared.form.Test.{Test}
use Rattle.dae_ir.specs.declared.form.Check.TheVariants.{Place}
use Rattle.dae_ir.specs.declared.stream.Argument.{Argument}
use Rattle.dae_ir.specs.declared.stream.Action.{Action}
use Rattle.dae_ir.specs.declared.stream.Action.TheVariants.{Set as Compute, Issue, Own, Receive, Address, Datum, Offer, Accept, Emit, Probe, Tell, Hear, Stop, Break, Continue, Call, Return}
use Rattle.dae_ir.specs.declared.stream.Branch.{Branch}
use Rattle.dae_ir.specs.declared.stream.Branch.TheVariants.{Silent, Tells, Hears}
use Rattle.dae_meaning.specs.declared.Operator.TheVariants.{Add as Plus}
use Rattle.dae_meaning.specs.declared.Comparison.{Comparison}
use Rattle.dae_meaning.specs.declared.Comparison.TheVariants.{NotEqual}
use Rattle.dae_select_walks.specs.declared.Home.{Home}
use Rattle.dae_select_walks.specs.declared.Home.TheVariants.{Register, Slot}
use Rattle.dae_select_walks.specs.Live.{LiveWays, in_operand, behind, live, is, nowhere, step_ways, body_ways}
use Rattle.dae_select_walks.specs.Facts.{Facts, unknown, only_leaves, facts_behind, facts_in_first, facts_in_second, facts_past_if, facts_at_turn, facts_at_step, facts_past_loop, need_of}
use Rattle.dae_select_walks.specs.declared.Need.{Need}
use Rattle.dae_select_walks.specs.declared.Need.TheVariants.{All, Ends, Nothing}
use Rattle.dae_select_walks.specs.Agrees.{Plan}
use Rattle.dae_select_walks.specs.Compiled.{is_told}
use Rattle.dae_select_walks.specs.declared.VariableStanding.{VariableStanding}
use Rattle.dae_select_walks.specs.declared.VariableStanding.TheVariants.{Settled, Early, Late}
use Rattle.dae_select_blocks.specs.Blocks.{number_code, register_or, source, fetch, keep, value_code, issue_code, address_code, take_code, own_code, move_code, call_number, system_code, hear_code, stop_code, check_code, bounds_code, residents_code, test_code, jump_over, jump_back, enter_code, goes_back, arguments_code, parameters_code, is_register, save_code, restore_code, deeper_code, back_code, result_code, prologue_code, leave_code, jump_words, one_way, goes_code, tell_number_code, against_zero, immediate_of, is_immediate, reach_code}
use Rattle.dae_select_blocks.specs.Sizes.{most_words_in, is_short}

-- ---- the registers that a call keeps

-- some variable below n is one of these
abbrev pub some_below : ℕ → (ℕ → Bool) → Bool
some_below zero f = false
some_below (suc n) f = f n || some_below n f

abbrev pub filtered : (ℕ → Bool) → List ℕ → List ℕ
filtered f [] = []
filtered f (r ∷ rs) = if f r then r ∷ filtered f rs else filtered f rs

abbrev pub home_registers : List ℕ
home_registers = 8 ∷ (9 ∷ (11 ∷ (12 ∷ (13 ∷ (14 ∷ (15 ∷ (16 ∷ (18 ∷ (19 ∷ (20 ∷ (21 ∷ (22 ∷ (23 ∷ (24 ∷ (25 ∷ (26 ∷ (27 ∷ [])))))))))))))))))

-- those in which a variable of the set is
unfoldable pub registers_in : (ℕ → Home) → ℕ → VariableSet → List ℕ
registers_in home variables live = filtered (λ r. some_below variables (λ v. live v && is_register r (home v))) home_registers

-- what of a set a call of the function g might change
abbrev pub is_spared : (ℕ → Bool) → Home → Bool
is_spared spared (Register r) = spared r
is_spared spared (Slot i) = false

abbrev pub unspared : Plan → ℕ → ℕ → VariableSet → VariableSet
unspared plan f g live v = live v && not (is_spared (plan.spares g) (plan.home f v))

-- ---- actions

abbrev pub call_code : Plan → (ℕ → ℕ) → ℕ → Option ℕ → ℕ → List Argument → VariableSet → List Inst
call_code plan variables f v g xs live =
    arguments_code plan f g xs ++ (save_code (registers_in (plan.home f) (variables f) (unspared plan f g live)) ++ (parameters_code plan f g xs
    ++ (deeper_code plan f g ++ (enter_code plan.near (plan.entry g)
    ++ (back_code plan f g ++ (restore_code (registers_in (plan.home f) (variables f) (unspared plan f g live)) ++ result_code (plan.home f) v))))))

-- the block of an action in the function f, behind which these variables are live, with the jumps to where a Break goes and a
-- Continue
abbrev pub action_code : Plan → (ℕ → ℕ) → ℕ → Action → VariableSet → List Inst → List Inst → List Inst
action_code plan variables f (Compute v x) live leaves skips = value_code (plan.home f) (register_or 5 (plan.home f v)) x ++ keep (plan.home f v)
action_code plan variables f (Issue kind x) live leaves skips = fetch (plan.home f) 5 x ++ issue_code kind 30 (source (plan.home f) 5 x) (pos 0) ∷ []
action_code plan variables f (Own v kind x) live leaves skips = own_code (plan.home f) v kind x
action_code plan variables f (Receive v) live leaves skips = take_code 30 (plan.home f v)
action_code plan variables f (Address width x) live leaves skips = fetch (plan.home f) 5 x ++ address_code width (source (plan.home f) 5 x) (pos 0) ∷ []
action_code plan variables f (Datum x) live leaves skips = move_code (plan.home f) 30 x
action_code plan variables f (Offer v) live leaves skips = move_code (plan.home f) 28 (Variable v)
action_code plan variables f (Accept v) live leaves skips = take_code 28 (plan.home f v)
action_code plan variables f (Emit spelling x) live leaves skips = system_code (plan.home f) (call_number spelling) x
action_code plan variables f (Probe check) live leaves skips = check_code plan f check
action_code plan variables f (Tell x) live leaves skips = move_code (plan.home f) 29 x
action_code plan variables f (Hear only) live leaves skips = hear_code plan.by_a only
action_code plan variables f (Stop x) live leaves skips = stop_code plan.by_a (plan.home f) x
action_code plan variables f Break live leaves skips = leaves
action_code plan variables f Continue live leaves skips = skips
action_code plan variables f (Call v g xs) live leaves skips = call_code plan variables f v g xs (λ u. live u && not (is v u))
action_code plan variables f (Return x) live leaves skips = leave_code plan.by_a (plan.leaf f) (plan.home f) x

-- a test is told, and a branch follows: on its operands, which are still in their registers, or else on x7
abbrev pub told_by : Option ℕ → (ℕ → Home) → (Comparison → ℕ → ℕ → List Inst) → Test → Bool → List Inst
told_by None home go t way = test_code home 29 t ++ go (one_way way t.comparison) (source home 5 t.left) (source home 6 t.right)
told_by (Some k) home go t way =
    fetch home 5 t.left ++ (tell_number_code t.comparison (source home 5 t.left) k ++ go (one_way way (against_zero t.comparison)) 7 0)

-- the code of a branch, by what goes on elsewhere where two registers compare so
abbrev pub branch_by : (ℕ → Home) → (Comparison → ℕ → ℕ → List Inst) → Branch → Bool → List Inst
branch_by home go (Silent t) way =
    fetch home 5 t.left ++ (fetch home 6 t.right ++ go (one_way way t.comparison) (source home 5 t.left) (source home 6 t.right))
branch_by home go (Tells t) way = told_by (immediate_of home t.comparison t.right) home go t way
branch_by home go Hears way = go (one_way way NotEqual) 29 0

-- ahead by n words
abbrev pub ahead_by : Bool → ℕ → Comparison → ℕ → ℕ → List Inst
ahead_by short n relation x y = goes_code short relation x y n

-- the code of a branch goes on n words ahead of its end where its test holds, or where a number other than 0 is heard (way is
-- true), or just where not (way is false). Else it goes on behind its end
abbrev pub branch_code : (ℕ → Home) → Bool → Branch → Bool → ℕ → List Inst
branch_code home short b way n = branch_by home (ahead_by short n) b way

-- the words of the code of a branch back, but for the branch itself
abbrev pub before_branch : (ℕ → Home) → Branch → Bool → ℕ
before_branch home b way = length (branch_by home (λ relation x y. []) b way)

-- the code of a branch goes back to what stands n words before it
abbrev pub back_branch : (ℕ → Home) → Branch → Bool → ℕ → List Inst
back_branch home b way n = branch_by home (goes_back (n + before_branch home b way)) b way

-- ---- peephole: two adjacent actions by one block

-- one of the two, and not both
abbrev pub either_one : Bool → Bool → Bool
either_one true other = not other
either_one false other = other

-- only the last instruction of the value's code writes the register that it goes into, so that may stand for a queue
abbrev pub written_last : Value → Bool
written_last (Same x) = true
written_last (Extended kind x) = false
written_last (Binary operator x y) = true
written_last (Holds test) = false
written_last (FrameAddress offset) = true

-- the sum of a variable and a number that an access can add to it
abbrev pub is_offset_sum : Value → Bool
is_offset_sum (Binary Plus (Variable v) (Number n)) = is_immediate n
is_offset_sum x = false

-- the action only moves the variable, which has this value, to where the value can be computed, or accesses memory there and can add
-- the value up itself
abbrev pub passes_on : ℕ → Value → Action → Bool
passes_on t x (Compute s (Same (Variable u))) = nat_eq u t
passes_on t x (Datum (Variable u)) = nat_eq u t && written_last x
passes_on t x (Issue kind (Variable u)) = nat_eq u t && is_offset_sum x
passes_on t x (Own v kind (Variable u)) = nat_eq u t && is_offset_sum x
passes_on t x (Address width (Variable u)) = nat_eq u t && is_offset_sum x
passes_on t x action = false

-- the value reads the variable just once
abbrev pub reads_once : ℕ → Value → Bool
reads_once v (Same x) = in_operand x v
reads_once v (Extended kind x) = in_operand x v
reads_once v (Binary operator x y) = either_one (in_operand x v) (in_operand y v)
reads_once v (Holds test) = either_one (in_operand test.left v) (in_operand test.right v)
reads_once v (FrameAddress offset) = false

-- a word that the next action alone reads, once, is not kept: that action is done with the word from the queue
abbrev pub taken_standing : ℕ → Action → VariableSet → VariableStanding
taken_standing v (Compute d x) live = if reads_once v x && (nat_eq v d || not (live v)) then Early d x else Settled
taken_standing v action live = Settled

-- how things stand between an action and the next one, behind which these variables are live. A variable that is set only to
-- be moved on is not set at all: its value is computed where the next action puts it
abbrev pub pair_standing : Action → Action → VariableSet → VariableStanding
pair_standing (Compute t x) b live = if passes_on t x b && not (live t) then Late t x else Settled
pair_standing (Receive v) b live = taken_standing v b live
pair_standing (Accept v) b live = taken_standing v b live
pair_standing a b live = Settled

abbrev pub if_settled : VariableStanding → VariableStanding → VariableStanding
if_settled Settled standing = standing
if_settled other standing = Settled

-- how things stand behind an action, before the rest of its list. Where the next action is in a pair with the one behind it,
-- this action is in none
abbrev pub standing_behind : Action → Actions → LiveWays → VariableStanding
standing_behind a (Do m b k) x = if_settled (standing_behind b k x) (pair_standing a b (live k x))
standing_behind a code x = Settled

-- the block of an action that moves a variable on, where this value is computed in its stead, or that accesses memory there
abbrev pub late_code : (ℕ → Home) → Action → Value → List Inst
late_code home (Compute s y) x = value_code home (register_or 5 (home s)) x ++ keep (home s)
late_code home (Datum y) x = value_code home 30 x
late_code home (Issue kind y) x = reach_code home x (issue_code kind 30) []
late_code home (Own v kind y) x = reach_code home x (issue_code kind 31) (take_code 31 (home v))
late_code home (Address width y) x = reach_code home x (address_code width) []
late_code home action x = []

-- the homes, but for this variable
abbrev pub with_home : ℕ → Home → (ℕ → Home) → ℕ → Home
with_home v place home u = if nat_eq u v then place else home u

-- a value of the front of a queue, which this variable stands for, goes home
abbrev pub early_code : (ℕ → Home) → ℕ → ℕ → ℕ → Value → List Inst
early_code home queue v d x = value_code (with_home v (Register queue) home) (register_or 5 (home d)) x ++ keep (home d)

-- the block of an action that takes a word, with which the next action is done: it computes this value
abbrev pub taking_code : (ℕ → Home) → Action → ℕ → Value → List Inst
taking_code home (Receive v) d x = early_code home 30 v d x
taking_code home (Accept v) d x = early_code home 28 v d x
taking_code home action d x = []

-- the test of a place whose address is a multiple of four
abbrev pub placed_code : (ℕ → Home) → Action → List Inst
placed_code home (Probe (Place width x)) = fetch home 5 x ++ bounds_code width (source home 5 x)
placed_code home a = []

-- the action only computes a variable that isn't live behind it
abbrev pub is_dead : Action → VariableSet → Bool
is_dead (Compute v x) live = not (live v)
is_dead action live = false

-- the block of an action alone, of which so much is needed
abbrev pub needed_code : Plan → (ℕ → ℕ) → ℕ → Need → Action → VariableSet → List Inst → List Inst → List Inst
needed_code plan variables f All a live leaves skips = action_code plan variables f a live leaves skips
needed_code plan variables f Ends a live leaves skips = placed_code (plan.home f) a
needed_code plan variables f Nothing a live leaves skips = []

-- the block of an action, where things stand so before it and so behind it, and so much of it is needed. What computes a variable that
-- isn't live has none
abbrev pub block_code : Plan → (ℕ → ℕ) → ℕ → Need → VariableStanding → Action → VariableStanding → VariableSet → List Inst → List Inst → List Inst
block_code plan variables f need (Late t x) a standing live leaves skips = late_code (plan.home f) a x
block_code plan variables f need (Early v x) a standing live leaves skips = []
block_code plan variables f need Settled a (Late t x) live leaves skips = []
block_code plan variables f need Settled a (Early d x) live leaves skips = taking_code (plan.home f) a d x
block_code plan variables f need Settled a Settled live leaves skips =
    if is_dead a live then [] else needed_code plan variables f need a live leaves skips

-- ---- structured code

abbrev pub followed : Bool → (List Inst → List Inst → List Inst) → List Inst → ℕ → ℕ → List Inst
followed short code rest leaves skips = code (jump_over short (length rest + leaves)) (jump_over short (length rest + skips)) ++ rest

abbrev pub does_nothing : Actions → Bool
does_nothing Done = true
does_nothing code = false

-- behind a first list a jump leads over the second one, where neither is empty
abbrev pub past_code : Bool → Bool → ℕ → List Inst
past_code short true n = []
past_code short false n = jump_over short n

-- the branch leads to the second list, over the first one; where the first one is empty (none is true), over the second one
abbrev pub either_code : Bool → (Bool → ℕ → List Inst) → List Inst → List Inst → List Inst → List Inst → List Inst
either_code none branch first past second rest =
    branch none (if none then length second else length first + length past) ++ (first ++ (past ++ (second ++ rest)))

abbrev pub if_code : Bool → Bool → Bool → (Bool → ℕ → List Inst) → (ℕ → ℕ → List Inst) → (ℕ → ℕ → List Inst) → List Inst → ℕ → ℕ → List Inst
if_code short none none' branch p q rest leaves skips =
    let second = q (length rest + leaves) (length rest + skips) in
    let past = past_code short (none || none') (length second) in
    let far = length past + length second + length rest in
    either_code none branch (p (far + leaves) (far + skips)) past second rest

-- a body that begins with a test that is told, of which one list is empty and the other leaves the loop: it may stand behind the
-- step, where its access is the turn's instruction
abbrev pub leaves_first : Actions → Bool
leaves_first (If m b p q k) = is_told b && (does_nothing p && only_leaves q)
leaves_first code = false

-- a branch reaches back over such a loop in any case
abbrev pub is_near : Actions → Actions → Bool
is_near body step = nat_lt (most_words_in body + most_words_in step) 900

abbrev pub has_bottom : Actions → Actions → Bool
has_bottom body step = leaves_first body && is_near body step

-- the test that a list begins with, as a branch back to what stands n words before it
abbrev pub bottom_test : (ℕ → Home) → Actions → ℕ → List Inst
bottom_test home (If m b p q k) n = back_branch home b true n
bottom_test home code n = []

-- a loop whose test stands behind its step
abbrev pub bottom_code : Bool → (ℕ → ℕ → List Inst) → (ℕ → ℕ → List Inst) → (ℕ → List Inst) → List Inst → List Inst
bottom_code short tail step test rest =
    let again = step (length (test 0)) 0 in
    let turn = tail (length again + length (test 0)) 0 in
    let n = length turn + length again in
    jump_over short n ++ (turn ++ (again ++ (test n ++ rest)))

-- a Break in the body leads over the step and the jump back, and one in the step over the jump back
abbrev pub loop_code : Bool → (ℕ → ℕ → List Inst) → List Inst → List Inst → List Inst
loop_code short body step rest =
    let turn = body (length step + jump_words short) 0 in
    turn ++ (step ++ (jump_back short (length turn + length step) ++ rest))

-- short says whether jumps are to be; so things stand before the list, and this is known there. Before a branch or a loop things are
-- settled
abbrev mutual
  pub code_of : Bool → Plan → (ℕ → ℕ) → ℕ → VariableStanding → Facts → Actions → LiveWays → ℕ → ℕ → List Inst
  code_of short plan variables f standing known Done x leaves skips = []
  code_of short plan variables f standing known (Do m a k) x leaves skips =
      followed short (block_code plan variables f (need_of plan.memory known a k) standing a (standing_behind a k x) (live k x))
      (code_of short plan variables f (standing_behind a k x) (facts_behind plan.memory a known) k x leaves skips) leaves skips
  code_of short plan variables f standing known (If m b p q k) x leaves skips =
      if_code short (does_nothing p) (does_nothing q) (branch_code (plan.home f) short b)
      (code_of short plan variables f Settled (facts_in_first b known) p (behind (live k x) x)) (code_of short plan variables f Settled (facts_in_second b known) q (behind (live k x) x))
      (code_of short plan variables f Settled (facts_past_if b p q known) k x leaves skips) leaves skips
  code_of short plan variables f standing known (Loop m body step k) x leaves skips =
      if has_bottom body step then bottom_code short (tail_of short plan variables f (facts_at_turn plan.memory body step known) body (body_ways body step (live k x)))
      (code_of short plan variables f Settled (facts_at_step plan.memory body step known) step (step_ways body step (live k x)))
      (bottom_test (plan.home f) body)
      (code_of short plan variables f Settled (facts_past_loop body step known) k x leaves skips)
      else loop_code short (code_of short plan variables f Settled (facts_at_turn plan.memory body step known) body (body_ways body step (live k x)))
      (code_of short plan variables f Settled (facts_at_step plan.memory body step known) step (step_ways body step (live k x)) (jump_words short) 0)
      (code_of short plan variables f Settled (facts_past_loop body step known) k x leaves skips)

  -- the code behind the test that a list begins with
  pub tail_of : Bool → Plan → (ℕ → ℕ) → ℕ → Facts → Actions → LiveWays → ℕ → ℕ → List Inst
  tail_of short plan variables f known (If m b p q k) x leaves skips = code_of short plan variables f Settled (facts_past_if b p q known) k x leaves skips
  tail_of short plan variables f known code x leaves skips = []

-- ---- functions

-- a function keeps the address to return to and counts itself, unless it is a leaf. The parameters that it reads are in their homes
abbrev pub entry_code : Plan → ℕ → List Inst
entry_code plan f = prologue_code plan.by_a (plan.leaf f)

-- its actions return or halt, so nothing stands behind them
abbrev pub function_code : Plan → (ℕ → ℕ) → ℕ → Actions → List Inst
function_code plan variables f code =
    entry_code plan f ++ code_of (is_short code) plan variables f Settled unknown code nowhere 0 0

-- where main returns to: A halts, and E halts with the result
abbrev pub finish_code : Bool → List Inst
finish_code true = Ecall ∷ []
finish_code false = Addi 10 6 (pos 0) ∷ (Addi 17 0 (pos 0) ∷ (Ecall ∷ []))

-- the code that begins: where frames begin, the numbers that stay in registers, on A how many addresses common memory has, and
-- the call of main
abbrev pub start_code : Plan → ℕ → ℕ → List Inst
start_code plan main first =
    (number_code 3 first ++ (residents_code 27 plan.residents ++ (if plan.by_a then number_code 4 (plan.memory - 16) else [])))
    ++ enter_code plan.near (plan.entry main)
