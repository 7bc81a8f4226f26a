-- How long the code of actions is at most.
use Rattle.std.proofs.Common.{◌≡◌, [], ℕ, ◌+◌, ◌*◌, ◌≤◌, Bool, true, false, ◌||◌, List, ◌++◌, length, refl, arith, length-append}
use Rattle.std.specs.Prelude.{Option, not, ◌&&◌, if◌then◌else◌}
use Rattle.dae_encode.specs.declared.Inst.{Inst}
use Rattle.dae_ir.specs.Code.{Done, Do, If, Loop}
use Rattle.dae_ir.specs.Classes.{VariableSet}
use Rattle.dae_ir.specs.Sizes.{action_weight}
use Rattle.dae_ir.specs.Streams.{Actions}
use Rattle.dae_ir.specs.declared.form.Value.{Value}
use Rattle.dae_ir.specs.declared.stream.Argument.{Argument}
use Rattle.dae_ir.specs.declared.stream.Action.{Action}
use Rattle.dae_ir.specs.declared.form.Check.TheVariants.{Place}
use Rattle.dae_ir.specs.declared.stream.Action.TheVariants.{Set as Compute, Issue, Own, Receive, Address, Datum, Offer, Accept, Emit, Probe, Tell, Hear, Stop, Break, Continue, Call, Return}
use Rattle.dae_select_walks.specs.declared.VariableStanding.{VariableStanding}
use Rattle.dae_select_walks.specs.declared.VariableStanding.TheVariants.{Settled, Early, Late}
use Rattle.dae_select_walks.specs.Live.{LiveWays, none, behind, live, is, step_ways, body_ways}
use Rattle.dae_select_walks.specs.Facts.{Facts, facts_behind, facts_in_first, facts_in_second, facts_past_if, facts_at_turn, facts_at_step, facts_past_loop, need_of}
use Rattle.dae_select_walks.specs.declared.Need.{Need}
use Rattle.dae_select_walks.specs.declared.Need.TheVariants.{All, Ends, Nothing}
use Rattle.dae_select_walks.specs.Agrees.{Plan}
use Rattle.dae_select_blocks.specs.Blocks.{arguments_code, save_code, restore_code, deeper_code, back_code, result_code, enter_code, jump_words, jump_over, enter_words, parameters_code}
use Rattle.dae_select_blocks.specs.Code.{registers_in, action_code, call_code, does_nothing, standing_behind, late_code, placed_code, needed_code, block_code, code_of, tail_of, loop_code, bottom_code, bottom_test, has_bottom, leaves_first, is_near, is_dead, unspared}
use Rattle.dae_select_blocks.specs.Sizes.{one_call, most_words_in}
use Rattle.dae_select_blocks.proofs.Simple.{IsSimple}
use Rattle.dae_select_blocks.proofs.Pairs.{by_pairs}
use Rattle.dae_select_blocks.proofs.Lengths.{simple_short, early_short, branch_short, back_branch_short, over_short, back_short, past_short, placed_short, prepared_short, resumed_short, leave_short, enter_long, enter_few, late_short}

pub append_short : (xs ys : List Inst) (m n : ℕ) → length xs ≤ m → length ys ≤ n → length (xs ++ ys) ≤ m + n
append_short xs ys m n h k = let l = length-append xs ys in omega arith

and_left : (b c : Bool) → (b && c) ≡ true → b ≡ true
and_left true c e = refl
and_left false c e = absurd cc

either_length : (c : Bool) (xs ys : List Inst) (n : ℕ) → (c ≡ true → length xs ≤ n) → length ys ≤ n → length (if c then xs else ys) ≤ n
either_length true xs ys n h k = h refl
either_length false xs ys n h k = k

module _ (short : Bool) (plan : Plan) (variables : ℕ → ℕ) (f : ℕ) where
  call_length : (v : Option ℕ) (g : ℕ) (xs : List Argument) (k : VariableSet) → length (call_code plan variables f v g xs k) ≤ 56 + 6 * length xs
  call_length v g xs k =
      let rs = registers_in (plan.home f) (variables f) (unspared plan f g k) in
      let A = arguments_code plan f g xs in let B = save_code rs in let D = deeper_code plan f g in let E = enter_code plan.near (plan.entry g) in
      let R = back_code plan f g ++ (restore_code rs ++ result_code (plan.home f) v) in
      let before' = prepared_short plan variables f g xs (unspared plan f g k) in
      let after' = resumed_short plan variables f g v (unspared plan f g k) in
      let P = parameters_code plan f g xs in
      let one = length-append A (B ++ (P ++ (D ++ (E ++ R)))) in
      let two = length-append B (P ++ (D ++ (E ++ R))) in
      let three = length-append P (D ++ (E ++ R)) in
      let four = length-append D (E ++ R) in
      let five = length-append E R in
      let six = length-append A (B ++ (P ++ D)) in
      let seven = length-append B (P ++ D) in
      let eight = length-append P D in
      let enters : length E ≡ enter_words plan.near = enter_long plan.near (plan.entry g) in
      let few = enter_few plan.near in
      omega arith

  simple : (a : Action) (k : VariableSet) (l s : ℕ) → IsSimple a → 14 ≤ 14 * action_weight a → length (action_code plan variables f a k (jump_over short l) (jump_over short s)) ≤ 14 * action_weight a + 42 * one_call a
  simple a k l s is w = let h = simple_short plan variables f a k (jump_over short l) (jump_over short s) is in omega arith

  action_length : (a : Action) (k : VariableSet) (l s : ℕ) → length (action_code plan variables f a k (jump_over short l) (jump_over short s)) ≤ 14 * action_weight a + 42 * one_call a
  action_length (Compute v x) k l s = simple (Compute v x) k l s tt (omega arith)
  action_length (Issue kind x) k l s = simple (Issue kind x) k l s tt (omega arith)
  action_length (Own v kind x) k l s = simple (Own v kind x) k l s tt (omega arith)
  action_length (Receive v) k l s = simple (Receive v) k l s tt (omega arith)
  action_length (Address width x) k l s = simple (Address width x) k l s tt (omega arith)
  action_length (Datum x) k l s = simple (Datum x) k l s tt (omega arith)
  action_length (Offer v) k l s = simple (Offer v) k l s tt (omega arith)
  action_length (Accept v) k l s = simple (Accept v) k l s tt (omega arith)
  action_length (Emit spelling x) k l s = simple (Emit spelling x) k l s tt (omega arith)
  action_length (Probe check) k l s = simple (Probe check) k l s tt (omega arith)
  action_length (Tell x) k l s = simple (Tell x) k l s tt (omega arith)
  action_length (Hear only) k l s = simple (Hear only) k l s tt (omega arith)
  action_length (Stop x) k l s = simple (Stop x) k l s tt (omega arith)
  action_length Break k l s = let h = over_short short l in omega arith
  action_length Continue k l s = let h = over_short short s in omega arith
  action_length (Call v g xs) k l s = let h = call_length v g xs (λ u. k u && not (is v u)) in omega arith
  action_length (Return x) k l s = let h = leave_short plan.by_a (plan.leaf f) (plan.home f) x in omega arith

  -- a pair's block is no longer than one of its actions may be
  abbrev BlockFits : Facts → VariableStanding → LiveWays → ℕ → ℕ → Action → Actions → VariableStanding → Type 0
  BlockFits known standing x l s a k standing' = length (block_code plan variables f (need_of plan.memory known a k) standing a standing' (live k x) (jump_over short l) (jump_over short s)) ≤ 14 * action_weight a + 42 * one_call a

  late_length : (t : ℕ) (y : Value) (a : Action) → length (late_code (plan.home f) a y) ≤ 14 * action_weight a + 42 * one_call a
  late_length t y (Compute d z) = action_length (Compute d y) none 0 0
  late_length t y (Datum z) = let h = late_short (plan.home f) y (Datum z) in omega arith
  late_length t y (Issue kind z) = let h = late_short (plan.home f) y (Issue kind z) in omega arith
  late_length t y (Own v kind z) = let h = late_short (plan.home f) y (Own v kind z) in omega arith
  late_length t y (Address width z) = let h = late_short (plan.home f) y (Address width z) in omega arith
  late_length t y a = omega arith

  -- a test without that of the alignment is shorter than one with it
  placed_length : (a : Action) → length (placed_code (plan.home f) a) ≤ 14 * action_weight a + 42 * one_call a
  placed_length (Probe (Place width x)) = let h = placed_short (plan.home f) (Probe (Place width x)) in omega arith
  placed_length a = omega arith

  settled_length : (need : Need) (a : Action) (k : VariableSet) (l s : ℕ) → length (needed_code plan variables f need a k (jump_over short l) (jump_over short s)) ≤ 14 * action_weight a + 42 * one_call a
  settled_length Nothing a k l s = omega arith
  settled_length Ends a k l s = placed_length a
  settled_length All a k l s = action_length a k l s

  block_length : (known : Facts) (standing : VariableStanding) (x : LiveWays) (l s : ℕ) (a : Action) (k : Actions) → BlockFits known standing x l s a k (standing_behind a k x)
  block_length known (Early v y) x l s a k = omega arith
  block_length known (Late t y) x l s a k = late_length t y a
  block_length known Settled x l s a k =
      by_pairs (BlockFits known Settled x l s) x (λ a k. either_length (is_dead a (live k x)) [] (needed_code plan variables f (need_of plan.memory known a k) a (live k x) (jump_over short l) (jump_over short s)) _ (λ e. omega arith) (settled_length (need_of plan.memory known a k) a (live k x) l s)) (λ t y m b k e passes dead. omega arith)
      (λ v m d y k e once dead. (let h = early_short (plan.home f) 30 v d y in omega arith)) (λ v m d y k e once dead. (let h = early_short (plan.home f) 28 v d y in omega arith)) a k

  mutual
    pub code_length : (standing : VariableStanding) (known : Facts) (code : Actions) (x : LiveWays) (l s : ℕ) → length (code_of short plan variables f standing known code x l s) ≤ most_words_in code
    code_length standing known Done x l s = omega arith
    code_length standing known (Do m a k) x l s =
        let h : length (code_of short plan variables f standing known (Do m a k) x l s) ≤ (14 * action_weight a + 42 * one_call a) + most_words_in k
        = append_short _ _ _ _ (block_length known standing x _ _ a k) (code_length (standing_behind a k x) (facts_behind plan.memory a known) k x l s) in omega arith
    code_length standing known (If m b y n k) x l s =
        let h : length (code_of short plan variables f standing known (If m b y n k) x l s) ≤ 12 + (most_words_in y + (2 + (most_words_in n + most_words_in k)))
        = append_short _ _ 12 _ (branch_short (plan.home f) short b (does_nothing y) _) (append_short _ _ _ _ (code_length Settled (facts_in_first b known) y (behind (live k x) x) _ _)
        (append_short _ _ 2 _ (past_short short (does_nothing y || does_nothing n) _) (append_short _ _ _ _ (code_length Settled (facts_in_second b known) n (behind (live k x) x) _ _) (code_length Settled (facts_past_if b y n known) k x l s)))) in omega arith
    code_length standing known (Loop m body step k) x l s =
        let top : length (loop_code short (code_of short plan variables f Settled (facts_at_turn plan.memory body step known) body (body_ways body step (live k x))) (code_of short plan variables f Settled (facts_at_step plan.memory body step known) step (step_ways body step (live k x)) (jump_words short) 0) (code_of short plan variables f Settled (facts_past_loop body step known) k x l s)) ≤ most_words_in body + (most_words_in step + (2 + most_words_in k))
        = append_short _ _ _ _ (code_length Settled (facts_at_turn plan.memory body step known) body (body_ways body step (live k x)) _ _) (append_short _ _ _ _ (code_length Settled (facts_at_step plan.memory body step known) step (step_ways body step (live k x)) (jump_words short) 0)
        (append_short _ _ 2 _ (back_short short _) (code_length Settled (facts_past_loop body step known) k x l s))) in
        let bottom : (leaves_first body ≡ true → length (bottom_code short (tail_of short plan variables f (facts_at_turn plan.memory body step known) body (body_ways body step (live k x))) (code_of short plan variables f Settled (facts_at_step plan.memory body step known) step (step_ways body step (live k x))) (bottom_test (plan.home f) body) (code_of short plan variables f Settled (facts_past_loop body step known) k x l s)) ≤ 2 + (most_words_in body + (most_words_in step + (12 + most_words_in k))))
        = λ is. append_short _ _ 2 _ (over_short short _) (append_short _ _ _ _ (tail_length (facts_at_turn plan.memory body step known) body (body_ways body step (live k x)) _ _) (append_short _ _ _ _ (code_length Settled (facts_at_step plan.memory body step known) step (step_ways body step (live k x)) _ 0)
        (append_short _ _ 12 _ (bottom_short body is _) (code_length Settled (facts_past_loop body step known) k x l s)))) in
        either_length (has_bottom body step) _ _ _ (λ e. (let h = bottom (and_left (leaves_first body) (is_near body step) e) in omega arith)) (omega arith)

    bottom_short : (code : Actions) → leaves_first code ≡ true → (n : ℕ) → length (bottom_test (plan.home f) code n) ≤ 12
    bottom_short (If m b p q k) is n = back_branch_short (plan.home f) b true n
    bottom_short Done is n = omega arith
    bottom_short (Do m a k) is n = omega arith
    bottom_short (Loop m body step k) is n = omega arith

    pub tail_length : (known : Facts) (code : Actions) (x : LiveWays) (l s : ℕ) → length (tail_of short plan variables f known code x l s) ≤ most_words_in code
    tail_length known (If m b p q k) x l s = let h = code_length Settled (facts_past_if b p q known) k x l s in omega arith
    tail_length known Done x l s = omega arith
    tail_length known (Do m a k) x l s = omega arith
    tail_length known (Loop m body step k) x l s = omega arith
