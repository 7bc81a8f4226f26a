-- The code of a whole function, and the code that begins, have instructions whose fields their words can hold.
use Rattle.std.proofs.Common.{ℕ, ◌+◌, ◌-◌, ◌*◌, ◌%◌, ◌^◌, ◌<◌, ◌≤◌, ◌≡◌, Bool, true, false, ◌&&◌, List, [], ◌∷◌, ◌++◌, length, Option, arith, pos, ◌||◌}
use Rattle.std.specs.Prelude.{nat_eq, if◌then◌else◌}
use Rattle.std.specs.List.{AllByRecursion}
use Rattle.dae_base.specs.Words.{minus}
use Rattle.dae_encode.specs.Spelling.{InRange, layout}
use Rattle.dae_encode.specs.declared.Inst.{Inst}
use Rattle.dae_encode.specs.declared.Inst.TheVariants.{Addi, Add, Sub}
use Rattle.dae_ir.specs.Code.{Done, Do, If, Loop}
use Rattle.dae_ir.specs.Classes.{VariableSet}
use Rattle.dae_ir.specs.Streams.{Actions}
use Rattle.dae_ir.specs.declared.form.Operand.TheVariants.{Variable}
use Rattle.dae_ir.specs.declared.form.Value.{Value}
use Rattle.dae_ir.specs.declared.stream.Argument.{Argument}
use Rattle.dae_ir.specs.declared.stream.Action.{Action}
use Rattle.dae_ir.specs.declared.stream.Action.TheVariants.{Set as Compute, Issue, Own, Receive, Address, Datum, Offer, Accept, Emit, Probe, Tell, Hear, Stop, Break, Continue, Call, Return}
use Rattle.dae_meaning.specs.declared.Spelling.{Spelling}
use Rattle.dae_meaning.specs.declared.Spelling.TheVariants.{Byte, Signed, Unsigned, Hexadecimal}
use Rattle.dae_select_walks.specs.declared.Home.{Home}
use Rattle.dae_select_walks.specs.declared.Home.TheVariants.{Register, Slot}
use Rattle.dae_select_walks.specs.Homes.{IsHome, kept_at, slot_at}
use Rattle.dae_select_walks.specs.declared.VariableStanding.{VariableStanding}
use Rattle.dae_select_walks.specs.declared.VariableStanding.TheVariants.{Settled, Early, Late}
use Rattle.dae_select_walks.specs.Live.{LiveWays, none, live, behind, body_ways, step_ways, nowhere}
use Rattle.dae_select_walks.specs.Facts.{Facts, unknown, facts_behind, facts_in_first, facts_in_second, facts_past_if, facts_at_turn, facts_at_step, facts_past_loop, need_of}
use Rattle.dae_select_walks.specs.declared.Need.{Need}
use Rattle.dae_select_walks.specs.declared.Need.TheVariants.{All, Ends, Nothing}
use Rattle.dae_select_walks.specs.Agrees.{Plan}
use Rattle.dae_select_blocks.specs.Blocks.{lower, is_immediate, more_code, less_code, is_register, number_code, register_or, source, call_number, jump_over, jump_back, enter_code, arguments_code, save_code, restore_code, deeper_code, back_code, jump_words, residents_code, prologue_code, issue_code, address_code, take_code, fetch, load_code, store_code, is_overwritten, argument_to, copy_code, parameter_to, parameters_code}
use Rattle.dae_select_blocks.specs.Code.{some_below, filtered, home_registers, registers_in, call_code, action_code, branch_code, standing_behind, with_home, early_code, late_code, needed_code, block_code, code_of, entry_code, function_code, finish_code, start_code, does_nothing, past_code, tail_of, has_bottom, leaves_first, is_near, bottom_test, is_dead, unspared}
use Rattle.dae_select_blocks.proofs.Ranges.{AllFit, fit_append, fit_either, lui_fits, jalr_fits, addi_fits, addi_small, sw_small, add_fits, number_fits, load_fits, store_fits, register_fits, fetch_fits, move_fits, keep_fits, over_fits, back_fits}
use Rattle.dae_select_blocks.proofs.Fitting.{ecall_fits, no_offset, issue_fits, address_fits, reach_fits, source_fits, value_fit, value_fits, take_fits, branch_fits, back_branch_fits, system_fits, stop_fits, leave_fits, result_fits, hear_fits, placed_fits, check_fits}
use Rattle.dae_select_blocks.proofs.Agreement.{home_register}
use Rattle.dae_select_blocks.proofs.Pairs.{by_pairs}
use Rattle.std.proofs.lemmas.Bool.Decides.{nat_tests}
use Rattle.dae_select_blocks.specs.Sizes.{most_words_in, is_short}
use Rattle.dae_select_blocks.proofs.Sizes.{code_length, tail_length}
use Rattle.dae_select_blocks.proofs.Lengths.{before_short}

-- ---- registers of variables: none of them stands for a queue

abbrev pub AreBelowQueues : List ℕ → Type 0
AreBelowQueues rs = AllByRecursion (λ (r : ℕ). r < 28) rs

filtered_registers : (f : ℕ → Bool) (rs : List ℕ) → AreBelowQueues rs → AreBelowQueues (filtered f rs)
filtered_registers f [] h = tt
filtered_registers f (r ∷ rs) h = by (f r) (filtered_registers f rs h.1)
  where
    by : (b : Bool) → AreBelowQueues (filtered f rs) → AreBelowQueues (if b then r ∷ filtered f rs else filtered f rs)
    by true more = (h.0, more)
    by false more = more

all_registers : AreBelowQueues home_registers
all_registers = (omega arith, (omega arith, (omega arith, (omega arith, (omega arith, (omega arith, (omega arith, (omega arith, (omega arith, (omega arith, (omega arith, (omega arith, (omega arith, (omega arith, (omega arith, (omega arith, (omega arith, (omega arith, tt))))))))))))))))))

pub live_registers : (plan : Plan) (n f : ℕ) (live : VariableSet) → AreBelowQueues (registers_in (plan.home f) n live)
unfolding registers_in
live_registers plan n f live =
    filtered_registers (λ (r : ℕ). some_below n (λ v. live v && is_register r (plan.home f v))) home_registers all_registers

save_fits : (rs : List ℕ) → AreBelowQueues rs → AllFit (save_code rs)
save_fits [] h = tt
save_fits (r ∷ rs) h =
    let below : r < 28 = h.0 in
    fit_append _ _ (store_fits r (kept_at r) (omega arith)) (save_fits rs h.1)

restore_fits : (rs : List ℕ) → AreBelowQueues rs → AllFit (restore_code rs)
restore_fits [] h = tt
restore_fits (r ∷ rs) h =
    let below : r < 28 = h.0 in
    fit_append _ _ (load_fits r (kept_at r) (omega arith)) (restore_fits rs h.1)

sub_fits : (t x y : ℕ) → t < 32 → x < 32 → y < 32 → InRange (Sub t x y)
unfolding InRange layout
sub_fits t x y a b c = (a, b, c)

enter_fits : (near : Bool) (word : ℕ) → AllFit (enter_code near word)
enter_fits true word = (jalr_fits 1 0 (4 * word) (omega arith) (omega arith), tt)
enter_fits false word = (lui_fits 5 (4 * word) (omega arith), (jalr_fits 1 5 (4 * word) (omega arith) (omega arith), tt))

number_small : (spelling : Spelling) → call_number spelling < 2 ^ 11
number_small Byte = omega arith
number_small Signed = omega arith
number_small Unsigned = omega arith
number_small Hexadecimal = omega arith

near_is : (body step : Actions) (n : ℕ) → has_bottom body step ≡ true → n ≤ most_words_in body + most_words_in step → n ≤ 900
near_is body step n e l = by (leaves_first body) e where
  by : (c : Bool) → (c && is_near body step) ≡ true → n ≤ 900
  by true e = grind (arith, nat_tests)
  by false e = absurd cc

module _ (plan : Plan) (variables : ℕ → ℕ) (good : (f v : ℕ) → IsHome (variables f) (plan.home f v)) where
  arguments_fit : (f g : ℕ) (xs : List Argument) → AllFit (arguments_code plan f g xs)
  arguments_fit f g [] = tt
  arguments_fit f g (x ∷ xs) =
      fit_append _ _ (arguments_fit f g xs) (by (plan.home g x.parameter))
    where
      by : (home : Home) → AllFit (argument_to plan f g xs home x.operand)
      by (Register t) =
          let q : ℕ = source (plan.home f) 5 x.operand in
          fit_either (is_overwritten plan f g xs x.operand) (store_code q (kept_at q)) [] (λ e. store_fits q (kept_at q) (source_fits (variables f) (plan.home f) (good f) 5 x.operand (omega arith))) (λ e. tt)
      by (Slot i) =
          fit_append _ _ (fetch_fits (variables f) (plan.home f) 5 x.operand (omega arith))
          (store_fits (source (plan.home f) 5 x.operand) (plan.words f + slot_at i) (source_fits (variables f) (plan.home f) (good f) 5 x.operand (omega arith)))

  copy_fits : (t r : ℕ) → t < 32 → r < 32 → AllFit (copy_code t r)
  copy_fits t r a b = fit_either (nat_eq t r) [] (Addi t r (pos 0) ∷ []) (λ e. tt) (λ e. (addi_small t r 0 a b (omega arith), tt))

  parameters_fit : (f g : ℕ) (xs : List Argument) → AllFit (parameters_code plan f g xs)
  parameters_fit f g [] = tt
  parameters_fit f g (x ∷ xs) = fit_append _ _ (parameters_fit f g xs) (by (plan.home g x.parameter) (good g x.parameter))
    where
      by : (home : Home) → IsHome (variables g) home → AllFit (parameter_to plan f g xs home x.operand)
      by (Register t) is =
          let low = (home_register t is).1 in
          let q : ℕ = source (plan.home f) 5 x.operand in let r : ℕ = source (plan.home f) t x.operand in
          fit_either (is_overwritten plan f g xs x.operand) (load_code t (kept_at q)) (fetch (plan.home f) t x.operand ++ copy_code t r) (λ e. load_fits t (kept_at q) (omega arith))
          (λ e. fit_append _ _ (fetch_fits (variables f) (plan.home f) t x.operand (omega arith)) (copy_fits t r (omega arith) (source_fits (variables f) (plan.home f) (good f) t x.operand (omega arith))))
      by (Slot i) is = tt

  more_fits : (r n : ℕ) → r < 32 → AllFit (more_code r n)
  more_fits r n h =
      fit_either (nat_eq n 0) [] _ (λ e. tt) (λ e. fit_either (is_immediate n) (Addi r r (lower n) ∷ []) (number_code 5 n ++ Add r r 5 ∷ [])
      (λ e. (addi_fits r r n h h, tt)) (λ e. fit_append _ _ (number_fits 5 n (omega arith)) (add_fits r r 5 h h (omega arith), tt)))

  less_fits : (r n : ℕ) → r < 32 → AllFit (less_code r n)
  less_fits r n h =
      fit_either (nat_eq n 0) [] _ (λ e. tt) (λ e. fit_either (is_immediate (minus 0 n)) (Addi r r (lower (minus 0 n)) ∷ []) (number_code 5 n ++ Sub r r 5 ∷ [])
      (λ e. (addi_fits r r (minus 0 n) h h, tt)) (λ e. fit_append _ _ (number_fits 5 n (omega arith)) (sub_fits r r 5 h h (omega arith), tt)))

  deeper_fits : (f g : ℕ) → AllFit (deeper_code plan f g)
  deeper_fits f g =
      fit_append (more_code 3 (plan.frame f % 2 ^ 32)) (if plan.frameless g then [] else more_code 2 (4 * plan.words f)) (more_fits 3 (plan.frame f % 2 ^ 32) (omega arith))
      (fit_either (plan.frameless g) [] (more_code 2 (4 * plan.words f)) (λ e. tt) (λ e. more_fits 2 (4 * plan.words f) (omega arith)))

  returning_fits : (f g : ℕ) → AllFit (back_code plan f g)
  returning_fits f g =
      fit_append (less_code 3 (plan.frame f % 2 ^ 32)) (if plan.frameless g then [] else less_code 2 (4 * plan.words f)) (less_fits 3 (plan.frame f % 2 ^ 32) (omega arith))
      (fit_either (plan.frameless g) [] (less_code 2 (4 * plan.words f)) (λ e. tt) (λ e. less_fits 2 (4 * plan.words f) (omega arith)))

  call_fits : (f : ℕ) (v : Option ℕ) (g : ℕ) (xs : List Argument) (live : VariableSet) → AllFit (call_code plan variables f v g xs live)
  call_fits f v g xs live =
      let rs = live_registers plan (variables f) f (unspared plan f g live) in
      fit_append _ _ (arguments_fit f g xs) (fit_append _ _ (save_fits _ rs) (fit_append _ _ (parameters_fit f g xs) (fit_append (deeper_code plan f g) _ (deeper_fits f g) (fit_append (enter_code plan.near (plan.entry g)) _ (enter_fits plan.near (plan.entry g))
      (fit_append (back_code plan f g) _ (returning_fits f g) (fit_append _ _ (restore_fits _ rs) (result_fits (variables f) (plan.home f) (good f) v)))))))

  module _ (short : Bool) where
    action_fits : (f : ℕ) (a : Action) (live : VariableSet) (leaves skips : ℕ) → AllFit (action_code plan variables f a live (jump_over short leaves) (jump_over short skips))
    action_fits f (Compute v x) live leaves skips =
        fit_append _ _ (value_fits (variables f) (plan.home f) (good f) (register_or 5 (plan.home f v)) x (register_fits (variables f) 5 (plan.home f v) (good f v) (omega arith))) (keep_fits (plan.home f v))
    action_fits f (Issue kind x) live leaves skips =
        fit_append _ _ (fetch_fits (variables f) (plan.home f) 5 x (omega arith)) (issue_fits kind 30 (source (plan.home f) 5 x) (pos 0) (omega arith) (source_fits (variables f) (plan.home f) (good f) 5 x (omega arith)) no_offset, tt)
    action_fits f (Own v kind x) live leaves skips =
        fit_append _ _ (fetch_fits (variables f) (plan.home f) 5 x (omega arith)) (issue_fits kind 31 (source (plan.home f) 5 x) (pos 0) (omega arith) (source_fits (variables f) (plan.home f) (good f) 5 x (omega arith)) no_offset, take_fits (variables f) (plan.home f) (good f) 31 v (omega arith))
    action_fits f (Receive v) live leaves skips = take_fits (variables f) (plan.home f) (good f) 30 v (omega arith)
    action_fits f (Address width x) live leaves skips =
        fit_append _ _ (fetch_fits (variables f) (plan.home f) 5 x (omega arith)) (address_fits width (source (plan.home f) 5 x) (pos 0) (source_fits (variables f) (plan.home f) (good f) 5 x (omega arith)) no_offset, tt)
    action_fits f (Datum x) live leaves skips = move_fits (variables f) (plan.home f) (good f) 30 x (omega arith)
    action_fits f (Offer v) live leaves skips = move_fits (variables f) (plan.home f) (good f) 28 (Variable v) (omega arith)
    action_fits f (Accept v) live leaves skips = take_fits (variables f) (plan.home f) (good f) 28 v (omega arith)
    action_fits f (Emit spelling x) live leaves skips = system_fits (variables f) (plan.home f) (good f) (call_number spelling) x (number_small spelling)
    action_fits f (Probe check) live leaves skips = check_fits plan (variables f) f check (good f)
    action_fits f (Tell x) live leaves skips = move_fits (variables f) (plan.home f) (good f) 29 x (omega arith)
    action_fits f (Hear only) live leaves skips = hear_fits plan.by_a only
    action_fits f (Stop x) live leaves skips = stop_fits (variables f) (plan.home f) (good f) plan.by_a x
    action_fits f Break live leaves skips = over_fits short leaves
    action_fits f Continue live leaves skips = over_fits short skips
    action_fits f (Call v g xs) live leaves skips = call_fits f v g xs _
    action_fits f (Return x) live leaves skips = leave_fits (variables f) (plan.home f) (good f) plan.by_a (plan.leaf f) x

    early_fits : (f q v d : ℕ) (y : Value) → q < 32 → AllFit (early_code (plan.home f) q v d y)
    early_fits f q v d y h =
        fit_append _ _ (value_fit (with_home v (Register q) (plan.home f)) (λ r u l. register_low r u (nat_eq u v) l) (register_or 5 (plan.home f d)) y (register_fits (variables f) 5 (plan.home f d) (good f d) (omega arith))) (keep_fits (plan.home f d))
      where
        register_low : (r u : ℕ) (b : Bool) → r < 32 → register_or r (if b then Register q else plan.home f u) < 32
        register_low r u true l = h
        register_low r u false l = register_fits (variables f) r (plan.home f u) (good f u) l

    late_fits : (f t : ℕ) (y : Value) (a : Action) → AllFit (late_code (plan.home f) a y)
    late_fits f t y (Compute d z) = action_fits f (Compute d y) none 0 0
    late_fits f t y (Datum z) = value_fits (variables f) (plan.home f) (good f) 30 y (omega arith)
    late_fits f t y (Issue kind z) = reach_fits (variables f) (plan.home f) (good f) y (issue_code kind 30) [] (λ b offset h k. issue_fits kind 30 b offset (omega arith) h k) tt
    late_fits f t y (Own v kind z) =
        reach_fits (variables f) (plan.home f) (good f) y (issue_code kind 31) (take_code 31 (plan.home f v)) (λ b offset h k. issue_fits kind 31 b offset (omega arith) h k) (take_fits (variables f) (plan.home f) (good f) 31 v (omega arith))
    late_fits f t y (Address width z) = reach_fits (variables f) (plan.home f) (good f) y (address_code width) [] (λ b offset h k. address_fits width b offset h k) tt
    late_fits f t y a = tt

    settled_fits : (f : ℕ) (need : Need) (a : Action) (live : VariableSet) (l s : ℕ) → AllFit (needed_code plan variables f need a live (jump_over short l) (jump_over short s))
    settled_fits f Nothing a live l s = tt
    settled_fits f Ends a live l s = placed_fits (variables f) (plan.home f) (good f) a
    settled_fits f All a live l s = action_fits f a live l s

    block_fits : (f : ℕ) (known : Facts) (standing : VariableStanding) (x : LiveWays) (l s : ℕ) (a : Action) (k : Actions) → AllFit (block_code plan variables f (need_of plan.memory known a k) standing a (standing_behind a k x) (live k x) (jump_over short l) (jump_over short s))
    block_fits f known (Early v y) x l s a k = tt
    block_fits f known (Late t y) x l s a k = late_fits f t y a
    block_fits f known Settled x l s a k =
        by_pairs (λ (a : Action) (k : Actions) (standing : VariableStanding). AllFit (block_code plan variables f (need_of plan.memory known a k) Settled a standing (live k x) (jump_over short l) (jump_over short s))) x
        (λ a k. fit_either (is_dead a (live k x)) [] (needed_code plan variables f (need_of plan.memory known a k) a (live k x) (jump_over short l) (jump_over short s)) (λ e. tt) (λ e. settled_fits f (need_of plan.memory known a k) a (live k x) l s)) (λ t y m b k e passes dead. tt) (λ v m d y k e once dead. early_fits f 30 v d y (omega arith)) (λ v m d y k e once dead. early_fits f 28 v d y (omega arith)) a k

    past_fits : (none : Bool) (n : ℕ) → AllFit (past_code short none n)
    past_fits true n = tt
    past_fits false n = over_fits short n

    bottom_fits : (f : ℕ) (code : Actions) (n : ℕ) → n ≤ 900 → AllFit (bottom_test (plan.home f) code n)
    bottom_fits f (If m b p q k) n near = let h = before_short (plan.home f) b true in back_branch_fits (variables f) (plan.home f) (good f) b true n (omega arith)
    bottom_fits f Done n near = tt
    bottom_fits f (Do m a k) n near = tt
    bottom_fits f (Loop m body step k) n near = tt

    mutual
      pub code_fits : (f : ℕ) (standing : VariableStanding) (known : Facts) (code : Actions) (x : LiveWays) (leaves skips : ℕ) → AllFit (code_of short plan variables f standing known code x leaves skips)
      code_fits f standing known Done x leaves skips = tt
      code_fits f standing known (Do m a k) x leaves skips = fit_append _ _ (block_fits f known standing x _ _ a k) (code_fits f (standing_behind a k x) (facts_behind plan.memory a known) k x leaves skips)
      code_fits f standing known (If m b p q k) x leaves skips =
          let none = does_nothing p in
          let rest = code_of short plan variables f Settled (facts_past_if b p q known) k x leaves skips in
          let second = code_of short plan variables f Settled (facts_in_second b known) q (behind (live k x) x) (length rest + leaves) (length rest + skips) in
          let past = past_code short (none || does_nothing q) (length second) in
          let far = length past + length second + length rest in
          let first = code_of short plan variables f Settled (facts_in_first b known) p (behind (live k x) x) (far + leaves) (far + skips) in
          let n = if none then length second else length first + length past in
          fit_append (branch_code (plan.home f) short b none n) (first ++ (past ++ (second ++ rest))) (branch_fits (variables f) (plan.home f) (good f) short b none n)
          (fit_append first (past ++ (second ++ rest)) (code_fits f Settled (facts_in_first b known) p (behind (live k x) x) (far + leaves) (far + skips))
          (fit_append past (second ++ rest) (past_fits (none || does_nothing q) (length second))
          (fit_append second rest (code_fits f Settled (facts_in_second b known) q (behind (live k x) x) (length rest + leaves) (length rest + skips)) (code_fits f Settled (facts_past_if b p q known) k x leaves skips))))
      code_fits f standing known (Loop m body step k) x leaves skips =
          let after' = live k x in
          let rest = code_of short plan variables f Settled (facts_past_loop body step known) k x leaves skips in
          let again = code_of short plan variables f Settled (facts_at_step plan.memory body step known) step (step_ways body step after') (jump_words short) 0 in
          let turned = code_of short plan variables f Settled (facts_at_turn plan.memory body step known) body (body_ways body step after') (length again + jump_words short) 0 in
          let back = jump_back short (length turned + length again) in
          let words = length (bottom_test (plan.home f) body 0) in
          let again' = code_of short plan variables f Settled (facts_at_step plan.memory body step known) step (step_ways body step after') words 0 in
          let tail = tail_of short plan variables f (facts_at_turn plan.memory body step known) body (body_ways body step after') (length again' + words) 0 in
          let n = length tail + length again' in
          let test = bottom_test (plan.home f) body n in
          let few = tail_length short plan variables f (facts_at_turn plan.memory body step known) body (body_ways body step after') (length again' + words) 0 in
          let few' = code_length short plan variables f Settled (facts_at_step plan.memory body step known) step (step_ways body step after') words 0 in
          fit_either (has_bottom body step) (jump_over short n ++ (tail ++ (again' ++ (test ++ rest)))) (turned ++ (again ++ (back ++ rest)))
          (λ e. fit_append (jump_over short n) (tail ++ (again' ++ (test ++ rest))) (over_fits short n)
          (fit_append tail (again' ++ (test ++ rest)) (tail_fits f (facts_at_turn plan.memory body step known) body (body_ways body step after') (length again' + words) 0)
          (fit_append again' (test ++ rest) (code_fits f Settled (facts_at_step plan.memory body step known) step (step_ways body step after') words 0)
          (fit_append test rest (bottom_fits f body n (near_is body step n e (omega arith))) (code_fits f Settled (facts_past_loop body step known) k x leaves skips)))))
          (λ e. fit_append turned (again ++ (back ++ rest)) (code_fits f Settled (facts_at_turn plan.memory body step known) body (body_ways body step after') (length again + jump_words short) 0)
          (fit_append again (back ++ rest) (code_fits f Settled (facts_at_step plan.memory body step known) step (step_ways body step after') (jump_words short) 0)
          (fit_append back rest (back_fits short (length turned + length again)) (code_fits f Settled (facts_past_loop body step known) k x leaves skips))))

      pub tail_fits : (f : ℕ) (known : Facts) (code : Actions) (x : LiveWays) (leaves skips : ℕ) → AllFit (tail_of short plan variables f known code x leaves skips)
      tail_fits f known (If m b p q k) x leaves skips = code_fits f Settled (facts_past_if b p q known) k x leaves skips
      tail_fits f known Done x leaves skips = tt
      tail_fits f known (Do m a k) x leaves skips = tt
      tail_fits f known (Loop m body step k) x leaves skips = tt

  prologue_fits : (by_a leaf : Bool) → AllFit (prologue_code by_a leaf)
  prologue_fits by_a true = tt
  prologue_fits true false = (sw_small 2 1 0 (omega arith) (omega arith) (omega arith), (addi_small 10 10 1 (omega arith) (omega arith) (omega arith), tt))
  prologue_fits false false = (sw_small 2 1 0 (omega arith) (omega arith) (omega arith), tt)

  pub entry_fits : (f : ℕ) → AllFit (entry_code plan f)
  entry_fits f = prologue_fits plan.by_a (plan.leaf f)

  pub function_fits : (f : ℕ) (code : Actions) → AllFit (function_code plan variables f code)
  function_fits f code =
      fit_append (entry_code plan f) _ (entry_fits f) (code_fits (is_short code) f Settled unknown code nowhere 0 0)

pub finish_fits : (by_a : Bool) → AllFit (finish_code by_a)
finish_fits true = (ecall_fits, tt)
finish_fits false = (addi_small 10 6 0 (omega arith) (omega arith) (omega arith), (addi_small 17 0 0 (omega arith) (omega arith) (omega arith), (ecall_fits, tt)))

residents_fit : (r : ℕ) (numbers : List ℕ) → r < 32 → AllFit (residents_code r numbers)
residents_fit r [] h = tt
residents_fit r (n ∷ ns) h = fit_append (number_code r n) (residents_code (r - 1) ns) (number_fits r n h) (residents_fit (r - 1) ns (omega arith))

pub start_fits : (plan : Plan) (main frames : ℕ) → AllFit (start_code plan main frames)
start_fits plan main frames =
    let addresses : List Inst = number_code 4 (plan.memory - 16) in
    let fit : AllFit addresses = number_fits 4 (plan.memory - 16) (omega arith) in
    let stay : List Inst = residents_code 27 plan.residents in
    fit_append (number_code 3 frames ++ (stay ++ (if plan.by_a then addresses else []))) (enter_code plan.near (plan.entry main))
    (fit_append (number_code 3 frames) (stay ++ (if plan.by_a then addresses else [])) (number_fits 3 frames (omega arith))
    (fit_append stay (if plan.by_a then addresses else []) (residents_fit 27 plan.residents (omega arith)) (fit_either plan.by_a addresses [] (λ e. fit) (λ e. tt))))
    (enter_fits plan.near (plan.entry main))
