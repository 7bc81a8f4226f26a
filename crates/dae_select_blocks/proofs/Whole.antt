-- The code of structured actions does them, wherever it stands: an induction on the actions, in which each jump is told by
-- the lengths of what it leads over.
use Rattle.std.proofs.Common.{◌≡◌, ℕ, ◌+◌, ◌^◌, ◌<◌, ◌≤◌, Bool, true, false, not, ◌||◌, ◌&&◌, List, [], ◌∷◌, ◌++◌, Option, length, refl, sym, ap, subst, arith, length-append}
use Rattle.std.specs.Prelude.{nat_eq, if◌then◌else◌}
use Rattle.std.specs.List.{AllByRecursion}
use Rattle.std.proofs.lemmas.Bool.Decides.{nat_tests}
use Rattle.dae_base.specs.declared.Queue.TheVariants.{Ld, Cq}
use Rattle.dae_encode.specs.declared.Inst.{Inst}
use Rattle.dae_encode.specs.Processor.{Processor}
use Rattle.dae_ir.specs.Code.{Done, Do, If, Loop, Each}
use Rattle.dae_ir.specs.Classes.{VariableSet}
use Rattle.dae_meaning.specs.Worlds.{World}
use Rattle.dae_ir.specs.Form.{Program, holds}
use Rattle.dae_ir.specs.Streams.{Actions}
use Rattle.dae_ir.specs.Deeds.{deed, Push, Went, told_on}
use Rattle.dae_ir.specs.declared.stream.Argument.{Argument}
use Rattle.dae_base.specs.declared.Width.{Width}
use Rattle.dae_base.proofs.Laws.{not_true, and_true}
use Rattle.dae_ir.specs.declared.form.Operand.{Operand}
use Rattle.dae_ir.specs.declared.form.Check.TheVariants.{Place}
use Rattle.dae_ir.specs.declared.form.Operand.TheVariants.{Variable, Number}
use Rattle.dae_ir.specs.declared.form.Value.{Value}
use Rattle.dae_ir.specs.declared.form.Value.TheVariants.{Same, Binary}
use Rattle.dae_ir.specs.declared.stream.Mark.{Mark}
use Rattle.dae_ir.specs.declared.stream.Action.{Action}
use Rattle.dae_ir.specs.declared.stream.Action.TheVariants.{Set as Compute, Issue, Own, Receive, Address, Datum, Offer, Accept, Emit, Probe, Tell, Hear, Stop, Break, Continue, Call, Return}
use Rattle.dae_ir.specs.declared.stream.Branch.{Branch}
use Rattle.dae_ir.specs.declared.stream.Branch.TheVariants.{Silent, Tells, Hears}
use Rattle.dae_select_walks.specs.Walks.{WalkSetting, Comes}
use Rattle.dae_select_walks.specs.Does.{Does}
use Rattle.dae_select_walks.specs.Live.{LiveWays, in_operand, behind, reads, sets, after, before, decided, live, lives, with_all, none, turn, step_ways, body_ways}
use Rattle.dae_select_walks.specs.Facts.{Facts, Hold, unknown, only_leaves, operand_bounds, is_aligned, is_good, tells_within, facts_behind, facts_in_first, facts_in_second, facts_past_if, facts_at_turn, facts_at_step, facts_past_loop, need_of}
use Rattle.dae_select_walks.specs.declared.Need.{Need}
use Rattle.dae_select_walks.specs.declared.Need.TheVariants.{All, Ends, Nothing}
use Rattle.dae_select_walks.specs.Agrees.{Plan, Moment, Stands}
use Rattle.dae_select_walks.specs.declared.VariableStanding.{VariableStanding}
use Rattle.dae_select_walks.specs.declared.VariableStanding.TheVariants.{Settled, Early, Late}
use Rattle.dae_select_walks.specs.Compiled.{Exit, Exits, exit, exits, ways_of, with_env, IsWorldOf, At, Leads, Turns, GoesBack, is_told, begins_told, ActionDone, BranchDone, CodeDone, bit}
use Rattle.dae_select_walks.proofs.LawsOfWalks.{comes_here, comes_more, nears_here, comes_map, does_map, acts_map, turn_again}
use Rattle.dae_select_walks.specs.Layout.{CodeAt}
use Rattle.dae_meaning.specs.declared.Operator.TheVariants.{Add as Plus}
use Rattle.dae_meaning.specs.declared.Comparison.{Comparison}
use Rattle.dae_meaning.specs.declared.Comparison.TheVariants.{NotEqual}
use Rattle.dae_select_blocks.specs.Blocks.{jump_words, jump_over, jump_back, one_way, goes_code, goes_back}
use Rattle.dae_select_blocks.specs.Code.{written_last, is_offset_sum, action_code, branch_by, ahead_by, branch_code, before_branch, back_branch, bottom_test, leaves_first, is_near, has_bottom, tail_of, loop_code, bottom_code, does_nothing, past_code, standing_behind, late_code, early_code, placed_code, is_dead, needed_code, block_code, code_of}
use Rattle.dae_select_blocks.specs.Fits.{Fits}
use Rattle.dae_select_blocks.specs.Wanted.{IsWanted, IsWantedBranch, IsPlanOf, IsRight}
use Rattle.dae_select_blocks.proofs.Runs.{code_take, code_drop}
use Rattle.dae_select_blocks.proofs.Uses.{takes_load_left, takes_load_right, takes_copy_left, takes_copy_right}
use Rattle.dae_select_blocks.proofs.Simple.{IsSimple, around, a_side, e_side, simple_done, placed_done, passed_done, itself_done}
use Rattle.dae_select_blocks.proofs.Pairs.{ForAccesses, passed_on, offset_sum, by_pairs, entered_at, Suits, suits_behind, AreLateNumbers, dead_held, dead_done, late_first, late_second, late_sent, late_issue, late_address, late_own, early_first, early_second}
use Rattle.dae_select_blocks.proofs.Lengths.{back_branch_long}
use Rattle.dae_select_blocks.proofs.Jumps.{goes_if, jump_long, back_long, hears_some, leads_over, turns_over, turns_back, stands_less, silent_done, tells_done, hears_done, AllLong, GoesFrom, ahead_long, ahead_goes, back_long_all, back_goes}

-- parts of a list of places
all_left : (P : VariableSet → Type 0) (xs ys : List VariableSet) → AllByRecursion P (xs ++ ys) → AllByRecursion P xs
all_left P [] ys h = tt
all_left P (x ∷ xs) ys h = (h.0, all_left P xs ys h.1)

all_right : (P : VariableSet → Type 0) (xs ys : List VariableSet) → AllByRecursion P (xs ++ ys) → AllByRecursion P ys
all_right P [] ys h = h
all_right P (x ∷ xs) ys h = all_right P xs ys h.1

any : (b c : Bool) → (b || (true || c)) ≡ true
any true c = refl
any false c = refl

last : (b c : Bool) → (b || (c || true)) ≡ true
last true c = refl
last false true = refl
last false false = refl

module _ (s : WalkSetting) (plan : Plan) (variables : ℕ → ℕ) (fine : Fits s plan variables) (program : Program) (is_plan : IsPlanOf program plan) (entries : ℕ → VariableSet) (most widest : ℕ) (short : Bool) where
  -- the block of an action, from whose end it is so many words to where a Break goes, and a Continue
  abbrev pub block_of : ℕ → Action → VariableSet → ℕ → ℕ → List Inst
  block_of f a live leaves skips = action_code plan variables f a live (jump_over short leaves) (jump_over short skips)

  -- what every action wants of the place where it stands: its block, short enough, and homes that are apart
  pub record Stood (f : ℕ) (a : Action) (behind : VariableSet) (x : LiveWays) (leaves skips k : ℕ) : Type 0 where
    pub wanted : IsWanted plan s.copies entries (plan.leaf f) a
    pub right : IsRight (plan.home f) (variables f) (with_all (before a behind x) (sets a))
    pub stands : CodeAt s.code k (block_of f a behind leaves skips)
    pub small : k + length (block_of f a behind leaves skips) < 2 ^ 29

  -- where a Break goes, and a Continue, the processor holds the variables of the moment
  pub record AreSettled (x : Exits) : Type 0 where
    pub leaves : x.leaves.standing ≡ Settled
    pub skips : x.skips.standing ≡ Settled

  abbrev pub Done' : ℕ → Facts → Action → VariableSet → Exits → ℕ → ℕ → ℕ → Type 0
  Done' f known a k x leaves skips here =
      ActionDone s plan program entries most widest f known a (exit here (before a k (ways_of x))) (exit (here + length (block_of f a k leaves skips)) k) x

  module _ (blocks : (f : ℕ) (a : Action) (live : VariableSet) (leaves skips : List Inst) → IsSimple a → length (action_code plan variables f a live leaves skips) ≤ most)
      (placed : (f : ℕ) (a : Action) → length (placed_code (plan.home f) a) ≤ most)
      (early_short : (f q v d : ℕ) (y : Value) → length (early_code (plan.home f) q v d y) ≤ most)
      (late_short : (f : ℕ) (y : Value) (a : Action) → length (late_code (plan.home f) a y) ≤ most)
      (branches : (f : ℕ) (b : Branch) (way : Bool) (n : ℕ) → length (branch_code (plan.home f) short b way n) + 2 ≤ most)
      (backs : (f : ℕ) (b : Branch) (way : Bool) (n : ℕ) → length (back_branch (plan.home f) b way n) + 2 ≤ most)
      (calls : (f g : ℕ) (v : Option ℕ) (xs : List Argument) (k : VariableSet) (x : Exits) (leaves skips here : ℕ) → Stood f (Call v g xs) k (ways_of x) leaves skips here → Done' f unknown (Call v g xs) k x leaves skips here)
      (returns : (f : ℕ) (y : Option Operand) (k : VariableSet) (x : Exits) (leaves skips here : ℕ) → Stood f (Return y) k (ways_of x) leaves skips here → Done' f unknown (Return y) k x leaves skips here)
      (lo hi : ℕ) (high : hi < 2 ^ 29) (reach : short ≡ true → hi ≤ lo + 2 ^ 17) (some : 2 ≤ most) where
    simply : (f : ℕ) (known : Facts) (a : Action) (k : VariableSet) (x : Exits) (leaves skips here : ℕ) → IsSimple a → ((u : ℕ) → after a k (ways_of x) u ≡ k u) → Stood f a k (ways_of x) leaves skips here →
        (m : Moment) (w : World) (p : Processor) → At s plan program entries most widest f (exit here (before a k (ways_of x))) m p → IsWorldOf plan m w → Hold known m.env →
        Does s most (deed program plan.by_a a w m.env) (λ env. At s plan program entries most widest f (exit (here + length (block_of f a k leaves skips)) k) (with_env env m)) p
    simply f known a k x leaves skips here simple goes_on t m w p h world facts =
        let small = t.small in
        simple_done s plan variables fine program is_plan entries most widest f a (before a k (ways_of x)) k (jump_over short leaves) (jump_over short skips) here simple t.wanted (around (plan.home f) (variables f) a k (ways_of x) goes_on t.right) t.stands (omega arith) (blocks f a k (jump_over short leaves) (jump_over short skips) simple) m w p h world

    -- a jump leads over what is behind it, up to where the loop goes on
    jumped : (f here n : ℕ) (live : VariableSet) (there : Exit) → there.standing ≡ Settled → lo ≤ here → there.word ≤ hi → CodeAt s.code here (jump_over short n) → here + jump_words short + n ≡ there.word → ((u : ℕ) → there.live u ≡ true → live u ≡ true) → Leads s plan program entries most widest f (exit here live) there
    jumped f here n live there settled low near at lands less m p h =
        comes_map s 2 (omega arith) (λ q g. (h.0, rw settled (stands_less s plan variables fine less (subst (λ (j : ℕ). Stands plan live m j q) lands g)))) (leads_over s plan variables fine short n (omega arith) (λ e. (let r = reach e in omega arith)) at h.1)

    turned : (f here n : ℕ) (live : VariableSet) (there : Exit) → there.standing ≡ Settled → lo ≤ here → there.word ≤ hi → CodeAt s.code here (jump_over short n) → here + jump_words short + n ≡ there.word → ((u : ℕ) → there.live u ≡ true → live u ≡ true) → Turns s plan program entries most widest f (exit here live) there
    turned f here n live there settled low near at lands less m p h =
        let a = turns_over s plan variables fine short n (omega arith) (λ e. (let r = reach e in omega arith)) at h.1 in
        (a.0, acts_map s (λ r c. comes_map s 1 (omega arith) (λ q g. (h.0, rw settled (stands_less s plan variables fine less (subst (λ (j : ℕ). Stands plan live m j q) lands g)))) c) a.1)

    -- over a second list, which may be empty
    passed : (f here n word : ℕ) (behind : VariableSet) (none : Bool) → (none ≡ true → n ≡ 0) → lo ≤ here → word ≤ hi → CodeAt s.code here (past_code short none n) → here + length (past_code short none n) + n ≡ word →
        Leads s plan program entries most widest f (exit here behind) (exit word behind)
    passed f here n word k true empty low near at there =
        let no_words = empty refl in
        let same : here ≡ word = omega arith in
        λ m p h. comes_here s (subst (λ (j : ℕ). At s plan program entries most widest f (exit j k) m p) same h)
    passed f here n word k false empty low near at there = let long = jump_long short n in jumped f here n k (exit word k) refl low near at (omega arith) (λ u e. e)

    action_done : (f : ℕ) (known : Facts) (a : Action) (k : VariableSet) (x : Exits) (leaves skips here : ℕ) → AreSettled x → here + length (block_of f a k leaves skips) + leaves ≡ x.leaves.word → here + length (block_of f a k leaves skips) + skips ≡ x.skips.word → lo ≤ here → x.leaves.word ≤ hi → x.skips.word ≤ hi →
        Stood f a k (ways_of x) leaves skips here → Done' f known a k x leaves skips here
    action_done f known Break k x leaves skips here settled to_leave to_skip low near close t =
        let long = jump_long short leaves in
        jumped f here leaves (before Break k (ways_of x)) x.leaves settled.leaves low near t.stands (omega arith) (λ u e. rw e refl)
    action_done f known Continue k x leaves skips here settled to_leave to_skip low near close t =
        let long = jump_long short skips in
        turned f here skips (before Continue k (ways_of x)) x.skips settled.skips low close t.stands (omega arith) (λ u e. rw e refl)
    action_done f known (Call v g xs) k x leaves skips here settled to_leave to_skip low near close t = calls f g v xs k x leaves skips here t
    action_done f known (Return y) k x leaves skips here settled to_leave to_skip low near close t = returns f y k x leaves skips here t
    action_done f known (Stop y) k x leaves skips here settled to_leave to_skip low near close t =
        let small = t.small in
        λ m w p h world facts. simple_done s plan variables fine program is_plan entries most widest f (Stop y) (before (Stop y) k (ways_of x)) none (jump_over short leaves) (jump_over short skips) here tt t.wanted (around (plan.home f) (variables f) (Stop y) none (ways_of x) (λ u. refl) t.right) t.stands (omega arith) (blocks f (Stop y) k (jump_over short leaves) (jump_over short skips) tt) m w p h world
    action_done f known (Compute v y) k x leaves skips here settled to_leave to_skip low near close t = simply f known (Compute v y) k x leaves skips here tt (λ u. refl) t
    action_done f known (Issue kind y) k x leaves skips here settled to_leave to_skip low near close t = simply f known (Issue kind y) k x leaves skips here tt (λ u. refl) t
    action_done f known (Own v kind y) k x leaves skips here settled to_leave to_skip low near close t = simply f known (Own v kind y) k x leaves skips here tt (λ u. refl) t
    action_done f known (Receive v) k x leaves skips here settled to_leave to_skip low near close t = simply f known (Receive v) k x leaves skips here tt (λ u. refl) t
    action_done f known (Address width y) k x leaves skips here settled to_leave to_skip low near close t = simply f known (Address width y) k x leaves skips here tt (λ u. refl) t
    action_done f known (Datum y) k x leaves skips here settled to_leave to_skip low near close t = simply f known (Datum y) k x leaves skips here tt (λ u. refl) t
    action_done f known (Offer v) k x leaves skips here settled to_leave to_skip low near close t = simply f known (Offer v) k x leaves skips here tt (λ u. refl) t
    action_done f known (Accept v) k x leaves skips here settled to_leave to_skip low near close t = simply f known (Accept v) k x leaves skips here tt (λ u. refl) t
    action_done f known (Emit spelling y) k x leaves skips here settled to_leave to_skip low near close t = simply f known (Emit spelling y) k x leaves skips here tt (λ u. refl) t
    action_done f known (Probe check) k x leaves skips here settled to_leave to_skip low near close t = simply f known (Probe check) k x leaves skips here tt (λ u. refl) t
    action_done f known (Tell y) k x leaves skips here settled to_leave to_skip low near close t = simply f known (Tell y) k x leaves skips here tt (λ u. refl) t
    action_done f known (Hear only) k x leaves skips here settled to_leave to_skip low near close t = simply f known (Hear only) k x leaves skips here tt (λ u. refl) t

    -- ---- actions in their lists, alone or in pairs

    -- this block, where things stand so before an action and so behind it, does the action
    abbrev BlockDone : ℕ → Facts → List Inst → VariableStanding → Mark → Exits → ℕ → ℕ → ℕ → Action → Actions → VariableStanding → Type 0
    BlockDone f known block standing mark x leaves skips here a k standing' =
        Suits standing (Do mark a k) (ways_of x) → AreLateNumbers standing → AreSettled x → IsWanted plan s.copies entries (plan.leaf f) a → Each (IsWanted plan s.copies entries (plan.leaf f)) IsWantedBranch k →
        IsRight (plan.home f) (variables f) (with_all (before a (live k (ways_of x)) (ways_of x)) (sets a)) → AllByRecursion (IsRight (plan.home f) (variables f)) (lives k (ways_of x)) →
        CodeAt s.code here block → lo ≤ here → here + length block < 2 ^ 29 →
        here + length block + leaves ≡ x.leaves.word → here + length block + skips ≡ x.skips.word → x.leaves.word ≤ hi → x.skips.word ≤ hi →
        ActionDone s plan program entries most widest f known a (entered_at standing (Do mark a k) (ways_of x) here) (entered_at standing' k (ways_of x) (here + length block)) x
        × AreLateNumbers standing'

    -- the block of the action does it
    abbrev StepDone : ℕ → Facts → Need → VariableStanding → Mark → Exits → ℕ → ℕ → ℕ → Action → Actions → VariableStanding → Type 0
    StepDone f known need standing mark x leaves skips here a k standing' =
        BlockDone f known (block_code plan variables f need standing a standing' (live k (ways_of x)) (jump_over short leaves) (jump_over short skips)) standing mark x leaves skips here a k standing'

    -- and that of an action alone
    abbrev AloneDone : ℕ → Facts → Need → Mark → Exits → ℕ → ℕ → ℕ → Action → Actions → Type 0
    AloneDone f known need mark x leaves skips here a k =
        BlockDone f known (needed_code plan variables f need a (live k (ways_of x)) (jump_over short leaves) (jump_over short skips)) Settled mark x leaves skips here a k Settled

    late_step : (f t : ℕ) (known : Facts) (need : Need) (y : Value) (d : ℕ) (mark : Mark) (k : Actions) (x : Exits) (leaves skips here : ℕ) → live k (ways_of x) t ≡ false → StepDone f known need (Late t y) mark x leaves skips here (Compute d (Same (Variable t))) k Settled
    late_step f t known need y d mark k x leaves skips here dead suits numbers settled wanted more right rights at low small to_leave to_skip near close = (
      late_second s plan variables fine program is_plan entries most widest f t d y (live k (ways_of x)) known (ways_of x) x here dead numbers right at small (blocks f (Compute d y) (live k (ways_of x)) [] [] tt),
      tt,
    )

    sent_step : (f t : ℕ) (known : Facts) (need : Need) (y : Value) (mark : Mark) (k : Actions) (x : Exits) (leaves skips here : ℕ) → live k (ways_of x) t ≡ false → written_last y ≡ true → StepDone f known need (Late t y) mark x leaves skips here (Datum (Variable t)) k Settled
    sent_step f t known need y mark k x leaves skips here dead last suits numbers settled wanted more right rights at low small to_leave to_skip near close = (
      late_sent s plan variables fine program is_plan entries most widest f t y (live k (ways_of x)) known (ways_of x) x here (e_side s plan variables fine program is_plan entries wanted.0) last dead numbers at small (late_short f y (Datum (Variable t))),
      tt,
    )

    -- or it accesses memory at a sum
    reached_step : (f t : ℕ) (known : Facts) (need : Need) (y : Value) (mark : Mark) (k : Actions) (x : Exits) (leaves skips here : ℕ) → live k (ways_of x) t ≡ false → is_offset_sum y ≡ true → ForAccesses (λ (a : Action). StepDone f known need (Late t y) mark x leaves skips here a k Settled) t
    reached_step f t known need y mark k x leaves skips here dead adds =
        offset_sum (λ (z : Value). ForAccesses (λ (a : Action). StepDone f known need (Late t z) mark x leaves skips here a k Settled) t) y adds (λ v n fits. record {
          issue = λ kind suits numbers settled wanted more right rights at low small to_leave to_skip near close. (
            late_issue s plan variables fine program is_plan entries most widest (a_side s plan variables fine program is_plan entries wanted.0) f t v n fits numbers.1 (live k (ways_of x)) dead known (ways_of x) x here
                kind at small (late_short f (Binary Plus (Variable v) (Number n)) (Issue kind (Variable t))),
            tt,
          );
          own = λ d kind suits numbers settled wanted more right rights at low small to_leave to_skip near close. (
            late_own s plan variables fine program is_plan entries most widest (a_side s plan variables fine program is_plan entries wanted.0) f t v n fits numbers.1 (live k (ways_of x)) dead known (ways_of x) x here
                d kind right at small (late_short f (Binary Plus (Variable v) (Number n)) (Own d kind (Variable t))),
            tt,
          );
          address = λ width suits numbers settled wanted more right rights at low small to_leave to_skip near close. (
            late_address s plan variables fine program is_plan entries most widest (a_side s plan variables fine program is_plan entries wanted.0) f t v n fits numbers.1 (live k (ways_of x)) dead known (ways_of x) x here
                width at small (late_short f (Binary Plus (Variable v) (Number n)) (Address width (Variable t))),
            tt,
          );
        })

    early_step : (f v : ℕ) (known : Facts) (need : Need) (y : Value) (mark : Mark) (k : Actions) (x : Exits) (leaves skips here : ℕ) → StepDone f known need (Early v y) mark x leaves skips here (Compute v y) k Settled
    early_step f v known need y mark k x leaves skips here suits numbers settled wanted more right rights at low small to_leave to_skip near close = (early_second s plan variables fine program is_plan entries most widest f v y (live k (ways_of x)) known x here, tt)

    -- an action alone
    plain_step : (f : ℕ) (known : Facts) (mark : Mark) (a : Action) (k : Actions) (x : Exits) (leaves skips here : ℕ) → AloneDone f known All mark x leaves skips here a k
    plain_step f known mark a k x leaves skips here suits numbers settled wanted more right rights at low small to_leave to_skip near close = (
      action_done f known a (live k (ways_of x)) x leaves skips here settled to_leave to_skip low near close (record { wanted = wanted; right = right; stands = at; small = small }),
      tt,
    )

    placed_step : (f : ℕ) (known : Facts) (mark : Mark) (width : Width) (y : Operand) (k : Actions) (x : Exits) (leaves skips here : ℕ) (aligned : Bool) → is_aligned width (operand_bounds known y) ≡ aligned → AloneDone f known (if aligned then Ends else All) mark x leaves skips here (Probe (Place width y)) k
    placed_step f known mark width y k x leaves skips here false e = plain_step f known mark (Probe (Place width y)) k x leaves skips here
    placed_step f known mark width y k x leaves skips here true e = λ suits numbers settled wanted more right rights at low small to_leave to_skip near close. (
      placed_done s plan variables fine program is_plan entries most widest f width y (before (Probe (Place width y)) (live k (ways_of x)) (ways_of x)) (live k (ways_of x)) known here wanted (around (plan.home f) (variables f) (Probe (Place width y)) (live k (ways_of x)) (ways_of x) (λ u. refl) right) e at small (placed f (Probe (Place width y))),
      tt,
    )

    passed_step : (f : ℕ) (known : Facts) (mark : Mark) (width : Width) (y : Operand) (k : Actions) (x : Exits) (leaves skips here : ℕ) (told good : Bool) → is_good plan.memory width (operand_bounds known y) ≡ good → AloneDone f known (if told && good then Nothing else (if is_aligned width (operand_bounds known y) then Ends else All)) mark x leaves skips here (Probe (Place width y)) k
    passed_step f known mark width y k x leaves skips here false good e = placed_step f known mark width y k x leaves skips here (is_aligned width (operand_bounds known y)) refl
    passed_step f known mark width y k x leaves skips here true false e = placed_step f known mark width y k x leaves skips here (is_aligned width (operand_bounds known y)) refl
    passed_step f known mark width y k x leaves skips here true true e = λ suits numbers settled wanted more right rights at low small to_leave to_skip near close. (
      passed_done s plan variables fine program is_plan entries most widest f width y (before (Probe (Place width y)) (live k (ways_of x)) (ways_of x)) (live k (ways_of x)) known here wanted (λ u e. stays (in_operand y u) (live k (ways_of x) u) e) e,
      tt,
    )
      where
        stays : (b c : Bool) → c ≡ true → (b || (c && true)) ≡ true
        stays true c e = refl
        stays false c e = rw e refl

    itself_step : (f : ℕ) (known : Facts) (mark : Mark) (v u : ℕ) (k : Actions) (x : Exits) (leaves skips here : ℕ) (same : Bool) → nat_eq u v ≡ same → AloneDone f known (if same then Nothing else All) mark x leaves skips here (Compute v (Same (Variable u))) k
    itself_step f known mark v u k x leaves skips here false e = plain_step f known mark (Compute v (Same (Variable u))) k x leaves skips here
    itself_step f known mark v u k x leaves skips here true e =
        let is : u ≡ v = grind (arith, nat_tests) in
        subst (λ (z : ℕ). AloneDone f known Nothing mark x leaves skips here (Compute v (Same (Variable z))) k) (sym is)
        (λ suits numbers settled wanted more right rights at low small to_leave to_skip near close. (
          itself_done s plan variables fine program is_plan entries most widest f v (before (Compute v (Same (Variable v))) (live k (ways_of x)) (ways_of x)) (live k (ways_of x)) known here (λ w l. still (nat_eq w v) (live k (ways_of x) w) l),
          tt,
        ))
      where
        still : (b c : Bool) → c ≡ true → (b || (c && not b)) ≡ true
        still true c e = refl
        still false c e = rw e refl

    needed_step : (f : ℕ) (known : Facts) (mark : Mark) (a : Action) (k : Actions) (x : Exits) (leaves skips here : ℕ) → AloneDone f known (need_of plan.memory known a k) mark x leaves skips here a k
    needed_step f known mark (Compute v (Same (Variable u))) k x leaves skips here = itself_step f known mark v u k x leaves skips here (nat_eq u v) refl
    needed_step f known mark (Probe (Place width y)) k x leaves skips here = passed_step f known mark width y k x leaves skips here (tells_within 24 k) (is_good plan.memory width (operand_bounds known y)) refl
    needed_step f known mark a k x leaves skips here = plain_step f known mark a k x leaves skips here

    -- nothing is needed of what computes a variable that isn't live
    dead_step : (f : ℕ) (known : Facts) (mark : Mark) (a : Action) (k : Actions) (x : Exits) (leaves skips here : ℕ) → is_dead a (live k (ways_of x)) ≡ true → BlockDone f known [] Settled mark x leaves skips here a k Settled
    dead_step f known mark (Compute v y) k x leaves skips here e = λ suits numbers settled wanted more right rights at low small to_leave to_skip near close.
        (let dead = not_true (live k (ways_of x) v) e in (
          dead_done s plan variables fine program is_plan entries most widest f v y (before (Compute v y) (live k (ways_of x)) (ways_of x)) (live k (ways_of x)) known here dead (λ u l. dead_held v y (live k (ways_of x)) (ways_of x) u dead l),
          tt,
        ))
    dead_step f known mark _ k x leaves skips here e = absurd cc

    alone_step : (f : ℕ) (known : Facts) (mark : Mark) (a : Action) (k : Actions) (x : Exits) (leaves skips here : ℕ) → StepDone f known (need_of plan.memory known a k) Settled mark x leaves skips here a k Settled
    alone_step f known mark a k x leaves skips here = by (is_dead a (live k (ways_of x))) refl
      where
        by : (b : Bool) → is_dead a (live k (ways_of x)) ≡ b
            → BlockDone f known (if b then [] else needed_code plan variables f (need_of plan.memory known a k) a (live k (ways_of x)) (jump_over short leaves) (jump_over short skips)) Settled mark x leaves skips here a k Settled
        by true e = dead_step f known mark a k x leaves skips here e
        by false e = needed_step f known mark a k x leaves skips here

    step_done : (f : ℕ) (known : Facts) (standing : VariableStanding) (mark : Mark) (a : Action) (k : Actions) (x : Exits) (leaves skips here : ℕ) → StepDone f known (need_of plan.memory known a k) standing mark x leaves skips here a k (standing_behind a k (ways_of x))
    step_done f known Settled mark a k x leaves skips here =
        by_pairs (λ (a : Action) (k : Actions) (standing : VariableStanding). StepDone f known (need_of plan.memory known a k) Settled mark x leaves skips here a k standing) (ways_of x)
        (λ a k. alone_step f known mark a k x leaves skips here)
        (λ t y m b k e passes dead suits numbers settled wanted more right rights at low small to_leave to_skip near close. (
          late_first s plan variables fine program is_plan entries most widest f t y (live (Do mark (Compute t y) (Do m b k)) (ways_of x)) known x here,
          wanted,
        ))
        (λ v m d y k e once dead suits numbers settled wanted more right rights at low small to_leave to_skip near close. (
          (λ n w p h world facts.
              (let by_e = e_side s plan variables fine program is_plan entries wanted in
              early_first s plan variables fine program is_plan entries most widest 30 Ld refl (λ t r a b. rw by_e (takes_load_left s.copies t r a b)) (λ t r a b. rw by_e (takes_load_right s.copies t r a b))
              f v d y (live k (ways_of x)) (ways_of x) here once dead more.0 ((around (plan.home f) (variables f) (Receive v) (live (Do m (Compute d y) k) (ways_of x)) (ways_of x) (λ u. refl) right).scope v (grind (arith, nat_tests))) rights.0 at small (early_short f 30 v d y) n p h)),
          tt,
        ))
        (λ v m d y k e once dead suits numbers settled wanted more right rights at low small to_leave to_skip near close. (
          (λ n w p h world facts.
              (let by_e = e_side s plan variables fine program is_plan entries wanted.0 in let copies = wanted.1 in
              early_first s plan variables fine program is_plan entries most widest 28 Cq refl (λ t r a b. rw (by_e, copies) (takes_copy_left t r a b)) (λ t r a b. rw (by_e, copies) (takes_copy_right t r a b))
              f v d y (live k (ways_of x)) (ways_of x) here once dead more.0 ((around (plan.home f) (variables f) (Accept v) (live (Do m (Compute d y) k) (ways_of x)) (ways_of x) (λ u. refl) right).scope v (grind (arith, nat_tests))) rights.0 at small (early_short f 28 v d y) n p h)),
          tt,
        ))
        a k
    step_done f known (Late t y) mark a k x leaves skips here = λ suits.
        subst (λ (standing : VariableStanding). StepDone f known (need_of plan.memory known a k) (Late t y) mark x leaves skips here a k standing) (sym suits.1)
        (passed_on (λ (b : Action). StepDone f known (need_of plan.memory known a k) (Late t y) mark x leaves skips here b k Settled) t y a suits.0 (λ d. late_step f t known (need_of plan.memory known a k) y d mark k x leaves skips here suits.2) (λ last. sent_step f t known (need_of plan.memory known a k) y mark k x leaves skips here suits.2 last)
        (λ adds. reached_step f t known (need_of plan.memory known a k) y mark k x leaves skips here suits.2 adds)) suits
    step_done f known (Early v y) mark a k x leaves skips here = λ suits.
        subst (λ (standing : VariableStanding). StepDone f known (need_of plan.memory known a k) (Early v y) mark x leaves skips here a k standing) (sym suits.1)
        (subst (λ (b : Action). StepDone f known (need_of plan.memory known a k) (Early v y) mark x leaves skips here b k Settled) (sym suits.0) (early_step f v known (need_of plan.memory known a k) y mark k x leaves skips here)) suits

    -- ---- branches

    abbrev Chooses : ℕ → Branch → VariableSet → Exit → Exit → ℕ → Type 0
    Chooses f b live first second here = BranchDone s plan program entries most widest f b (exit here live) first second

    chosen : (f : ℕ) (m : Moment) (live : VariableSet) (first second : Exit) (way b : Bool) (end far : ℕ) (q : Processor) → m.function ≡ f → first.standing ≡ Settled → second.standing ≡ Settled → first.word ≡ (if way then far else end) → second.word ≡ (if way then end else far) →
        ((u : ℕ) → first.live u ≡ true → live u ≡ true) → ((u : ℕ) → second.live u ≡ true → live u ≡ true) →
        Stands plan live m (if goes_if way b then far else end) q → At s plan program entries most widest f (if b then first else second) m q
    chosen f m live first second true true end far q e e1 e2 to to' yes' no' h = (e, rw e1 (stands_less s plan variables fine yes' (rw to h)))
    chosen f m live first second true false end far q e e1 e2 to to' yes' no' h = (e, rw e2 (stands_less s plan variables fine no' (rw to' h)))
    chosen f m live first second false true end far q e e1 e2 to to' yes' no' h = (e, rw e1 (stands_less s plan variables fine yes' (rw to h)))
    chosen f m live first second false false end far q e e1 e2 to to' yes' no' h = (e, rw e2 (stands_less s plan variables fine no' (rw to' h)))

    -- the code of a branch leads to far, or behind its end
    branch_done : (f : ℕ) (b : Branch) (way : Bool) (live : VariableSet) (first second : Exit) (here : ℕ) (go : Comparison → ℕ → ℕ → List Inst) (words far : ℕ) → AllLong s plan variables fine go words → 1 ≤ words → GoesFrom s plan variables fine go words (here + length (branch_by (plan.home f) go b way)) far →
        length (branch_by (plan.home f) go b way) + 2 ≤ most → first.standing ≡ Settled → second.standing ≡ Settled → IsWantedBranch b → ((u : ℕ) → decided b u ≡ true → live u ≡ true) → ((u : ℕ) → first.live u ≡ true → live u ≡ true) → ((u : ℕ) → second.live u ≡ true → live u ≡ true) →
        here + length (branch_by (plan.home f) go b way) < 2 ^ 29 → CodeAt s.code here (branch_by (plan.home f) go b way) →
        first.word ≡ (if way then far else here + length (branch_by (plan.home f) go b way)) →
        second.word ≡ (if way then here + length (branch_by (plan.home f) go b way) else far) → Chooses f b live first second here
    branch_done f (Silent t) way live first second here go words far alike some goes few e1 e2 wanted reads yes' no' small at to to' = λ m r h.
        subst (λ (g : ℕ). GoesFrom s plan variables fine go words (here + length (branch_by (plan.home g) go (Silent t) way)) far → here + length (branch_by (plan.home g) go (Silent t) way) < 2 ^ 29 → CodeAt s.code here (branch_by (plan.home g) go (Silent t) way) → length (branch_by (plan.home g) go (Silent t) way) + 2 ≤ most →
        first.word ≡ (if way then far else here + length (branch_by (plan.home g) go (Silent t) way)) →
        second.word ≡ (if way then here + length (branch_by (plan.home g) go (Silent t) way) else far) →
        Comes s most r (At s plan program entries most widest g (if holds t m.env then first else second) m)) h.0
        (λ goes small at few to to'. comes_map s most few (λ o g. chosen m.function m live first second way (holds t m.env) (here + length (branch_by (plan.home m.function) go (Silent t) way)) far o refl e1 e2 to to' yes' no' g)
        (silent_done s plan variables fine go words far way t alike small goes at reads wanted.0 wanted.1 some h.1)) goes small at few to to'
    branch_done f (Tells t) way live first second here go words far alike some goes few e1 e2 wanted reads yes' no' small at to to' = λ m r h.
        subst (λ (g : ℕ). GoesFrom s plan variables fine go words (here + length (branch_by (plan.home g) go (Tells t) way)) far → here + length (branch_by (plan.home g) go (Tells t) way) < 2 ^ 29 → CodeAt s.code here (branch_by (plan.home g) go (Tells t) way) → length (branch_by (plan.home g) go (Tells t) way) + 2 ≤ most →
        first.word ≡ (if way then far else here + length (branch_by (plan.home g) go (Tells t) way)) →
        second.word ≡ (if way then here + length (branch_by (plan.home g) go (Tells t) way) else far) →
        Does s most (Push (told_on plan.by_a) (bit (holds t m.env)) (Went m.env)) (λ env. At s plan program entries most widest g (if holds t m.env then first else second) m) r) h.0
        (λ goes small at few to to'.
        let end : ℕ = here + length (branch_by (plan.home m.function) go (Tells t) way) in
        does_map s (λ env. Stands plan live m (if goes_if way (holds t m.env) then far else end)) (λ env. At s plan program entries most widest m.function (if holds t m.env then first else second) m)
        (length (branch_by (plan.home m.function) go (Tells t) way) + 2) most few (λ env o g. chosen m.function m live first second way (holds t m.env) end far o refl e1 e2 to to' yes' no' g)
        (Push (told_on plan.by_a) (bit (holds t m.env)) (Went m.env)) r
        (tells_done s plan variables fine go words far way t alike some small goes at reads wanted.0 wanted.1 h.1)) goes small at few to to'
    branch_done f Hears way live first second here go words far alike some goes few e1 e2 wanted reads yes' no' small at to to' = λ m r h.
        let end : ℕ = here + length (branch_by (plan.home f) go Hears way) in
        let words' = alike (one_way way NotEqual) 29 0 in
        nears_here s 2 (omega arith) (λ x fits. (
          0,
          acts_map s (λ o c. comes_map s 2 (omega arith) (λ z g. chosen f m live first second way (not (nat_eq x 0)) end far z h.0 e1 e2 to to' yes' no' g) c)
              (hears_done s plan variables fine go words far way alike goes at h.1 x),
        ))

    -- ---- structured code

    -- a list that is empty leads where code goes on
    nothing_done : (f : ℕ) (known : Facts) (code : Actions) (x : Exits) (here : ℕ) → does_nothing code ≡ true → Leads s plan program entries most widest f (exit here x.next.live) x.next → CodeDone s plan program entries most widest f known code (exit here (live code (ways_of x))) x
    nothing_done f known Done x here is ends = ends
    nothing_done f known (Do mark a k) x here is ends = absurd cc
    nothing_done f known (If mark b p q k) x here is ends = absurd cc
    nothing_done f known (Loop mark body step k) x here is ends = absurd cc

    nothing_short : (f : ℕ) (known : Facts) (code : Actions) (x : LiveWays) (leaves skips : ℕ) → does_nothing code ≡ true → length (code_of short plan variables f Settled known code x leaves skips) ≡ 0
    nothing_short f known Done x leaves skips is = refl
    nothing_short f known (Do mark a k) x leaves skips is = absurd cc
    nothing_short f known (If mark b p q k) x leaves skips is = absurd cc
    nothing_short f known (Loop mark body step k) x leaves skips is = absurd cc

    nothing_long : (f : ℕ) (known : Facts) (p q : Actions) (x : LiveWays) (leaves skips n : ℕ) → does_nothing p ≡ true → length (code_of short plan variables f Settled known p x leaves skips) + length (past_code short (does_nothing p || does_nothing q) n) ≡ 0
    nothing_long f known p q x leaves skips n is = (let a = nothing_short f known p x leaves skips is in let b : length (past_code short (does_nothing p || does_nothing q) n) ≡ 0 = rw is refl in omega arith)

    either_done : (f : ℕ) (known : Facts) (code : Actions) (x : Exits) (none : Bool) (there here : ℕ) → (none ≡ true → CodeDone s plan program entries most widest f known code (exit there (live code (ways_of x))) x) → (none ≡ false → CodeDone s plan program entries most widest f known code (exit here (live code (ways_of x))) x) → CodeDone s plan program entries most widest f known code (exit (if none then there else here) (live code (ways_of x))) x
    either_done f known code x true there here h k = h refl
    either_done f known code x false there here h k = k refl

    -- to what stands in the middle of code leads a branch over what is before it
    to_first : (none : Bool) (end n first past second : ℕ) → n ≡ (if none then second else first + past) → (none ≡ true → first + past ≡ 0) → (if none then end + first + past + second else end) ≡ (if none then end + n else end)
    to_first true end n first past second is empty = let no_words = empty refl in omega arith
    to_first false end n first past second is empty = refl

    to_second : (none : Bool) (end n first past second : ℕ) → n ≡ (if none then second else first + past) → (none ≡ true → first + past ≡ 0) → end + first + past ≡ (if none then end else end + n)
    to_second true end n first past second is empty = let no_words = empty refl in omega arith
    to_second false end n first past second is empty = omega arith

    ahead : (none : Bool) (n first past second : ℕ) → n ≡ (if none then second else first + past) → n ≤ first + past + second
    ahead true n first past second is = omega arith
    ahead false n first past second is = omega arith

    -- that the code of a list does it, wherever it stands
    abbrev CodeIs : ℕ → Facts → Actions → Type 0
    CodeIs f known code =
        (x : Exits) (leaves skips here : ℕ) → AreSettled x → Each (IsWanted plan s.copies entries (plan.leaf f)) IsWantedBranch code → AllByRecursion (IsRight (plan.home f) (variables f)) (lives code (ways_of x)) →
        CodeAt s.code here (code_of short plan variables f Settled known code (ways_of x) leaves skips) → lo ≤ here → here + length (code_of short plan variables f Settled known code (ways_of x) leaves skips) ≤ hi →
        here + length (code_of short plan variables f Settled known code (ways_of x) leaves skips) + leaves ≡ x.leaves.word → here + length (code_of short plan variables f Settled known code (ways_of x) leaves skips) + skips ≡ x.skips.word → x.leaves.word ≤ hi → x.skips.word ≤ hi →
        Leads s plan program entries most widest f (exit (here + length (code_of short plan variables f Settled known code (ways_of x) leaves skips)) x.next.live) x.next → CodeDone s plan program entries most widest f known code (exit here (live code (ways_of x))) x

    -- these words stand here, and lead where the code goes on
    abbrev Put : ℕ → List Inst → Exits → ℕ → ℕ → ℕ → Type 0
    Put f is x leaves skips here =
        CodeAt s.code here is × (here + length is ≤ hi) × (here + length is + leaves ≡ x.leaves.word) × (here + length is + skips ≡ x.skips.word) × Leads s plan program entries most widest f (exit (here + length is) x.next.live) x.next

    either_put : (c : Bool) (xs ys : List Inst) (f : ℕ) (x : Exits) (leaves skips here : ℕ) (D : Type 0) → (c ≡ true → Put f xs x leaves skips here → D) → (c ≡ false → Put f ys x leaves skips here → D) → Put f (if c then xs else ys) x leaves skips here → D
    either_put true xs ys f x leaves skips here D h k put = h refl put
    either_put false xs ys f x leaves skips here D h k put = k refl put

    turns_back_so : (f : ℕ) (t : Bool) (here there : Exit) → Turns s plan program entries most widest f here there → GoesBack s plan program entries most widest f t here there
    turns_back_so f true here there h = λ m p at. (let a = h m p at in comes_more s a.1.goes a.1.holds)
    turns_back_so f false here there h = h

    -- the test that is told is the turn's instruction
    back_here : (f : ℕ) (t : Bool) (here : Exit) → t ≡ true → GoesBack s plan program entries most widest f t here here
    back_here f true here e = λ m p h. comes_here s h
    back_here f false here e = absurd cc

    -- a loop whose turn ends with a jump back
    top_done : (f : ℕ) (known : Facts) (mark : Mark) (body step k : Actions) (x : Exits) (leaves skips here : ℕ) → CodeIs f (facts_at_turn plan.memory body step known) body → CodeIs f (facts_at_step plan.memory body step known) step → CodeIs f (facts_past_loop body step known) k → AreSettled x → Each (IsWanted plan s.copies entries (plan.leaf f)) IsWantedBranch (Loop mark body step k) → AllByRecursion (IsRight (plan.home f) (variables f)) (lives (Loop mark body step k) (ways_of x)) →
        lo ≤ here → x.leaves.word ≤ hi → x.skips.word ≤ hi → Put f (loop_code short (code_of short plan variables f Settled (facts_at_turn plan.memory body step known) body (body_ways body step (live k (ways_of x)))) (code_of short plan variables f Settled (facts_at_step plan.memory body step known) step (step_ways body step (live k (ways_of x))) (jump_words short) 0) (code_of short plan variables f Settled (facts_past_loop body step known) k (ways_of x) leaves skips)) x leaves skips here →
        CodeDone s plan program entries most widest f known (Loop mark body step k) (exit here (live (Loop mark body step k) (ways_of x))) x
    top_done f known mark body step k x leaves skips here in_body in_step in_rest settled wanted apart low near close put =
        let at = put.0 in let small = put.1 in let to_leave = put.2 in let to_skip = put.3 in let ends = put.4 in
        let after' : VariableSet = live k (ways_of x) in
        let rest : List Inst = code_of short plan variables f Settled (facts_past_loop body step known) k (ways_of x) leaves skips in
        let again_code : List Inst = code_of short plan variables f Settled (facts_at_step plan.memory body step known) step (step_ways body step after') (jump_words short) 0 in
        let turn_code : List Inst = code_of short plan variables f Settled (facts_at_turn plan.memory body step known) body (body_ways body step after') (length again_code + jump_words short) 0 in
        let n : ℕ = length turn_code + length again_code in
        let back : List Inst = jump_back short n in
        let l1 = length-append turn_code (again_code ++ (back ++ rest)) in
        let l2 = length-append again_code (back ++ rest) in
        let l3 = length-append back rest in
        let long = back_long short n in
        let again : ℕ = here + length turn_code in
        let end : ℕ = again + length again_code in
        let next : ℕ = end + length back in
        let d1 = code_drop s.code here turn_code (again_code ++ (back ++ rest)) at in
        let d2 = code_drop s.code again again_code (back ++ rest) d1 in
        let d3 = code_drop s.code end back rest d2 in
        let done : next + length rest ≡ here + length (turn_code ++ (again_code ++ (back ++ rest))) = omega arith in
        let lasts = all_right (IsRight (plan.home f) (variables f)) (lives body (body_ways body step after')) (lives step (step_ways body step after') ++ lives k (ways_of x)) apart.1 in (
          exit here (turn body step after'),
          exit again (live step (step_ways body step after')),
          exit end (turn body step after'),
          exit next after',
          (λ m r h. comes_here s h),
          subst (λ (v : VariableSet). CodeDone s plan program entries most widest f (facts_at_turn plan.memory body step known) body (exit here v) (exits (exit again (live step (step_ways body step after'))) (exit next after') (exit again (live step (step_ways body step after'))))) (turn_again body step after')
              (in_body (exits (exit again (live step (step_ways body step after'))) (exit next after') (exit again (live step (step_ways body step after')))) (length again_code + jump_words short) 0 here (record { leaves = refl; skips = refl }) wanted.0 (all_left (IsRight (plan.home f) (variables f)) (lives body (body_ways body step after')) (lives step (step_ways body step after') ++ lives k (ways_of x)) apart.1) (code_take s.code here turn_code (again_code ++ (back ++ rest)) at) low (omega arith) (omega arith) (omega arith) (omega arith) (omega arith)
              (λ m r h. comes_here s h)),
          in_step (exits (exit end (turn body step after')) (exit next after') (exit end (turn body step after'))) (jump_words short) 0 again (record { leaves = refl; skips = refl }) wanted.1 (all_left (IsRight (plan.home f) (variables f)) (lives step (step_ways body step after')) (lives k (ways_of x)) lasts) (code_take s.code again again_code (back ++ rest) d1) (omega arith) (omega arith) (omega arith) (omega arith) (omega arith) (omega arith)
              (λ m r h. comes_here s h),
          turns_back_so f (begins_told body) (exit end (turn body step after')) (exit here (turn body step after')) (λ m r h.
              (let a = turns_back s plan variables fine short here n (omega arith) (λ e. (let r = reach e in omega arith)) (subst (λ (j : ℕ). CodeAt s.code j back) (omega arith) (code_take s.code end back rest d2)) (subst (λ (j : ℕ). Stands plan (turn body step after') m j r) (omega arith) h.1) in
              (a.0, acts_map s (λ r c. comes_map s 1 (omega arith) (λ q g. (h.0, g)) c) a.1))),
          in_rest x leaves skips next settled wanted.2 (all_right (IsRight (plan.home f) (variables f)) (lives step (step_ways body step after')) (lives k (ways_of x)) lasts) d3 (omega arith) (omega arith) (omega arith) (omega arith) near close
              (subst (λ (j : ℕ). Leads s plan program entries most widest f (exit j x.next.live) x.next) (sym done) ends),
        )

    -- a list that only breaks
    breaks_done : (f : ℕ) (known : Facts) (code : Actions) (x : Exits) (here : ℕ) → only_leaves code ≡ true → x.leaves.standing ≡ Settled → here ≡ x.leaves.word → Leads s plan program entries most widest f (exit x.next.word x.next.live) x.next → CodeDone s plan program entries most widest f known code (exit here (live code (ways_of x))) x
    breaks_done f known (Do m Break Done) x here is settled there ends = (
      exit x.next.word (live Done (ways_of x)),
      (λ n p h. comes_here s (h.0, rw settled (stands_less s plan variables fine (λ u e. rw e refl) (subst (λ (j : ℕ). Stands plan (live (Do m Break Done) (ways_of x)) n j p) there h.1)))),
      nothing_done f known Done x x.next.word refl ends,
    )
    breaks_done f known code x here is settled there ends = absurd cc

    -- a loop whose test stands behind its step
    bottom_done : (f : ℕ) (known : Facts) (mark m : Mark) (b : Branch) (p q t step k : Actions) (x : Exits) (leaves skips here : ℕ) → leaves_first (If m b p q t) ≡ true → CodeIs f (facts_past_if b p q (facts_at_turn plan.memory (If m b p q t) step known)) t → CodeIs f (facts_at_step plan.memory (If m b p q t) step known) step → CodeIs f (facts_past_loop (If m b p q t) step known) k → AreSettled x → Each (IsWanted plan s.copies entries (plan.leaf f)) IsWantedBranch (Loop mark (If m b p q t) step k) → AllByRecursion (IsRight (plan.home f) (variables f)) (lives (Loop mark (If m b p q t) step k) (ways_of x)) →
        lo ≤ here → x.leaves.word ≤ hi → x.skips.word ≤ hi → Put f (bottom_code short (tail_of short plan variables f (facts_at_turn plan.memory (If m b p q t) step known) (If m b p q t) (body_ways (If m b p q t) step (live k (ways_of x)))) (code_of short plan variables f Settled (facts_at_step plan.memory (If m b p q t) step known) step (step_ways (If m b p q t) step (live k (ways_of x)))) (bottom_test (plan.home f) (If m b p q t)) (code_of short plan variables f Settled (facts_past_loop (If m b p q t) step known) k (ways_of x) leaves skips)) x leaves skips here →
        CodeDone s plan program entries most widest f known (Loop mark (If m b p q t) step k) (exit here (live (Loop mark (If m b p q t) step k) (ways_of x))) x
    bottom_done f known mark m b p q t step k x leaves skips here is in_tail in_step in_rest settled wanted apart low near close put =
        let at = put.0 in let small = put.1 in let to_leave = put.2 in let to_skip = put.3 in let ends = put.4 in
        let told = and_true (is_told b) (does_nothing p && only_leaves q) is in
        let two = and_true (does_nothing p) (only_leaves q) told.1 in
        let body : Actions = If m b p q t in
        let after' : VariableSet = live k (ways_of x) in
        let begins : VariableSet = turn body step after' in
        let ways' : LiveWays = body_ways body step after' in
        let inner : LiveWays = behind (live t ways') ways' in
        let rest : List Inst = code_of short plan variables f Settled (facts_past_loop (If m b p q t) step known) k (ways_of x) leaves skips in
        let words : ℕ = length (back_branch (plan.home f) b true 0) in
        let again_code : List Inst = code_of short plan variables f Settled (facts_at_step plan.memory (If m b p q t) step known) step (step_ways body step after') words 0 in
        let turn_code : List Inst = code_of short plan variables f Settled (facts_past_if b p q (facts_at_turn plan.memory (If m b p q t) step known)) t ways' (length again_code + words) 0 in
        let n : ℕ = length turn_code + length again_code in
        let jump : List Inst = jump_over short n in
        let test : List Inst = back_branch (plan.home f) b true n in
        let l0 = length-append jump (turn_code ++ (again_code ++ (test ++ rest))) in
        let l1 = length-append turn_code (again_code ++ (test ++ rest)) in
        let l2 = length-append again_code (test ++ rest) in
        let l3 = length-append test rest in
        let long = jump_long short n in
        let tested = back_branch_long (plan.home f) b true n in
        let tested' = back_branch_long (plan.home f) b true 0 in
        let top : ℕ = here + length jump in
        let again : ℕ = top + length turn_code in
        let end : ℕ = again + length again_code in
        let next : ℕ = end + length test in
        let d0 = code_drop s.code here jump (turn_code ++ (again_code ++ (test ++ rest))) at in
        let d1 = code_drop s.code top turn_code (again_code ++ (test ++ rest)) d0 in
        let d2 = code_drop s.code again again_code (test ++ rest) d1 in
        let d3 = code_drop s.code end test rest d2 in
        let done : next + length rest ≡ here + length (jump ++ (turn_code ++ (again_code ++ (test ++ rest)))) = omega arith in
        let of_body = all_left (IsRight (plan.home f) (variables f)) (lives body ways') (lives step (step_ways body step after') ++ lives k (ways_of x)) apart.1 in
        let of_lists = all_right (IsRight (plan.home f) (variables f)) (lives p inner) (lives q inner ++ lives t ways') of_body.1 in
        let lasts = all_right (IsRight (plan.home f) (variables f)) (lives body ways') (lives step (step_ways body step after') ++ lives k (ways_of x)) apart.1 in
        let again' : Exit = exit again (live step (step_ways body step after')) in
        let inside : Exits = exits again' (exit next after') again' in
        let behind' : Exits = record inside { next = exit top (live t ways') } in (
          exit end begins,
          again',
          exit end begins,
          exit next after',
          jumped f here n begins (exit end begins) refl low (omega arith) (code_take s.code here jump (turn_code ++ (again_code ++ (test ++ rest))) at) (omega arith) (λ u e. e),
          subst (λ (v : VariableSet). CodeDone s plan program entries most widest f (facts_at_turn plan.memory (If m b p q t) step known) body (exit end v) inside) (turn_again body step after') (
            exit top (live p inner),
            exit next (live q inner),
            exit top (live t ways'),
            branch_done f b true (live body ways') (exit top (live p inner)) (exit next (live q inner)) end (goes_back (n + before_branch (plan.home f) b true)) 1 top (back_long_all s plan variables fine (n + before_branch (plan.home f) b true)) (omega arith) (back_goes s plan variables fine (n + before_branch (plan.home f) b true) next top (omega arith) (omega arith)) (backs f b true n) refl refl wanted.0.0 (λ u e. rw e refl) (λ u e. rw e (any (decided b u) (live q inner u))) (λ u e. rw e (last (decided b u) (live p inner u)))
                (omega arith) (code_take s.code end test rest d2) refl refl,
            nothing_done f (facts_in_first b (facts_at_turn plan.memory (If m b p q t) step known)) p behind' top two.0 (λ m r h. comes_here s h),
            breaks_done f (facts_in_second b (facts_at_turn plan.memory (If m b p q t) step known)) q behind' next two.1 refl refl (λ m r h. comes_here s h),
            in_tail inside (length again_code + words) 0 top (record { leaves = refl; skips = refl }) wanted.0.3 (all_right (IsRight (plan.home f) (variables f)) (lives q inner) (lives t ways') of_lists) (code_take s.code top turn_code (again_code ++ (test ++ rest)) d0) (omega arith) (omega arith) (omega arith) (omega arith) (omega arith) (omega arith) (λ m r h. comes_here s h),
          ),
          in_step (exits (exit end begins) (exit next after') (exit end begins)) words 0 again (record { leaves = refl; skips = refl }) wanted.1 (all_left (IsRight (plan.home f) (variables f)) (lives step (step_ways body step after')) (lives k (ways_of x)) lasts) (code_take s.code again again_code (test ++ rest) d1) (omega arith) (omega arith) (omega arith) (omega arith) (omega arith) (omega arith) (λ m r h. comes_here s h),
          back_here f (is_told b) (exit end begins) told.0,
          in_rest x leaves skips next settled wanted.2 (all_right (IsRight (plan.home f) (variables f)) (lives step (step_ways body step after')) (lives k (ways_of x)) lasts) d3 (omega arith) (omega arith) (omega arith) (omega arith) near close
              (subst (λ (j : ℕ). Leads s plan program entries most widest f (exit j x.next.live) x.next) (sym done) ends),
        )

    pub code_done : (f : ℕ) (standing : VariableStanding) (known : Facts) (code : Actions) (x : Exits) (leaves skips here : ℕ) → Suits standing code (ways_of x) → AreLateNumbers standing → AreSettled x → Each (IsWanted plan s.copies entries (plan.leaf f)) IsWantedBranch code → AllByRecursion (IsRight (plan.home f) (variables f)) (lives code (ways_of x)) →
        CodeAt s.code here (code_of short plan variables f standing known code (ways_of x) leaves skips) → lo ≤ here → here + length (code_of short plan variables f standing known code (ways_of x) leaves skips) ≤ hi →
        here + length (code_of short plan variables f standing known code (ways_of x) leaves skips) + leaves ≡ x.leaves.word → here + length (code_of short plan variables f standing known code (ways_of x) leaves skips) + skips ≡ x.skips.word → x.leaves.word ≤ hi → x.skips.word ≤ hi →
        Leads s plan program entries most widest f (exit (here + length (code_of short plan variables f standing known code (ways_of x) leaves skips)) x.next.live) x.next → CodeDone s plan program entries most widest f known code (entered_at standing code (ways_of x) here) x
    code_done f Settled known Done x leaves skips here suits numbers settled wanted apart at low small to_leave to_skip near close ends =
        let same : here + 0 ≡ here = omega arith in
        subst (λ (j : ℕ). Leads s plan program entries most widest f (exit j x.next.live) x.next) same ends
    code_done f (Early v y) known Done x leaves skips here suits numbers settled wanted apart at low small to_leave to_skip near close ends = absurd suits
    code_done f (Late t y) known Done x leaves skips here suits numbers settled wanted apart at low small to_leave to_skip near close ends = absurd suits
    code_done f standing known (Do mark a k) x leaves skips here suits numbers settled wanted apart at low small to_leave to_skip near close ends =
        let standing' : VariableStanding = standing_behind a k (ways_of x) in
        let rest : List Inst = code_of short plan variables f standing' (facts_behind plan.memory a known) k (ways_of x) leaves skips in
        let block : List Inst = block_code plan variables f (need_of plan.memory known a k) standing a standing' (live k (ways_of x)) (jump_over short (length rest + leaves)) (jump_over short (length rest + skips)) in
        let both = length-append block rest in
        let place : here + length block + length rest ≡ here + length (block ++ rest) = omega arith in
        let step = step_done f known standing mark a k x (length rest + leaves) (length rest + skips) here suits numbers settled wanted.0 wanted.1 apart.0 apart.1 (code_take s.code here block rest at) low (omega arith) (omega arith) (omega arith) near close in (
          entered_at standing' k (ways_of x) (here + length block),
          step.0,
          code_done f standing' (facts_behind plan.memory a known) k x leaves skips (here + length block) (suits_behind a k (ways_of x)) step.1 settled wanted.1 apart.1 (code_drop s.code here block rest at) (omega arith) (omega arith) (omega arith) (omega arith) near close
              (subst (λ (j : ℕ). Leads s plan program entries most widest f (exit j x.next.live) x.next) (sym place) ends),
        )
    code_done f Settled known (If mark b p q k) x leaves skips here suits numbers settled wanted apart at low small to_leave to_skip near close ends =
        let ways' : LiveWays = behind (live k (ways_of x)) (ways_of x) in
        let none : Bool = does_nothing p in
        let rest : List Inst = code_of short plan variables f Settled (facts_past_if b p q known) k (ways_of x) leaves skips in
        let second : List Inst = code_of short plan variables f Settled (facts_in_second b known) q ways' (length rest + leaves) (length rest + skips) in
        let past : List Inst = past_code short (none || does_nothing q) (length second) in
        let far : ℕ = length past + length second + length rest in
        let first : List Inst = code_of short plan variables f Settled (facts_in_first b known) p ways' (far + leaves) (far + skips) in
        let n : ℕ = if none then length second else length first + length past in
        let test : List Inst = branch_code (plan.home f) short b none n in
        let l1 = length-append test (first ++ (past ++ (second ++ rest))) in
        let l2 = length-append first (past ++ (second ++ rest)) in
        let l3 = length-append past (second ++ rest) in
        let l4 = length-append second rest in
        let a1 : ℕ = here + length test in
        let a2 : ℕ = a1 + length first + length past in
        let a3 : ℕ = a2 + length second in
        let d1 = code_drop s.code here test (first ++ (past ++ (second ++ rest))) at in
        let d2 = code_drop s.code a1 first (past ++ (second ++ rest)) d1 in
        let d3 = code_drop s.code (a1 + length first) past (second ++ rest) d2 in
        let d4 = code_drop s.code a2 second rest d3 in
        let empty : none ≡ true → length first + length past ≡ 0 = λ e. nothing_long f (facts_in_first b known) p q ways' (far + leaves) (far + skips) (length second) e in
        let over = ahead none n (length first) (length past) (length second) refl in
        let done : a3 + length rest ≡ here + length (test ++ (first ++ (past ++ (second ++ rest)))) = omega arith in
        let x' : Exits = record x { next = exit a3 (live k (ways_of x)) } in
        let behind_first = all_right (IsRight (plan.home f) (variables f)) (lives p ways') (lives q ways' ++ lives k (ways_of x)) apart.1 in (
          exit (if none then a3 else a1) (live p ways'),
          exit a2 (live q ways'),
          exit a3 (live k (ways_of x)),
          branch_done f b none (live (If mark b p q k) (ways_of x)) (exit (if none then a3 else a1) (live p ways')) (exit a2 (live q ways')) here (ahead_by short n) (length (goes_code short NotEqual 29 0 n)) (a1 + n) (ahead_long s plan variables fine short n) (hears_some short true n) (ahead_goes s plan variables fine short n a1 (omega arith) (λ e. (let r = reach e in omega arith))) (branches f b none n) refl refl wanted.0 (λ u e. rw e refl) (λ u e. rw e (any (decided b u) (live q ways' u))) (λ u e. rw e (last (decided b u) (live p ways' u)))
              (omega arith) (code_take s.code here test (first ++ (past ++ (second ++ rest))) at) (to_first none a1 n (length first) (length past) (length second) refl empty) (to_second none a1 n (length first) (length past) (length second) refl empty),
          either_done f (facts_in_first b known) p x' none a3 a1 (λ e. nothing_done f (facts_in_first b known) p x' a3 e (λ m r h. comes_here s h))
              (λ e. code_done f Settled (facts_in_first b known) p x' (far + leaves) (far + skips) a1 tt tt (record { leaves = settled.leaves; skips = settled.skips }) wanted.1 (all_left (IsRight (plan.home f) (variables f)) (lives p ways') (lives q ways' ++ lives k (ways_of x)) apart.1) (code_take s.code a1 first (past ++ (second ++ rest)) d1) (omega arith) (omega arith) (omega arith) (omega arith) near close
              (let same : past_code short (none || does_nothing q) (length second) ≡ past_code short (does_nothing q) (length second) = rw e refl in
              let past_at : CodeAt s.code (a1 + length first) (past_code short (does_nothing q) (length second)) = subst (λ (is : List Inst). CodeAt s.code (a1 + length first) is) same (code_take s.code (a1 + length first) past (second ++ rest) d2) in
              let long = ap length same in
              passed f (a1 + length first) (length second) a3 (live k (ways_of x)) (does_nothing q) (λ e'. nothing_short f (facts_in_second b known) q ways' (length rest + leaves) (length rest + skips) e') (omega arith) (omega arith) past_at (omega arith))),
          code_done f Settled (facts_in_second b known) q x' (length rest + leaves) (length rest + skips) a2 tt tt (record { leaves = settled.leaves; skips = settled.skips }) wanted.2 (all_left (IsRight (plan.home f) (variables f)) (lives q ways') (lives k (ways_of x)) behind_first) (code_take s.code a2 second rest d3) (omega arith) (omega arith) (omega arith) (omega arith) near close
              (λ m r h. comes_here s h),
          code_done f Settled (facts_past_if b p q known) k x leaves skips a3 tt tt settled wanted.3 (all_right (IsRight (plan.home f) (variables f)) (lives q ways') (lives k (ways_of x)) behind_first) d4 (omega arith) (omega arith) (omega arith) (omega arith) near close
              (subst (λ (j : ℕ). Leads s plan program entries most widest f (exit j x.next.live) x.next) (sym done) ends),
        )
    code_done f (Early v y) known (If mark b p q k) x leaves skips here suits numbers settled wanted apart at low small to_leave to_skip near close ends = absurd suits
    code_done f (Late t y) known (If mark b p q k) x leaves skips here suits numbers settled wanted apart at low small to_leave to_skip near close ends = absurd suits
    code_done f Settled known (Loop mark Done step k) x leaves skips here suits numbers settled wanted apart at low small to_leave to_skip near close ends =
        top_done f known mark Done step k x leaves skips here (λ x leaves skips here settled wanted apart at low small to_leave to_skip near close ends. code_done f Settled (facts_at_turn plan.memory Done step known) Done x leaves skips here tt tt settled wanted apart at low small to_leave to_skip near close ends) (λ x leaves skips here settled wanted apart at low small to_leave to_skip near close ends. code_done f Settled (facts_at_step plan.memory Done step known) step x leaves skips here tt tt settled wanted apart at low small to_leave to_skip near close ends) (λ x leaves skips here settled wanted apart at low small to_leave to_skip near close ends. code_done f Settled (facts_past_loop Done step known) k x leaves skips here tt tt settled wanted apart at low small to_leave to_skip near close ends) settled wanted apart low near close (at, small, to_leave, to_skip, ends)
    code_done f Settled known (Loop mark (Do m a t) step k) x leaves skips here suits numbers settled wanted apart at low small to_leave to_skip near close ends =
        top_done f known mark (Do m a t) step k x leaves skips here (λ x leaves skips here settled wanted apart at low small to_leave to_skip near close ends. code_done f Settled (facts_at_turn plan.memory (Do m a t) step known) (Do m a t) x leaves skips here tt tt settled wanted apart at low small to_leave to_skip near close ends) (λ x leaves skips here settled wanted apart at low small to_leave to_skip near close ends. code_done f Settled (facts_at_step plan.memory (Do m a t) step known) step x leaves skips here tt tt settled wanted apart at low small to_leave to_skip near close ends) (λ x leaves skips here settled wanted apart at low small to_leave to_skip near close ends. code_done f Settled (facts_past_loop (Do m a t) step known) k x leaves skips here tt tt settled wanted apart at low small to_leave to_skip near close ends) settled wanted apart low near close (at, small, to_leave, to_skip, ends)
    code_done f Settled known (Loop mark (Loop m body again t) step k) x leaves skips here suits numbers settled wanted apart at low small to_leave to_skip near close ends =
        top_done f known mark (Loop m body again t) step k x leaves skips here (λ x leaves skips here settled wanted apart at low small to_leave to_skip near close ends. code_done f Settled (facts_at_turn plan.memory (Loop m body again t) step known) (Loop m body again t) x leaves skips here tt tt settled wanted apart at low small to_leave to_skip near close ends) (λ x leaves skips here settled wanted apart at low small to_leave to_skip near close ends. code_done f Settled (facts_at_step plan.memory (Loop m body again t) step known) step x leaves skips here tt tt settled wanted apart at low small to_leave to_skip near close ends) (λ x leaves skips here settled wanted apart at low small to_leave to_skip near close ends. code_done f Settled (facts_past_loop (Loop m body again t) step known) k x leaves skips here tt tt settled wanted apart at low small to_leave to_skip near close ends) settled wanted apart low near close (at, small, to_leave, to_skip, ends)
    code_done f Settled known (Loop mark (If m b p q t) step k) x leaves skips here suits numbers settled wanted apart at low small to_leave to_skip near close ends =
        either_put (has_bottom (If m b p q t) step)
        (bottom_code short (tail_of short plan variables f (facts_at_turn plan.memory (If m b p q t) step known) (If m b p q t) (body_ways (If m b p q t) step (live k (ways_of x)))) (code_of short plan variables f Settled (facts_at_step plan.memory (If m b p q t) step known) step (step_ways (If m b p q t) step (live k (ways_of x)))) (bottom_test (plan.home f) (If m b p q t)) (code_of short plan variables f Settled (facts_past_loop (If m b p q t) step known) k (ways_of x) leaves skips))
        (loop_code short (code_of short plan variables f Settled (facts_at_turn plan.memory (If m b p q t) step known) (If m b p q t) (body_ways (If m b p q t) step (live k (ways_of x)))) (code_of short plan variables f Settled (facts_at_step plan.memory (If m b p q t) step known) step (step_ways (If m b p q t) step (live k (ways_of x))) (jump_words short) 0) (code_of short plan variables f Settled (facts_past_loop (If m b p q t) step known) k (ways_of x) leaves skips))
        f x leaves skips here _
        (λ e. bottom_done f known mark m b p q t step k x leaves skips here (and_true (leaves_first (If m b p q t)) (is_near (If m b p q t) step) e).0 (λ x leaves skips here settled wanted apart at low small to_leave to_skip near close ends. code_done f Settled (facts_past_if b p q (facts_at_turn plan.memory (If m b p q t) step known)) t x leaves skips here tt tt settled wanted apart at low small to_leave to_skip near close ends) (λ x leaves skips here settled wanted apart at low small to_leave to_skip near close ends. code_done f Settled (facts_at_step plan.memory (If m b p q t) step known) step x leaves skips here tt tt settled wanted apart at low small to_leave to_skip near close ends) (λ x leaves skips here settled wanted apart at low small to_leave to_skip near close ends. code_done f Settled (facts_past_loop (If m b p q t) step known) k x leaves skips here tt tt settled wanted apart at low small to_leave to_skip near close ends) settled wanted apart low near close)
        (λ e. top_done f known mark (If m b p q t) step k x leaves skips here (λ x leaves skips here settled wanted apart at low small to_leave to_skip near close ends. code_done f Settled (facts_at_turn plan.memory (If m b p q t) step known) (If m b p q t) x leaves skips here tt tt settled wanted apart at low small to_leave to_skip near close ends) (λ x leaves skips here settled wanted apart at low small to_leave to_skip near close ends. code_done f Settled (facts_at_step plan.memory (If m b p q t) step known) step x leaves skips here tt tt settled wanted apart at low small to_leave to_skip near close ends) (λ x leaves skips here settled wanted apart at low small to_leave to_skip near close ends. code_done f Settled (facts_past_loop (If m b p q t) step known) k x leaves skips here tt tt settled wanted apart at low small to_leave to_skip near close ends) settled wanted apart low near close)
        (at, small, to_leave, to_skip, ends)
    code_done f (Early v y) known (Loop mark body step k) x leaves skips here suits numbers settled wanted apart at low small to_leave to_skip near close ends = absurd suits
    code_done f (Late t y) known (Loop mark body step k) x leaves skips here suits numbers settled wanted apart at low small to_leave to_skip near close ends = absurd suits
