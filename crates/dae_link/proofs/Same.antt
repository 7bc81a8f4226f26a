-- How long code is doesn't depend on the words at which functions are entered, nor does code that makes no call.
use Rattle.std.proofs.Common.{◌≡◌, ℕ, ◌+◌, Bool, true, false, ◌||◌, List, [], ◌∷◌, ◌++◌, length, refl, ap, sym, ◌∙◌, arith, length-append}
use Rattle.std.specs.Prelude.{Option, Some, None, is_some, if◌then◌else◌}
use Rattle.dae_encode.specs.declared.Inst.{Inst}
use Rattle.dae_ir.specs.Code.{Done, Do, If, Loop}
use Rattle.dae_ir.specs.Classes.{VariableSet}
use Rattle.dae_ir.specs.Streams.{Actions}
use Rattle.dae_ir.specs.declared.form.Check.{Check}
use Rattle.dae_ir.specs.declared.form.Check.TheVariants.{Place, InBounds, Zero, Room, Frame, Abort}
use Rattle.dae_ir.specs.declared.stream.Argument.{Argument}
use Rattle.dae_ir.specs.declared.stream.Action.{Action}
use Rattle.dae_ir.specs.declared.stream.Action.TheVariants.{Set as Compute, Issue, Own, Receive, Address, Datum, Offer, Accept, Emit, Probe, Tell, Hear, Stop, Break, Continue, Call, Return}
use Rattle.dae_select_walks.specs.Live.{LiveWays, behind, live, nowhere, step_ways, body_ways}
use Rattle.dae_select_walks.specs.Facts.{Facts, unknown, facts_behind, facts_in_first, facts_in_second, facts_past_if, facts_at_turn, facts_at_step, facts_past_loop, need_of}
use Rattle.dae_select_walks.specs.declared.Need.{Need}
use Rattle.dae_select_walks.specs.declared.Need.TheVariants.{All, Ends, Nothing}
use Rattle.dae_select_walks.specs.declared.Home.{Home}
use Rattle.dae_select_walks.specs.declared.Home.TheVariants.{Register, Slot}
use Rattle.dae_select_walks.specs.Agrees.{Plan}
use Rattle.dae_select_blocks.specs.Blocks.{arguments_code, argument_code, save_code, deeper_code, check_code, enter_code, jump_words, jump_over, jump_back, argument_to, parameter_to, parameter_code, parameters_code}
use Rattle.dae_select_blocks.specs.Sizes.{calls_in, is_short, one_call}
use Rattle.dae_select_walks.specs.declared.VariableStanding.{VariableStanding}
use Rattle.dae_select_walks.specs.declared.VariableStanding.TheVariants.{Settled, Early, Late}
use Rattle.dae_select_blocks.specs.Code.{registers_in, standing_behind, is_dead, needed_code, block_code, action_code, branch_code, does_nothing, past_code, call_code, back_branch, has_bottom, loop_code, bottom_code, code_of, function_code, entry_code, unspared}
use Rattle.dae_select.specs.Grown.{Grown, acting, from_front, glue, in_front}
use Rattle.dae_select.specs.Growing.{bottom_of, function_places, marked_code, marked_tail, turned, words_behind}
use Rattle.dae_select.specs.declared.functions.FunctionCode.{FunctionCode}
use Rattle.dae_select.specs.declared.making.PlacedBranch.{PlacedBranch}
use Rattle.dae_select.proofs.Laws.{same_code}
use Rattle.dae_link.specs.LeafCodes.{IsLeafCode}

-- lists with parts that are as long are as long
pub both_long : (xs xs' ys ys' : List Inst) → length xs ≡ length xs' → length ys ≡ length ys' → length (xs ++ ys) ≡ length (xs' ++ ys')
both_long xs xs' ys ys' h k = length-append xs ys ∙ (ap (λ (n : ℕ). n + length ys) h ∙ ap (λ (n : ℕ). length xs' + n) k) ∙ sym (length-append xs' ys')

over_long : (short : Bool) (m n : ℕ) → length (jump_over short m) ≡ length (jump_over short n)
over_long true m n = refl
over_long false m n = refl

back_long : (short : Bool) (m n : ℕ) → length (jump_back short m) ≡ length (jump_back short n)
back_long true m n = refl
back_long false m n = refl

pub enter_same : (near : Bool) (v w : ℕ) → length (enter_code near v) ≡ length (enter_code near w)
enter_same true v w = refl
enter_same false v w = refl

-- what is nothing with something else is nothing
first_none : (m n : ℕ) → m + n ≡ 0 → m ≡ 0
first_none m n h = omega (arith, h)

rest_none : (m n : ℕ) → m + n ≡ 0 → n ≡ 0
rest_none m n h = omega (arith, h)

either_same : (c : Bool) (x x' y y' : Grown) → x ≡ x' → y ≡ y' → (if c then x else y) ≡ (if c then x' else y')
either_same true x x' y y' e h = e
either_same false x x' y y' e h = h

-- the plan with the functions at other words
abbrev pub at_words : Plan → (ℕ → ℕ) → (ℕ → ℕ) → ℕ → Plan
at_words p entry start finish = record {
  by_a = p.by_a;
  functions = p.functions;
  home = p.home;
  entry = entry;
  start = start;
  words = p.words;
  frame = p.frame;
  leaf = p.leaf;
  frameless = p.frameless;
  spares = p.spares;
  near = p.near;
  finish = finish;
  largest = p.largest;
  private = p.private;
  limit = p.limit;
  memory = p.memory;
  residents = p.residents;
}

module _ (p : Plan) (entry start : ℕ → ℕ) (finish : ℕ) (variables : ℕ → ℕ) (f : ℕ) where
  abbrev q : Plan
  q = at_words p entry start finish

  argument_same : (g : ℕ) (xs : List Argument) (x : Argument) → argument_code q f g xs x ≡ argument_code p f g xs x
  argument_same g xs x = by (p.home g x.parameter)
    where
      by : (home : Home) → argument_to q f g xs home x.operand ≡ argument_to p f g xs home x.operand
      by (Register r) = refl
      by (Slot i) = refl

  arguments_same : (g : ℕ) (xs : List Argument) → arguments_code q f g xs ≡ arguments_code p f g xs
  arguments_same g [] = refl
  arguments_same g (x ∷ xs) =
      ap (λ (is : List Inst). is ++ argument_code q f g xs x) (arguments_same g xs) ∙ ap (λ (is : List Inst). arguments_code p f g xs ++ is) (argument_same g xs x)

  parameter_same : (g : ℕ) (xs : List Argument) (x : Argument) → parameter_code q f g xs x ≡ parameter_code p f g xs x
  parameter_same g xs x = by (p.home g x.parameter)
    where
      by : (home : Home) → parameter_to q f g xs home x.operand ≡ parameter_to p f g xs home x.operand
      by (Register r) = refl
      by (Slot i) = refl

  parameters_same : (g : ℕ) (xs : List Argument) → parameters_code q f g xs ≡ parameters_code p f g xs
  parameters_same g [] = refl
  parameters_same g (x ∷ xs) =
      ap (λ (is : List Inst). is ++ parameter_code q f g xs x) (parameters_same g xs) ∙ ap (λ (is : List Inst). parameters_code p f g xs ++ is) (parameter_same g xs x)

  check_same : (check : Check) → check_code q f check ≡ check_code p f check
  check_same (Place width x) = refl
  check_same (InBounds x offset) = refl
  check_same (Zero x) = refl
  check_same (Room g) = refl
  check_same Frame = refl
  check_same Abort = refl

  call_long : (v : Option ℕ) (g : ℕ) (xs : List Argument) (k : VariableSet) → length (call_code q variables f v g xs k) ≡ length (call_code p variables f v g xs k)
  call_long v g xs k =
      both_long (arguments_code q f g xs) (arguments_code p f g xs) _ _ (ap length (arguments_same g xs))
      (both_long (save_code (registers_in (p.home f) (variables f) (unspared p f g k))) (save_code (registers_in (p.home f) (variables f) (unspared p f g k))) _ _ refl
      (both_long (parameters_code q f g xs) (parameters_code p f g xs) _ _ (ap length (parameters_same g xs))
      (both_long (deeper_code q f g) (deeper_code p f g) _ _ refl (both_long (enter_code p.near (entry g)) (enter_code p.near (p.entry g)) _ _ (enter_same p.near (entry g) (p.entry g)) refl))))

  module _ (short : Bool) where
    -- nor on how far jumps lead
    action_long : (a : Action) (k : VariableSet) (l s m t : ℕ) → length (action_code q variables f a k (jump_over short l) (jump_over short s)) ≡ length (action_code p variables f a k (jump_over short m) (jump_over short t))
    action_long (Compute v x) k l s m t = refl
    action_long (Issue kind x) k l s m t = refl
    action_long (Own v kind x) k l s m t = refl
    action_long (Receive v) k l s m t = refl
    action_long (Address width x) k l s m t = refl
    action_long (Datum x) k l s m t = refl
    action_long (Offer v) k l s m t = refl
    action_long (Accept v) k l s m t = refl
    action_long (Emit spelling x) k l s m t = refl
    action_long (Probe check) k l s m t = ap length (check_same check)
    action_long (Tell x) k l s m t = refl
    action_long (Hear only) k l s m t = refl
    action_long (Stop x) k l s m t = refl
    action_long Break k l s m t = over_long short l m
    action_long Continue k l s m t = over_long short s t
    action_long (Call v g xs) k l s m t = call_long v g xs _
    action_long (Return x) k l s m t = refl

    settled_long : (need : Need) (a : Action) (k : VariableSet) (l s m t : ℕ) → length (needed_code q variables f need a k (jump_over short l) (jump_over short s)) ≡ length (needed_code p variables f need a k (jump_over short m) (jump_over short t))
    settled_long Nothing a k l s m t = refl
    settled_long Ends a k l s m t = refl
    settled_long All a k l s m t = action_long a k l s m t

    either_long : (c : Bool) (xs xs' ys ys' : List Inst) → length xs ≡ length xs' → length ys ≡ length ys' → length (if c then xs else ys) ≡ length (if c then xs' else ys')
    either_long true xs xs' ys ys' h k = h
    either_long false xs xs' ys ys' h k = k

    block_long : (need : Need) (g : VariableStanding) (a : Action) (g' : VariableStanding) (k : VariableSet) (l s m t : ℕ) → length (block_code q variables f need g a g' k (jump_over short l) (jump_over short s)) ≡ length (block_code p variables f need g a g' k (jump_over short m) (jump_over short t))
    block_long need Settled a Settled k l s m t = either_long (is_dead a k) [] [] _ _ refl (settled_long need a k l s m t)
    block_long need Settled a (Early v x) k l s m t = refl
    block_long need Settled a (Late v x) k l s m t = refl
    block_long need (Early v x) a g' k l s m t = refl
    block_long need (Late v x) a g' k l s m t = refl

    -- however far what leaves it leads
    abbrev AreLong : (ℕ → ℕ → List Inst) → (ℕ → ℕ → List Inst) → Type 0
    AreLong xs xs' = (l s m t : ℕ) → length (xs l s) ≡ length (xs' m t)

    top_long : (body body' : ℕ → ℕ → List Inst) (again again' rest rest' : List Inst) → AreLong body body' → length again ≡ length again' → length rest ≡ length rest' → length (loop_code short body again rest) ≡ length (loop_code short body' again' rest')
    top_long body body' again again' rest rest' one two more =
        let turned = body (length again + jump_words short) 0 in let turned' = body' (length again' + jump_words short) 0 in
        let back = jump_back short (length turned + length again) in let back' = jump_back short (length turned' + length again') in
        both_long turned turned' (again ++ (back ++ rest)) (again' ++ (back' ++ rest')) (one (length again + jump_words short) 0 (length again' + jump_words short) 0)
        (both_long again again' (back ++ rest) (back' ++ rest') two (both_long back back' rest rest' (back_long short (length turned + length again) (length turned' + length again')) more))

    bottom_long : (test : ℕ → List Inst) (tail tail' step step' : ℕ → ℕ → List Inst) (rest rest' : List Inst) → AreLong tail tail' → AreLong step step' → length rest ≡ length rest' → length (bottom_code short tail step test rest) ≡ length (bottom_code short tail' step' test rest')
    bottom_long test tail tail' step step' rest rest' one two more =
        let words : ℕ = length (test 0) in
        let again = step words 0 in let again' = step' words 0 in
        let turned = tail (length again + words) 0 in let turned' = tail' (length again' + words) 0 in
        let e1 : length turned ≡ length turned' = one (length again + words) 0 (length again' + words) 0 in
        let e2 : length again ≡ length again' = two words 0 words 0 in
        let n = length turned + length again in let n' = length turned' + length again' in
        let same : n ≡ n' = ap (λ (w : ℕ). w + length again) e1 ∙ ap (λ (w : ℕ). length turned' + w) e2 in
        both_long (jump_over short n) (jump_over short n') (turned ++ (again ++ (test n ++ rest))) (turned' ++ (again' ++ (test n' ++ rest'))) (over_long short n n')
        (both_long turned turned' (again ++ (test n ++ rest)) (again' ++ (test n' ++ rest')) e1
        (both_long again again' (test n ++ rest) (test n' ++ rest') e2 (both_long (test n) (test n') rest rest' (ap (λ (w : ℕ). length (test w)) same) more)))

    code_long : (g : VariableStanding) (known : Facts) (code : Actions) (x : LiveWays) (l s m t : ℕ) → length (code_of short q variables f g known code x l s) ≡ length (code_of short p variables f g known code x m t)
    code_long g known Done x l s m t = refl
    code_long g known (Do mark a k) x l s m t = both_long _ _ _ _ (block_long (need_of p.memory known a k) g a (standing_behind a k x) (live k x) _ _ _ _) (code_long (standing_behind a k x) (facts_behind p.memory a known) k x l s m t)
    code_long g known (If mark b y n k) x l s m t =
        let none = does_nothing y in let none' = none || does_nothing n in
        let rest = code_of short q variables f Settled (facts_past_if b y n known) k x l s in let rest' = code_of short p variables f Settled (facts_past_if b y n known) k x m t in
        let second = code_of short q variables f Settled (facts_in_second b known) n (behind (live k x) x) (length rest + l) (length rest + s) in
        let second' = code_of short p variables f Settled (facts_in_second b known) n (behind (live k x) x) (length rest' + m) (length rest' + t) in
        let two : length second ≡ length second' = code_long Settled (facts_in_second b known) n (behind (live k x) x) _ _ _ _ in
        let past = past_code short none' (length second) in let past' = past_code short none' (length second') in
        let over : length past ≡ length past' = ap (λ (w : ℕ). length (past_code short none' w)) two in
        let far = length past + length second + length rest in let far' = length past' + length second' + length rest' in
        let first = code_of short q variables f Settled (facts_in_first b known) y (behind (live k x) x) (far + l) (far + s) in
        let first' = code_of short p variables f Settled (facts_in_first b known) y (behind (live k x) x) (far' + m) (far' + t) in
        let one : length first ≡ length first' = code_long Settled (facts_in_first b known) y (behind (live k x) x) _ _ _ _ in
        let led : (if none then length second else length first + length past) ≡ (if none then length second' else length first' + length past') =
        ap (λ (w : ℕ). if none then w else length first + length past) two ∙ ap (λ (w : ℕ). if none then length second' else w + length past) one ∙ ap (λ (w : ℕ). if none then length second' else length first' + w) over in
        both_long (branch_code (p.home f) short b none (if none then length second else length first + length past)) (branch_code (p.home f) short b none (if none then length second' else length first' + length past')) _ _
        (ap (λ (w : ℕ). length (branch_code (p.home f) short b none w)) led)
        (both_long first first' _ _ one (both_long past past' _ _ over (both_long second second' _ _ two (code_long Settled (facts_past_if b y n known) k x l s m t))))
    code_long g known (Loop mark Done step k) x l s m t =
        top_long (code_of short q variables f Settled (facts_at_turn p.memory Done step known) Done (body_ways Done step (live k x))) (code_of short p variables f Settled (facts_at_turn p.memory Done step known) Done (body_ways Done step (live k x)))
        (code_of short q variables f Settled (facts_at_step p.memory Done step known) step (step_ways Done step (live k x)) (jump_words short) 0) (code_of short p variables f Settled (facts_at_step p.memory Done step known) step (step_ways Done step (live k x)) (jump_words short) 0)
        (code_of short q variables f Settled (facts_past_loop Done step known) k x l s) (code_of short p variables f Settled (facts_past_loop Done step known) k x m t)
        (code_long Settled (facts_at_turn p.memory Done step known) Done (body_ways Done step (live k x))) (code_long Settled (facts_at_step p.memory Done step known) step (step_ways Done step (live k x)) (jump_words short) 0 (jump_words short) 0) (code_long Settled (facts_past_loop Done step known) k x l s m t)
    code_long g known (Loop mark (Do mark' a u) step k) x l s m t =
        top_long (code_of short q variables f Settled (facts_at_turn p.memory (Do mark' a u) step known) (Do mark' a u) (body_ways (Do mark' a u) step (live k x))) (code_of short p variables f Settled (facts_at_turn p.memory (Do mark' a u) step known) (Do mark' a u) (body_ways (Do mark' a u) step (live k x)))
        (code_of short q variables f Settled (facts_at_step p.memory (Do mark' a u) step known) step (step_ways (Do mark' a u) step (live k x)) (jump_words short) 0) (code_of short p variables f Settled (facts_at_step p.memory (Do mark' a u) step known) step (step_ways (Do mark' a u) step (live k x)) (jump_words short) 0)
        (code_of short q variables f Settled (facts_past_loop (Do mark' a u) step known) k x l s) (code_of short p variables f Settled (facts_past_loop (Do mark' a u) step known) k x m t)
        (code_long Settled (facts_at_turn p.memory (Do mark' a u) step known) (Do mark' a u) (body_ways (Do mark' a u) step (live k x))) (code_long Settled (facts_at_step p.memory (Do mark' a u) step known) step (step_ways (Do mark' a u) step (live k x)) (jump_words short) 0 (jump_words short) 0) (code_long Settled (facts_past_loop (Do mark' a u) step known) k x l s m t)
    code_long g known (Loop mark (Loop mark' y n u) step k) x l s m t =
        top_long (code_of short q variables f Settled (facts_at_turn p.memory (Loop mark' y n u) step known) (Loop mark' y n u) (body_ways (Loop mark' y n u) step (live k x))) (code_of short p variables f Settled (facts_at_turn p.memory (Loop mark' y n u) step known) (Loop mark' y n u) (body_ways (Loop mark' y n u) step (live k x)))
        (code_of short q variables f Settled (facts_at_step p.memory (Loop mark' y n u) step known) step (step_ways (Loop mark' y n u) step (live k x)) (jump_words short) 0) (code_of short p variables f Settled (facts_at_step p.memory (Loop mark' y n u) step known) step (step_ways (Loop mark' y n u) step (live k x)) (jump_words short) 0)
        (code_of short q variables f Settled (facts_past_loop (Loop mark' y n u) step known) k x l s) (code_of short p variables f Settled (facts_past_loop (Loop mark' y n u) step known) k x m t)
        (code_long Settled (facts_at_turn p.memory (Loop mark' y n u) step known) (Loop mark' y n u) (body_ways (Loop mark' y n u) step (live k x))) (code_long Settled (facts_at_step p.memory (Loop mark' y n u) step known) step (step_ways (Loop mark' y n u) step (live k x)) (jump_words short) 0 (jump_words short) 0) (code_long Settled (facts_past_loop (Loop mark' y n u) step known) k x l s m t)
    code_long g known (Loop mark (If mark' b y n u) step k) x l s m t =
        let ways' = body_ways (If mark' b y n u) step (live k x) in let ways'' = step_ways (If mark' b y n u) step (live k x) in
        let more = code_long Settled (facts_past_loop (If mark' b y n u) step known) k x l s m t in
        either_long (has_bottom (If mark' b y n u) step) _ _ _ _
        (bottom_long (back_branch (p.home f) b true) (code_of short q variables f Settled (facts_past_if b y n (facts_at_turn p.memory (If mark' b y n u) step known)) u ways') (code_of short p variables f Settled (facts_past_if b y n (facts_at_turn p.memory (If mark' b y n u) step known)) u ways') (code_of short q variables f Settled (facts_at_step p.memory (If mark' b y n u) step known) step ways'') (code_of short p variables f Settled (facts_at_step p.memory (If mark' b y n u) step known) step ways'')
        (code_of short q variables f Settled (facts_past_loop (If mark' b y n u) step known) k x l s) (code_of short p variables f Settled (facts_past_loop (If mark' b y n u) step known) k x m t) (code_long Settled (facts_past_if b y n (facts_at_turn p.memory (If mark' b y n u) step known)) u ways') (code_long Settled (facts_at_step p.memory (If mark' b y n u) step known) step ways'') more)
        (top_long (code_of short q variables f Settled (facts_at_turn p.memory (If mark' b y n u) step known) (If mark' b y n u) ways') (code_of short p variables f Settled (facts_at_turn p.memory (If mark' b y n u) step known) (If mark' b y n u) ways')
        (code_of short q variables f Settled (facts_at_step p.memory (If mark' b y n u) step known) step ways'' (jump_words short) 0) (code_of short p variables f Settled (facts_at_step p.memory (If mark' b y n u) step known) step ways'' (jump_words short) 0)
        (code_of short q variables f Settled (facts_past_loop (If mark' b y n u) step known) k x l s) (code_of short p variables f Settled (facts_past_loop (If mark' b y n u) step known) k x m t)
        (code_long Settled (facts_at_turn p.memory (If mark' b y n u) step known) (If mark' b y n u) ways') (code_long Settled (facts_at_step p.memory (If mark' b y n u) step known) step ways'' (jump_words short) 0 (jump_words short) 0) more)

  pub function_long : (code : Actions) → length (function_code q variables f code) ≡ length (function_code p variables f code)
  function_long code = both_long (entry_code p f) (entry_code p f) _ _ refl (code_long (is_short code) Settled unknown code nowhere 0 0 0 0)

  -- ---- what makes no call

  action_same : (a : Action) (k : VariableSet) (l s : List Inst) → one_call a ≡ 0 → action_code q variables f a k l s ≡ action_code p variables f a k l s
  action_same (Compute v x) k l s h = refl
  action_same (Issue kind x) k l s h = refl
  action_same (Own v kind x) k l s h = refl
  action_same (Receive v) k l s h = refl
  action_same (Address width x) k l s h = refl
  action_same (Datum x) k l s h = refl
  action_same (Offer v) k l s h = refl
  action_same (Accept v) k l s h = refl
  action_same (Emit spelling x) k l s h = refl
  action_same (Probe check) k l s h = check_same check
  action_same (Tell x) k l s h = refl
  action_same (Hear only) k l s h = refl
  action_same (Stop x) k l s h = refl
  action_same Break k l s h = refl
  action_same Continue k l s h = refl
  action_same (Call v g xs) k l s h = absurd (let no : 1 ≡ 0 = h in omega (arith, no))
  action_same (Return x) k l s h = refl

  needed_same : (need : Need) (a : Action) (k : VariableSet) (l s : List Inst) → one_call a ≡ 0 → needed_code q variables f need a k l s ≡ needed_code p variables f need a k l s
  needed_same Nothing a k l s h = refl
  needed_same Ends a k l s h = refl
  needed_same All a k l s h = action_same a k l s h

  block_same : (need : Need) (g : VariableStanding) (a : Action) (g' : VariableStanding) (k : VariableSet) (l s : List Inst) → one_call a ≡ 0 → block_code q variables f need g a g' k l s ≡ block_code p variables f need g a g' k l s
  block_same need Settled a Settled k l s h = ap (λ (is : List Inst). if is_dead a k then [] else is) (needed_same need a k l s h)
  block_same need Settled a (Early v x) k l s h = refl
  block_same need Settled a (Late v x) k l s h = refl
  block_same need (Early v x) a g' k l s h = refl
  block_same need (Late v x) a g' k l s h = refl

  module _ (short : Bool) where
    -- a loop, from its parts
    abbrev loop_of : Option PlacedBranch → (ℕ → ℕ → Grown) → (ℕ → ℕ → Grown) → (ℕ → ℕ → Grown) → Grown → Grown
    loop_of test tail body step rest =
        let words = words_behind (p.home f) short test in
        let again = step words 0 in
        let to = length again.code + words in
        turned (p.home f) short test (if is_some test then tail to 0 else body to 0) again rest

    looped_same : (test : Option PlacedBranch) (tail tail' body body' step step' : ℕ → ℕ → Grown) (rest rest' : Grown)
        → ((l s : ℕ) → tail l s ≡ tail' l s) → ((l s : ℕ) → body l s ≡ body' l s) → ((l s : ℕ) → step l s ≡ step' l s) → rest ≡ rest'
        → loop_of test tail body step rest ≡ loop_of test tail' body' step' rest'
    looped_same test tail tail' body body' step step' rest rest' same_tail same_body same_step same_rest =
        let words = words_behind (p.home f) short test in
        let turn' : ℕ → Grown = λ to. if is_some test then tail' to 0 else body' to 0 in
        let again = step words 0 in let again' = step' words 0 in
        let to = length again.code + words in
        let turn = if is_some test then tail to 0 else body to 0 in
        let e : again ≡ again' = same_step words 0 in
        let h : turn ≡ turn' (length again'.code + words) = either_same (is_some test) (tail to 0) (tail' to 0) (body to 0) (body' to 0) (same_tail to 0) (same_body to 0) ∙ ap (λ (z : Grown). turn' (length z.code + words)) e in
        ap (λ (z : Grown). turned (p.home f) short test turn again z) same_rest
        ∙ ap (λ (z : Grown). turned (p.home f) short test turn z rest') e
        ∙ ap (λ (z : Grown). turned (p.home f) short test z again' rest') h

    mutual
      marked_same : (g : VariableStanding) (known : Facts) (code : Actions) (x : LiveWays) → calls_in code ≡ 0 → (l s : ℕ) → marked_code short q variables f g known code x l s ≡ marked_code short p variables f g known code x l s
      marked_same g known Done x none l s = refl
      marked_same g known (Do m a k) x none l s =
          let need = need_of p.memory known a k in let next = standing_behind a k x in let after = facts_behind p.memory a known in
          let rest = marked_code short q variables f next after k x l s in
          let block : Grown → List Inst = λ z. block_code p variables f need g a next (live k x) (jump_over short (length z.code + l)) (jump_over short (length z.code + s)) in
          ap (λ (is : List Inst). in_front (acting m.place is) rest) (block_same need g a next (live k x) (jump_over short (length rest.code + l)) (jump_over short (length rest.code + s)) (first_none (one_call a) (calls_in k) none))
          ∙ ap (λ (z : Grown). in_front (acting m.place (block z)) z) (marked_same next after k x (rest_none (one_call a) (calls_in k) none) l s)
      marked_same g known (If m b c d k) x none l s =
          let lists = rest_none 0 (calls_in c + (calls_in d + calls_in k)) none in
          let behind_first = rest_none (calls_in c) (calls_in d + calls_in k) lists in
          let y = behind (live k x) x in let nothing = does_nothing c in
          let C = facts_in_first b known in let D = facts_in_second b known in let K = facts_past_if b c d known in
          let past : ℕ → List Inst = past_code short (nothing || does_nothing d) in
          let far : Grown → Grown → ℕ = λ v r. length (past (length v.code)) + length v.code + length r.code in
          let whole : Grown → Grown → Grown → Grown = λ u v r.
          in_front (acting m.place (branch_code (p.home f) short b nothing (if nothing then length v.code else length u.code + length (past (length v.code))))) (in_front u (in_front (glue (past (length v.code))) (in_front v r))) in
          let rest = marked_code short q variables f Settled K k x l s in let rest' = marked_code short p variables f Settled K k x l s in
          let e : rest ≡ rest' = marked_same Settled K k x (rest_none (calls_in d) (calls_in k) behind_first) l s in
          let second = marked_code short q variables f Settled D d y (length rest.code + l) (length rest.code + s) in
          let second' = marked_code short p variables f Settled D d y (length rest'.code + l) (length rest'.code + s) in
          let h : second ≡ second' =
          marked_same Settled D d y (first_none (calls_in d) (calls_in k) behind_first) (length rest.code + l) (length rest.code + s)
          ∙ ap (λ (z : Grown). marked_code short p variables f Settled D d y (length z.code + l) (length z.code + s)) e in
          let n = far second rest in
          let first = marked_code short q variables f Settled C c y (n + l) (n + s) in
          let first' = marked_code short p variables f Settled C c y (far second' rest' + l) (far second' rest' + s) in
          let i : first ≡ first' =
          marked_same Settled C c y (first_none (calls_in c) (calls_in d + calls_in k) lists) (n + l) (n + s)
          ∙ ap (λ (z : Grown). marked_code short p variables f Settled C c y (far z rest + l) (far z rest + s)) h
          ∙ ap (λ (z : Grown). marked_code short p variables f Settled C c y (far second' z + l) (far second' z + s)) e in
          ap (λ (z : Grown). whole first second z) e ∙ ap (λ (z : Grown). whole first z rest') h ∙ ap (λ (z : Grown). whole z second' rest') i
      marked_same g known (Loop m body step k) x none l s =
          let behind_turn = rest_none (calls_in body) (calls_in step + calls_in k) none in
          let in_body = first_none (calls_in body) (calls_in step + calls_in k) none in
          let in_step = first_none (calls_in step) (calls_in k) behind_turn in
          let y = body_ways body step (live k x) in let z = step_ways body step (live k x) in
          let T = facts_at_turn p.memory body step known in let S = facts_at_step p.memory body step known in let K = facts_past_loop body step known in
          looped_same (bottom_of body step) (marked_tail short q variables f T body y) (marked_tail short p variables f T body y) (marked_code short q variables f Settled T body y) (marked_code short p variables f Settled T body y)
          (marked_code short q variables f Settled S step z) (marked_code short p variables f Settled S step z) (marked_code short q variables f Settled K k x l s) (marked_code short p variables f Settled K k x l s)
          (λ l s. tail_same T body y in_body l s) (λ l s. marked_same Settled T body y in_body l s) (λ l s. marked_same Settled S step z in_step l s) (marked_same Settled K k x (rest_none (calls_in step) (calls_in k) behind_turn) l s)

      tail_same : (known : Facts) (code : Actions) (x : LiveWays) → calls_in code ≡ 0 → (l s : ℕ) → marked_tail short q variables f known code x l s ≡ marked_tail short p variables f known code x l s
      tail_same known Done x none l s = refl
      tail_same known (Do m a k) x none l s = refl
      tail_same known (If m b c d k) x none l s =
          let lists = rest_none 0 (calls_in c + (calls_in d + calls_in k)) none in
          let behind_first = rest_none (calls_in c) (calls_in d + calls_in k) lists in
          marked_same Settled (facts_past_if b c d known) k x (rest_none (calls_in d) (calls_in k) behind_first) l s
      tail_same known (Loop m body step k) x none l s = refl

  function_same : (code : Actions) → calls_in code ≡ 0 → function_code q variables f code ≡ function_code p variables f code
  function_same code none =
      let short = is_short code in
      ap (λ (is : List Inst). entry_code p f ++ is)
      (sym (same_code short q variables f Settled unknown code nowhere 0 0) ∙ ap (λ (z : Grown). z.code) (marked_same short Settled unknown code nowhere none 0 0) ∙ same_code short p variables f Settled unknown code nowhere 0 0)

  places_same : (code : Actions) → calls_in code ≡ 0 → function_places q variables f code ≡ function_places p variables f code
  places_same code none =
      ap (λ (z : Grown). from_front (length (entry_code p f) + length z.code) z.places) (marked_same (is_short code) Settled unknown code nowhere none 0 0)

  -- so the code of a function that makes none is its code by this plan too
  pub kept_same : (code : Actions) (kept : Option FunctionCode) → IsLeafCode p variables f code kept → IsLeafCode q variables f code kept
  kept_same code None has = tt
  kept_same code (Some made) has = record {
    calls = has.calls;
    code = has.code ∙ sym (function_same code has.calls);
    entry = has.entry;
    places = has.places ∙ sym (places_same code has.calls);
    within = has.within;
  }
