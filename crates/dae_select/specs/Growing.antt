-- The code of actions, with the words of it at which they begin.
use Rattle.std.specs.Prelude.{◌≡◌, ◌≤◌, ℕ, zero, suc, ◌+◌, Bool, true, ◌||◌, if◌then◌else◌, List, length, slice_get, Option, Some, None, is_some}
use Rattle.dae_ir.specs.Code.{Done, Do, If, Loop}
use Rattle.dae_ir.specs.Classes.{VariableSet}
use Rattle.dae_ir.specs.Streams.{Actions, step_onto}
use Rattle.dae_ir.specs.declared.stream.Action.{Action}
use Rattle.dae_ir.specs.declared.stream.Action.TheVariants.{Receive, Accept}
use Rattle.dae_ir.specs.declared.stream.Step.{Step, Act, If', Loop'}
use Rattle.dae_select_walks.specs.Live.{LiveWays, ways, behind, live, nowhere, step_ways, body_ways}
use Rattle.dae_select_walks.specs.Facts.{Facts, unknown, facts_behind, facts_in_first, facts_in_second, facts_past_if, facts_at_turn, facts_at_step, facts_past_loop, need_of}
use Rattle.dae_select_walks.specs.declared.Need.{Need}
use Rattle.dae_select_walks.specs.Agrees.{Plan}
use Rattle.dae_select_walks.specs.declared.VariableStanding.{VariableStanding}
use Rattle.dae_select_walks.specs.declared.VariableStanding.TheVariants.{Settled, Early}
use Rattle.dae_select_live.specs.Members.{member}
use Rattle.dae_select_walks.specs.declared.Home.{Home}
use Rattle.dae_select_blocks.specs.Blocks.{jump_words, jump_over, jump_back}
use Rattle.dae_select_blocks.specs.Code.{reads_once, standing_behind, pair_standing, if_settled, block_code, branch_code, back_branch, has_bottom, does_nothing, past_code, entry_code}
use Rattle.dae_select_blocks.specs.Sizes.{is_short}
use Rattle.dae_select.specs.Grown.{Grown, no_code, glue, acting, in_front, from_front}
use Rattle.dae_select_facts.specs.Along.{facts_after, IsBefore}
use Rattle.dae_select.specs.declared.growing.PlacedWord.{PlacedWord}
use Rattle.dae_select.specs.declared.making.Exits.{Exits}
use Rattle.dae_select.specs.declared.making.PlacedBranch.{PlacedBranch}

-- the test that a list begins with
abbrev pub first_test : Actions → Option PlacedBranch
first_test (If m b p q k) = Some (record { place = m.place; branch = b })
first_test code = None

-- the test of a loop, where it stands behind the step
abbrev pub bottom_of : Actions → Actions → Option PlacedBranch
bottom_of body step = if has_bottom body step then first_test body else None

-- how many words come behind a loop's step: a jump back, or such a test
abbrev pub words_behind : (ℕ → Home) → Bool → Option PlacedBranch → ℕ
words_behind home short None = jump_words short
words_behind home short (Some test) = length (back_branch home test.branch true 0)

-- a turn of a loop and its step: a jump leads back from their end, or one over them to the test that leads back
abbrev pub turned : (ℕ → Home) → Bool → Option PlacedBranch → Grown → Grown → Grown → Grown
turned home short None turn again rest =
    in_front turn (in_front again (in_front (glue (jump_back short (length turn.code + length again.code))) rest))
turned home short (Some test) turn again rest =
    let n = length turn.code + length again.code in
    in_front (glue (jump_over short n)) (in_front turn (in_front again (in_front (acting test.place (back_branch home test.branch true n)) rest)))

-- a branch reaches back over the turn and its step, where the test is to stand behind it
abbrev pub IsNearTurn : Option PlacedBranch → Grown → Grown → Type 0
IsNearTurn None turn again = Unit {0}
IsNearTurn (Some test) turn again = length turn.code + length again.code ≤ 900

-- the code of actions, block by block
abbrev mutual
  pub marked_code : Bool → Plan → (ℕ → ℕ) → ℕ → VariableStanding → Facts → Actions → LiveWays → ℕ → ℕ → Grown
  marked_code short plan variables f standing known Done x leaves skips = no_code
  marked_code short plan variables f standing known (Do m a k) x leaves skips =
      let next = standing_behind a k x in
      let rest = marked_code short plan variables f next (facts_behind plan.memory a known) k x leaves skips in
      in_front (acting m.place (block_code plan variables f (need_of plan.memory known a k) standing a next (live k x)
      (jump_over short (length rest.code + leaves)) (jump_over short (length rest.code + skips)))) rest
  marked_code short plan variables f standing known (If m b p q k) x leaves skips =
      let rest = marked_code short plan variables f Settled (facts_past_if b p q known) k x leaves skips in
      let second = marked_code short plan variables f Settled (facts_in_second b known) q (behind (live k x) x) (length rest.code + leaves) (length rest.code + skips) in
      let past = past_code short (does_nothing p || does_nothing q) (length second.code) in
      let far = length past + length second.code + length rest.code in
      let first = marked_code short plan variables f Settled (facts_in_first b known) p (behind (live k x) x) (far + leaves) (far + skips) in
      let n = if does_nothing p then length second.code else length first.code + length past in
      in_front (acting m.place (branch_code (plan.home f) short b (does_nothing p) n)) (in_front first (in_front (glue past) (in_front second rest)))
  marked_code short plan variables f standing known (Loop m body step k) x leaves skips =
      let rest = marked_code short plan variables f Settled (facts_past_loop body step known) k x leaves skips in
      let at_turn = facts_at_turn plan.memory body step known in
      let test = bottom_of body step in
      let words = words_behind (plan.home f) short test in
      let again = marked_code short plan variables f Settled (facts_at_step plan.memory body step known) step (step_ways body step (live k x)) words 0 in
      let to = length again.code + words in
      let turn = if is_some test then marked_tail short plan variables f at_turn body (body_ways body step (live k x)) to 0
      else marked_code short plan variables f Settled at_turn body (body_ways body step (live k x)) to 0 in
      turned (plan.home f) short test turn again rest

  -- the code behind the test that a list begins with
  pub marked_tail : Bool → Plan → (ℕ → ℕ) → ℕ → Facts → Actions → LiveWays → ℕ → ℕ → Grown
  marked_tail short plan variables f known (If m b p q k) x leaves skips = marked_code short plan variables f Settled (facts_past_if b p q known) k x leaves skips
  marked_tail short plan variables f known code x leaves skips = no_code

-- the words of a function's code at which its actions begin
abbrev pub function_places : Plan → (ℕ → ℕ) → ℕ → Actions → List PlacedWord
function_places plan variables f code =
    let actions = marked_code (is_short code) plan variables f Settled unknown code nowhere 0 0 in
    from_front (length (entry_code plan f) + length actions.code) actions.places

-- in front of this code stands the code of a function's actions, before which things stand so and this is known,
-- and these variables are live before it. A Break's way from its end is so much longer than what stands there, and a Continue's
pub record IsCodeOf (short : Bool) (plan : Plan) (variables : ℕ → ℕ) (f : ℕ) (standing : VariableStanding) (known : Facts) (base : Grown)
    (leaves skips : ℕ) (x : LiveWays) (actions : Actions) (new : Grown) (set : List ℕ) : Type 0 where
  pub code : new ≡ in_front (marked_code short plan variables f standing known actions x (length base.code + leaves) (length base.code + skips)) base
  pub live : member set ≡ live actions x

-- ---- steps

-- where the next action is done early, it reads once the variable that this action takes a word into
abbrev pub IsTakenBy : VariableStanding → Action → Type 0
IsTakenBy (Early d x) (Receive v) = reads_once v x ≡ true
IsTakenBy (Early d x) (Accept v) = reads_once v x ≡ true
IsTakenBy standing a = Unit {0}

abbrev pub IsTakenByStep : VariableStanding → Step → Type 0
IsTakenByStep standing (Act m a) = IsTakenBy standing a
IsTakenByStep standing step' = Unit {0}

-- how things stand behind a step, before the rest of its list
abbrev pub standing_after : Step → Actions → LiveWays → VariableStanding
standing_after (Act m a) k x = standing_behind a k x
standing_after (If' m b s p t q) k x = Settled
standing_after (Loop' m s p t q) k x = Settled

-- how they stand before a step, where these variables are live behind it and things stand so behind it
abbrev pub standing_between : Option Step → Step → VariableSet → VariableStanding → VariableStanding
standing_between (Some (Act m a)) (Act m' b) live standing = if_settled standing (pair_standing a b live)
standing_between before step' live standing = Settled

-- the step before this place of a list
abbrev pub step_before : List Step → ℕ → Option Step
step_before steps zero = None
step_before steps (suc i) = slice_get steps i

-- how things stand before what is left of a list, where this step stands before it
abbrev pub standing_before : Option Step → Actions → LiveWays → VariableStanding
standing_before None k x = Settled
standing_before (Some step) k x = standing_after step k x

-- what is known where the part of a body begins that stands before the step, if this is known where the body begins
abbrev pub facts_in_tail : Option PlacedBranch → Actions → Facts → Facts
facts_in_tail None body known = known
facts_in_tail (Some test) (If m b p q k) known = facts_past_if b p q known
facts_in_tail (Some test) body known = known

-- with a step before whatever stands there, of whose block so much is needed, and before which this is known if it has lists
abbrev pub IsStepCode : Bool → Plan → (ℕ → ℕ) → ℕ → Need → Facts → VariableStanding → VariableStanding → Exits → Step → Grown → List ℕ → Grown → List ℕ → Type 0
IsStepCode short plan variables f need told before after exits step old next new set =
    (known : Facts) (base : Grown) (k : Actions) (n : VariableSet)
    → IsBefore plan.memory known step k need told
    → after ≡ standing_after step k (ways n (member exits.leaves_live) (member exits.skips_live))
    → IsCodeOf short plan variables f after (facts_after plan.memory step known) base exits.leaves exits.skips (ways n (member exits.leaves_live) (member exits.skips_live)) k old next
    → IsCodeOf short plan variables f before known base exits.leaves exits.skips (ways n (member exits.leaves_live) (member exits.skips_live)) (step_onto step k) new set
