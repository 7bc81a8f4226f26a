-- The code does a stream action by action.
use Rattle.std.specs.Prelude.{◌≡◌, ℕ, ◌+◌, ◌-◌, ◌*◌, ◌≤◌, ◌<◌, ◌^◌, nat_eq, Bool, true, false, not, ◌&&◌, List, [], ◌∷◌, length, Option, Some, None, if◌then◌else◌}
use Rattle.dae_encode.specs.declared.QueueUse.TheVariants.{Nothing, Take as Takes}
use Rattle.dae_encode.specs.Processor.{Processor}
use Rattle.dae_ir.specs.Code.{Done, Do, If, Loop}
use Rattle.dae_ir.specs.Classes.{VariableSet}
use Rattle.dae_meaning.specs.Worlds.{World}
use Rattle.dae_meaning.specs.Variables.{Env, put}
use Rattle.dae_ir.specs.Form.{Program, value, holds, computed}
use Rattle.dae_ir.specs.Streams.{Actions}
use Rattle.dae_ir.specs.Deeds.{Quit, Plainly, WithStatus, Went, Push, Halts, told_on, heard_on, deed}
use Rattle.dae_ir.specs.declared.form.Operand.{Operand}
use Rattle.dae_ir.specs.declared.stream.Argument.{Argument}
use Rattle.dae_ir.specs.declared.stream.Action.{Action}
use Rattle.dae_ir.specs.declared.stream.Action.TheVariants.{Break, Continue, Call, Return}
use Rattle.dae_ir.specs.declared.stream.Branch.{Branch}
use Rattle.dae_ir.specs.declared.stream.Branch.TheVariants.{Silent, Tells, Hears}
use Rattle.dae_select_walks.specs.declared.VariableStanding.{VariableStanding}
use Rattle.dae_select_walks.specs.declared.VariableStanding.TheVariants.{Settled, Early, Late}
use Rattle.dae_select_walks.specs.Walks.{WalkSetting, Comes, Nears, Acts}
use Rattle.dae_select_walks.specs.Does.{Does, event}
use Rattle.dae_select_walks.specs.Live.{LiveWays, ways, live, is}
use Rattle.dae_select_walks.specs.Facts.{Facts, Hold, facts_behind, facts_in_first, facts_in_second, facts_past_if, facts_at_turn, facts_at_step, facts_past_loop}
use Rattle.dae_select_walks.specs.Homes.{Contents}
use Rattle.dae_select_walks.specs.Agrees.{Plan, Moment, CallFrame, depth_of, top_of, pointed, IsWithin, AreWaiting, AreResident, Shows, Stands}

-- where code goes on, as a word of the code; what is live there of what the processor holds; and how that stands to the moment
pub record Exit : Type 0 where
  pub word : ℕ
  pub live : VariableSet
  pub standing : VariableStanding

pub record Exits : Type 0 where
  pub next : Exit
  pub leaves : Exit
  pub skips : Exit

abbrev pub exit : ℕ → VariableSet → Exit
exit word live = record { word = word; live = live; standing = Settled }

abbrev pub exits : Exit → Exit → Exit → Exits
exits next leaves skips = record { next = next; leaves = leaves; skips = skips }

abbrev pub ways_of : Exits → LiveWays
ways_of x = ways x.next.live x.leaves.live x.skips.live

-- ---- moments

abbrev pub with_env : Env → Moment → Moment
with_env env m = record m { env = env }

-- the processor goes on at a word, where what it holds stands so to the moment
abbrev pub HoldsAt : Plan → VariableStanding → VariableSet → Moment → ℕ → Processor → Type 0
HoldsAt plan Settled live m word p = Stands plan live m word p
HoldsAt plan (Early v x) live m word p = Stands plan live (with_env (put true v (computed x m.frame m.env) m.env) m) word p
HoldsAt plan (Late v x) live m word p = (env : Env) × (m.env ≡ put true v (computed x m.frame env) env) × Stands plan live (with_env env m) word p

-- the world of a moment is one with its frame, its top and its depth, and a memory of the right size
pub record IsWorldOf (plan : Plan) (m : Moment) (w : World) : Type 0 where
  pub frame : w.frame ≡ m.frame
  pub top : w.top ≡ top_of plan m
  pub depth : w.depth ≡ depth_of m
  pub memory : length w.memory ≡ plan.memory

-- the variables at the entry of a call, from the arguments, and else 0
abbrev pub given : List Argument → Env → Env
given [] env = λ _. 0
given (x ∷ xs) env = put true x.parameter (value x.operand env) (given xs env)

-- main returns: A ends, and E with its result, where it has one
abbrev pub MainEnds : Bool → Option Operand → Env → (Quit → Type 0) → Type 0
MainEnds true y env D = D Plainly
MainEnds false (Some x) env D = D (WithStatus (value x env))
MainEnds false None env D = Unit {0}

-- a call of a function has returned to the one that waits, with its result in x6: the processor stands just behind the jump
pub record Lands (plan : Plan) (f : ℕ) (w : CallFrame) (ws : List CallFrame) (result : Option ℕ) (p : Processor) : Type 0 where
  pub contents : Contents
  pub shows : Shows plan.private contents w.back p
  pub base : ℕ
  pub frame : ℕ
  pub pointer : contents.register 2 ≡ 4 * pointed plan f (w ∷ ws) base
  pub begins : contents.register 3 ≡ frame
  pub low : frame ≤ plan.memory
  pub depth : plan.by_a ≡ true → contents.register 10 ≡ length ws + 1
  pub addresses : plan.by_a ≡ true → contents.register 4 ≡ plan.memory - 16
  pub residents : AreResident plan contents
  pub waiting : AreWaiting plan contents (plan.spares f) (4 * w.back) base frame (w ∷ ws)
  pub given : (x : ℕ) → result ≡ Some x → contents.register 6 ≡ x

abbrev pub result_of : Option Operand → Env → Option ℕ
result_of None env = None
result_of (Some x) env = Some (value x env)

-- a call that wants a result gets one
abbrev pub IsAnswered : Option ℕ → Option ℕ → Type 0
IsAnswered (Some v) None = ⊥
IsAnswered v result = Unit {0}

-- what the caller's variables are behind a call
abbrev pub with_result : Option ℕ → Option ℕ → Env → Env
with_result (Some v) (Some x) env = put true v x env
with_result (Some v) None env = env
with_result None x env = env

abbrev pub waiting_of : Option ℕ → VariableSet → ℕ → Moment → CallFrame
waiting_of v live back m =
    record { function = m.function; env = m.env; live = (λ u. live u && not (is v u)); frame = m.frame; back = back }

-- the moment at the entry of a call, from its arguments
abbrev pub called : Plan → ℕ → List Argument → CallFrame → Moment → Moment
called plan f xs w m = record { function = f; env = given xs m.env; frame = top_of plan m; waiting = w ∷ m.waiting }

-- the other side hears of this test, or has told of it: such a branch has an access
abbrev pub is_told : Branch → Bool
is_told (Silent t) = false
is_told (Tells t) = true
is_told Hears = true

abbrev pub begins_told : Actions → Bool
begins_told (If m b p q k) = is_told b
begins_told code = false

abbrev pub bit : Bool → ℕ
bit b = if b then 1 else 0

-- entries: what is live where a function's code begins; most: so many instructions at most of an action, a branch or a
-- return, and three times as many of what is behind a call; widest: so many of a call, to which each argument adds 6
module _ (s : WalkSetting) (plan : Plan) (program : Program) (entries : ℕ → VariableSet) (most widest : ℕ) where
  -- the function f runs, and the processor agrees with the moment at this word
  abbrev pub At : ℕ → Exit → Moment → Processor → Type 0
  At f x m p = (m.function ≡ f) × HoldsAt plan x.standing x.live m x.word p

  -- it goes from the one place to the other, and nothing changes
  abbrev pub Leads : ℕ → Exit → Exit → Type 0
  Leads f here there = (m : Moment) (p : Processor) → At f here m p → Comes s 2 p (At f there m)

  -- the same in one instruction at least
  abbrev pub Turns : ℕ → Exit → Exit → Type 0
  Turns f here there = (m : Moment) (p : Processor) → At f here m p → (v : ℕ) × Acts s p (event Nothing v 0 []) (λ q. Comes s 1 q (At f there m))

  -- a turn ends with an instruction, but where the next one begins with a test that is told, whose access is one
  abbrev pub GoesBack : ℕ → Bool → Exit → Exit → Type 0
  GoesBack f true here there = Leads f here there
  GoesBack f false here there = Turns f here there

  -- from each processor that agrees with a moment before the action there is a walk to one that agrees with it after, where
  -- this is known before it
  abbrev pub ActionDone : ℕ → Facts → Action → Exit → Exit → Exits → Type 0
  ActionDone f known Break here next x = Leads f here x.leaves
  ActionDone f known Continue here next x = Turns f here x.skips
  ActionDone f known (Call v g xs) here next x =
      (back : ℕ)
      × ((m : Moment) (p : Processor) → At f here m p → IsWithin plan (called plan g xs (waiting_of v next.live back m) m)
      → Comes s (widest + 6 * length xs) p (At g (exit (plan.start g) (entries g)) (called plan g xs (waiting_of v next.live back m) m)))
      × ((m : Moment) (result : Option ℕ) (p : Processor) → m.function ≡ f → IsWithin plan m → IsAnswered v result → Lands plan g (waiting_of v next.live back m) m.waiting result p
      → Comes s (3 * most) p (At f next (with_env (with_result v result m.env) m)))
  ActionDone f known (Return y) here next x =
      (m : Moment) (p : Processor) → At f here m p
      → ((m.waiting ≡ []) → MainEnds plan.by_a y m.env (λ quit. Does s most (Halts quit) (λ env q. ⊥) p))
      × ((w : CallFrame) (ws : List CallFrame) → m.waiting ≡ w ∷ ws → Comes s most p (Lands plan f w ws (result_of y m.env)))
  ActionDone f known a here next x =
      (m : Moment) (w : World) (p : Processor) → At f here m p → IsWorldOf plan m w → Hold known m.env
      → Does s most (deed program plan.by_a a w m.env) (λ env. At f next (with_env env m)) p

  -- the same of a branch: it goes to the first list where its test holds, or where it hears a number other than 0
  abbrev pub Chosen : ℕ → Exit → Exit → Bool → Moment → Processor → Type 0
  Chosen f first second b m p = At f (if b then first else second) m p

  abbrev pub BranchDone : ℕ → Branch → Exit → Exit → Exit → Type 0
  BranchDone f (Silent t) here first second =
      (m : Moment) (p : Processor) → At f here m p → Comes s most p (Chosen f first second (holds t m.env) m)
  BranchDone f (Tells t) here first second =
      (m : Moment) (p : Processor) → At f here m p
      → Does s most (Push (told_on plan.by_a) (bit (holds t m.env)) (Went m.env)) (λ env. Chosen f first second (holds t m.env) m) p
  BranchDone f Hears here first second =
      (m : Moment) (p : Processor) → At f here m p
      → Nears s most p (λ l q. (x : ℕ) → x < 2 ^ 32 → (put : ℕ) × Acts s q (event (Takes (heard_on plan.by_a)) put x []) (λ r. Comes s l r (Chosen f first second (not (nat_eq x 0)) m)))

  -- the code does a list of actions of the function f, from one place up to where it goes on, where this is known
  -- at that place
  abbrev pub CodeDone : ℕ → Facts → Actions → Exit → Exits → Type 0
  CodeDone f known Done here x = Leads f here x.next
  CodeDone f known (Do mark a k) here x = (next : Exit) × ActionDone f known a here next x × CodeDone f (facts_behind plan.memory a known) k next x
  CodeDone f known (If mark b p q k) here x =
      (first : Exit) × (second : Exit) × (next : Exit)
      × BranchDone f b here first second
      × CodeDone f (facts_in_first b known) p first (record x { next = next }) × CodeDone f (facts_in_second b known) q second (record x { next = next })
      × CodeDone f (facts_past_if b p q known) k next x
  CodeDone f known (Loop mark body step k) here x =
      (begin : Exit) × (again : Exit) × (end : Exit) × (next : Exit)
      × Leads f here begin
      × CodeDone f (facts_at_turn plan.memory body step known) body begin (exits again next again) × CodeDone f (facts_at_step plan.memory body step known) step again (exits end next end)
      × GoesBack f (begins_told body) end begin
      × CodeDone f (facts_past_loop body step known) k next x
