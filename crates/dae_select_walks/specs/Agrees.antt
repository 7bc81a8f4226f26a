-- What a processor holds at a moment of its stream: the variables that are live; the numbers that stay in registers; where the
-- frame in common memory and the private frame begin; on A the depth and how many addresses common memory has; and for each waiting call its return address
-- and what is live behind it.
use Rattle.std.specs.Prelude.{◌≡◌, ℕ, ◌+◌, ◌-◌, ◌*◌, ◌^◌, ◌≤◌, ◌<◌, Bool, true, List, [], ◌∷◌, length, slice_index, Some, None, if◌then◌else◌}
use Rattle.dae_base.specs.Words.{loaded}
use Rattle.dae_base.specs.declared.LoadKind.TheVariants.{I32}
use Rattle.dae_encode.specs.Processor.{Processor}
use Rattle.dae_ir.specs.Classes.{VariableSet}
use Rattle.dae_meaning.specs.Variables.{Env}
use Rattle.dae_select_walks.specs.Homes.{Contents, held, none_spared, kept, resident_home, resident_register}
use Rattle.dae_select_walks.specs.declared.Home.{Home}

-- what is settled before the code runs: the side, the number of functions and their homes; of each function the words at which it is entered and at which its actions
-- begin, the words of its private frame, the bytes of its frame in common memory, whether it is a leaf, which makes no
-- call, whether it is frameless, a leaf that needs no word of its private frame, and which registers it spares, a leaf that leaves them as
-- they are; whether one instruction enters them all; the word that main returns to; the most words of a private frame and the words of private memory; the call limit; the size of common memory; and
-- the numbers that stay in registers
pub record Plan : Type 0 where
  pub by_a : Bool
  pub functions : ℕ
  pub home : ℕ → ℕ → Home
  pub entry : ℕ → ℕ
  pub start : ℕ → ℕ
  pub words : ℕ → ℕ
  pub frame : ℕ → ℕ
  pub leaf : ℕ → Bool
  pub frameless : ℕ → Bool
  pub spares : ℕ → ℕ → Bool
  pub near : Bool
  pub finish : ℕ
  pub largest : ℕ
  pub private : ℕ
  pub limit : ℕ
  pub memory : ℕ
  pub residents : List ℕ

-- a call that waits: its function, its variables and which of them are live behind it, the result aside, where its frame
-- begins in common memory, and the word of the code that it is returned to
pub record CallFrame : Type 0 where
  pub function : ℕ
  pub env : Env
  pub live : VariableSet
  pub frame : ℕ
  pub back : ℕ

-- the running function, its variables, where its frame begins, and the calls that wait, innermost first
pub record Moment : Type 0 where
  pub function : ℕ
  pub env : Env
  pub frame : ℕ
  pub waiting : List CallFrame

-- main stands at depth 1
abbrev pub depth_of : Moment → ℕ
depth_of m = length m.waiting + 1

abbrev pub top_of : Plan → Moment → ℕ
top_of plan m = m.frame + plan.frame m.function

-- a moment within the limits: of depth, and each frame begins in common memory
pub record IsWithin (plan : Plan) (m : Moment) : Type 0 where
  pub depth : depth_of m ≤ plan.limit
  pub frame : m.frame ≤ plan.memory

-- each of these variables is in its place
abbrev pub AreIn : (Home → ℕ) → (ℕ → Home) → VariableSet → Env → Type 0
AreIn place home live env = (v : ℕ) → live v ≡ true → place (home v) ≡ env v

-- each number that stays in a register is there
abbrev pub AreResident : Plan → Contents → Type 0
AreResident plan c = (n r : ℕ) → resident_register (resident_home 27 plan.residents n) ≡ Some r → c.register r ≡ n

-- where a function finds the address to return to: a leaf in x1, any other in the first word of its frame
abbrev pub return_address : Plan → ℕ → Contents → ℕ → ℕ
return_address plan f c base = if plan.leaf f then c.register 1 else c.word base

-- the words of the private frame of the call that waits first
abbrev pub words_below : Plan → List CallFrame → ℕ
words_below plan [] = 0
words_below plan (w ∷ ws) = plan.words w.function

-- where x2 points in a function whose frame would begin at a word, above these calls: a frameless one leaves it where the frame of the first
-- of them begins
abbrev pub pointed : Plan → ℕ → List CallFrame → ℕ → ℕ
pointed plan f ws base = if plan.frameless f then base - words_below plan ws else base

-- what A has counted in a function at a depth: a leaf isn't counted
abbrev pub counted_depth : Plan → ℕ → ℕ → ℕ
counted_depth plan f depth = if plan.leaf f then depth - 1 else depth

-- the calls that wait below a frame that begins at a word of private memory and at an address of common memory, and that is
-- left to this address, where its function spares these registers. A function that waits has made a call, so its own address is in its
-- frame, and it spares none
abbrev pub AreWaiting : Plan → Contents → (ℕ → Bool) → ℕ → ℕ → ℕ → List CallFrame → Type 0
AreWaiting plan c spared address base frame [] = (base ≡ 0) × (plan.finish < 2 ^ 29) × (address ≡ 4 * plan.finish)
AreWaiting plan c spared address base frame (w ∷ ws) =
    (below : ℕ) × (base ≡ below + plan.words w.function) × (frame ≡ w.frame + plan.frame w.function) × (w.frame ≤ plan.memory)
    × (below + (plan.limit + 1 - (length ws + 1)) * plan.largest ≤ plan.private) × (w.back < 2 ^ 29) × (address ≡ 4 * w.back) × AreIn (kept spared c below) (plan.home w.function) w.live w.env
    × AreWaiting plan c none_spared (c.word below) below w.frame ws

pub record Agrees (plan : Plan) (live : VariableSet) (m : Moment) (c : Contents) : Type 0 where
  pub base : ℕ
  pub variables : AreIn (held c base) (plan.home m.function) live m.env
  pub pointer : c.register 2 ≡ 4 * pointed plan m.function m.waiting base
  pub frame : c.register 3 ≡ m.frame
  pub depth : plan.by_a ≡ true → c.register 10 ≡ counted_depth plan m.function (depth_of m)
  pub addresses : plan.by_a ≡ true → c.register 4 ≡ plan.memory - 16
  pub residents : AreResident plan c
  pub waiting : AreWaiting plan c (plan.spares m.function) (return_address plan m.function c base) base m.frame m.waiting
  pub room : base + (plan.limit + 1 - depth_of m) * plan.largest ≤ plan.private
  pub within : IsWithin plan m

-- the processor goes on at a word of its code, and holds this
pub record Shows (private : ℕ) (c : Contents) (at' : ℕ) (p : Processor) : Type 0 where
  pub runs : p.halt ≡ None
  pub counter : p.counter ≡ 4 * at'
  pub count : length p.registers ≡ 32
  pub registers : (r : ℕ) → r < 32 → slice_index p.registers r ≡ c.register r
  pub zero : c.register 0 ≡ 0
  pub size : length p.private ≡ 4 * private
  pub words : (i : ℕ) → i < private → loaded I32 (4 * i) p.private ≡ c.word i
  pub fits : (r : ℕ) → c.register r < 2 ^ 32
  pub holds : (i : ℕ) → c.word i < 2 ^ 32

-- it goes on there, and agrees with the moment
pub record Stands (plan : Plan) (live : VariableSet) (m : Moment) (at' : ℕ) (p : Processor) : Type 0 where
  pub contents : Contents
  pub shows : Shows plan.private contents at' p
  pub agrees : Agrees plan live m contents
