-- What is proved of the code of a stream's functions.
use Rattle.std.specs.Prelude.{◌≡◌, ℕ, ◌+◌, ◌*◌, ◌≤◌, ◌<◌, ◌^◌, false, [], ◌++◌, length, replicate, None}
use Rattle.std.specs.List.{AllByRecursion}
use Rattle.dae_ir.specs.Code.{Each}
use Rattle.dae_ir.specs.Classes.{VariableSet}
use Rattle.dae_ir.specs.Form.{Program}
use Rattle.dae_ir.specs.Streams.{Actions}
use Rattle.dae_encode.specs.Processor.{Processor}
use Rattle.dae_encode.specs.Spelling.{InRange}
use Rattle.dae_select_walks.specs.Homes.{IsHome}
use Rattle.dae_select_walks.specs.Walks.{WalkSetting, Comes}
use Rattle.dae_select_walks.specs.Layout.{CodeAt}
use Rattle.dae_select_walks.specs.Live.{nowhere, none, live, lives}
use Rattle.dae_select_walks.specs.Facts.{unknown}
use Rattle.dae_select_walks.specs.Agrees.{Plan, Stands as Stands'}
use Rattle.dae_select_walks.specs.declared.VariableStanding.TheVariants.{Settled}
use Rattle.dae_select_walks.specs.Compiled.{exit, exits, CodeDone}
use Rattle.dae_select_blocks.specs.Code.{code_of, function_code, start_code, finish_code}
use Rattle.dae_select_blocks.specs.Sizes.{is_short}
use Rattle.dae_select_blocks.specs.Fits.{Fits}
use Rattle.dae_select_blocks.specs.Wanted.{IsWanted, IsWantedBranch, IsPlanOf, IsLinked, IsRight}

-- the code of a function's actions stands where the function starts
pub record Stands (s : WalkSetting) (plan : Plan) (variables : ℕ → ℕ) (entries : ℕ → VariableSet) (f : ℕ) (code : Actions) : Type 0 where
  pub wanted : Each (IsWanted plan s.copies entries (plan.leaf f)) IsWantedBranch code
  pub right : AllByRecursion (IsRight (plan.home f) (variables f)) (lives code nowhere)
  pub there : CodeAt s.code (plan.start f) (code_of (is_short code) plan variables f Settled unknown code nowhere 0 0)
  pub small : plan.start f + length (code_of (is_short code) plan variables f Settled unknown code nowhere 0 0) < 2 ^ 29

-- then it does them, action by action, in at most 14 instructions an action, 46 a call and 6 more an argument
abbrev pub CodeDoes : Type 0
CodeDoes =
    (s : WalkSetting) (plan : Plan) (variables : ℕ → ℕ) (program : Program) (entries : ℕ → VariableSet) → Fits s plan variables → IsPlanOf program plan → IsLinked s plan
    → (f : ℕ) (code : Actions) → Stands s plan variables entries f code
    → (end : ℕ) × CodeDone s plan program entries 14 46 f unknown code (exit (plan.start f) (live code nowhere)) (exits (exit end none) (exit end none) (exit end none))

-- with homes in their ranges the code of a function is of instructions that have words
abbrev pub CodeInRange : Type 0
CodeInRange =
    (plan : Plan) (variables : ℕ → ℕ) → ((f v : ℕ) → IsHome (variables f) (plan.home f v))
    → (f : ℕ) (code : Actions) → AllByRecursion InRange (function_code plan variables f code)

-- and so is the code that begins, with what main returns to
abbrev pub StartInRange : Type 0
StartInRange = (plan : Plan) (main frames : ℕ) → AllByRecursion InRange (start_code plan main frames ++ finish_code plan.by_a)

-- a processor before its first instruction, with so many words of private memory
abbrev pub opened_with : ℕ → Processor
opened_with private = record { registers = replicate 32 0; counter = 0; private = replicate (4 * private) 0; halt = None }

-- the start code stands at word 0, and main returns behind it
pub record Begins (s : WalkSetting) (plan : Plan) (entries : ℕ → VariableSet) (main frames : ℕ) : Type 0 where
  pub there : main < plan.functions
  pub reads : (u : ℕ) → entries main u ≡ false
  pub first : frames ≤ plan.memory
  pub deep : 1 ≤ plan.limit
  pub room : plan.limit * plan.largest ≤ plan.private
  pub finish : plan.finish ≡ length (start_code plan main frames)
  pub code : CodeAt s.code 0 (start_code plan main frames)

-- then the opened processor comes to where main's actions begin
abbrev pub CodeBegins : Type 0
CodeBegins =
    (s : WalkSetting) (plan : Plan) (variables : ℕ → ℕ) (entries : ℕ → VariableSet) (main frames : ℕ) → Fits s plan variables → IsLinked s plan → Begins s plan entries main frames
    → Comes s 14 (opened_with plan.private) (Stands' plan (entries main) (record { function = main; env = (λ _. 0); frame = frames; waiting = [] }) (plan.start main))
