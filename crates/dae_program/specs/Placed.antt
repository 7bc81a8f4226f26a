-- Where the objects of a typed program must lie, so that an access that isn't tested is good: in a memory of so many bytes
-- those with static storage at their addresses, and those of a function in its frame, wherever that stands.
use Rattle.std.specs.Prelude.{◌≡◌, ℕ, zero, suc, ◌+◌, ◌%◌, ◌≤◌, Bool, true, false, List, [], ◌∷◌, length, Option, Some, None}
use Rattle.dae_base.specs.Words.{plus, size, width_of}
use Rattle.dae_base.specs.declared.Width.{Width}
use Rattle.dae_base.specs.declared.Width.TheVariants.{B1}
use Rattle.dae_meaning.specs.Worlds.{World}
use Rattle.dae_meaning.specs.Operations.{combined}
use Rattle.dae_program.specs.declared.program.FrameSlot.{FrameSlot}
use Rattle.dae_program.specs.Trees.{Expression, Target, Expressions, Setting, Statements, Arms, Function, Program, Number, Address, Frame, Variable, Read, Convert, Not, Binary, Compare, And, Or, Conditional, Comma, Assign, Update, Step, Call, Putchar, Exit, Abort, InVariable, AtAddress, no_expressions, expression_then, Done, Evaluate, Initialise, Print, If, Loop, Do, Switch, Break, Continue, Return, no_arms, arm_then}

-- an access at x is good in a memory of so many bytes: at a multiple of its width, from 16 on, and within
abbrev pub IsGood : Width → ℕ → ℕ → Type 0
IsGood width x memory = (x % size width ≡ 0) × (16 ≤ x) × (x + size width ≤ memory)

-- a frame of so many bytes may stand there
abbrev pub IsFrame : ℕ → ℕ → ℕ → Type 0
IsFrame memory frame a = (a % 4 ≡ 0) × (16 ≤ a) × (a + frame ≤ memory)

-- so many bytes from x on are good
abbrev pub AreGood : ℕ → ℕ → ℕ → Type 0
AreGood zero x memory = Unit {0}
AreGood (suc count) x memory = IsGood B1 x memory × AreGood count (plus x 1) memory

-- so many bytes behind the frame's start
abbrev pub IsInFrame : ℕ → ℕ → Width → ℕ → Type 0
IsInFrame memory frame width offset = (a : ℕ) → IsFrame memory frame a → IsGood width (plus a offset) memory

-- `address` gives the addresses of a file's objects; the function's frame has so many bytes
module _ (address : ℕ → ℕ) (memory frame : ℕ) where
  -- What gives the address of an object by name: the object's own, one of two, and a number further; g makes of it what is
  -- accessed
  abbrev pub IsNamed : Width → (ℕ → ℕ) → Expression → Type 0
  IsNamed width g (Address object offset) = IsGood width (g (plus (address object) offset)) memory
  IsNamed width g (Frame p offset) = (a : ℕ) → IsFrame memory frame a → IsGood width (g (plus a offset)) memory
  IsNamed width g (Binary p operator a b) = (k : ℕ) × (b ≡ Number k) × IsNamed width (λ x. g (combined operator x k)) a
  IsNamed width g (Conditional p a b c) = IsNamed width g b × IsNamed width g c
  IsNamed width g (Comma a b) = IsNamed width g b
  IsNamed width g (Number k) = ⊥
  IsNamed width g (Variable p v) = ⊥
  IsNamed width g (Read p kind checked a) = ⊥
  IsNamed width g (Convert p kind a) = ⊥
  IsNamed width g (Not p a) = ⊥
  IsNamed width g (Compare p comparison turned a b) = ⊥
  IsNamed width g (And p a b) = ⊥
  IsNamed width g (Or p a b) = ⊥
  IsNamed width g (Assign p kind t a) = ⊥
  IsNamed width g (Update p kind t operator a) = ⊥
  IsNamed width g (Step p kind t change new) = ⊥
  IsNamed width g (Call p f xs) = ⊥
  IsNamed width g (Putchar p a) = ⊥
  IsNamed width g (Exit p a) = ⊥
  IsNamed width g (Abort p) = ⊥

  -- an access that isn't tested is one of an object by name
  abbrev pub IsTested : Bool → Width → Expression → Type 0
  IsTested true width a = Unit {0}
  IsTested false width a = IsNamed width (λ x. x) a

  abbrev mutual
    pub IsPlaced : Expression → Type 0
    IsPlaced (Number k) = Unit {0}
    IsPlaced (Address object offset) = Unit {0}
    IsPlaced (Frame p offset) = Unit {0}
    IsPlaced (Variable p v) = Unit {0}
    IsPlaced (Read p kind checked a) = IsTested checked (width_of kind) a × IsPlaced a
    IsPlaced (Convert p kind a) = IsPlaced a
    IsPlaced (Not p a) = IsPlaced a
    IsPlaced (Binary p operator a b) = IsPlaced a × IsPlaced b
    IsPlaced (Compare p comparison turned a b) = IsPlaced a × IsPlaced b
    IsPlaced (And p a b) = IsPlaced a × IsPlaced b
    IsPlaced (Or p a b) = IsPlaced a × IsPlaced b
    IsPlaced (Conditional p a b c) = IsPlaced a × IsPlaced b × IsPlaced c
    IsPlaced (Comma a b) = IsPlaced a × IsPlaced b
    IsPlaced (Assign p kind t a) = IsTargetPlaced (width_of kind) t × IsPlaced a
    IsPlaced (Update p kind t operator a) = IsTargetPlaced (width_of kind) t × IsPlaced a
    IsPlaced (Step p kind t change new) = IsTargetPlaced (width_of kind) t
    IsPlaced (Call p f xs) = ArePlaced xs
    IsPlaced (Putchar p a) = IsPlaced a
    IsPlaced (Exit p a) = IsPlaced a
    IsPlaced (Abort p) = Unit {0}

    pub IsTargetPlaced : Width → Target → Type 0
    IsTargetPlaced width (InVariable v) = Unit {0}
    IsTargetPlaced width (AtAddress checked a) = IsTested checked width a × IsPlaced a

    pub ArePlaced : Expressions → Type 0
    ArePlaced no_expressions = Unit {0}
    ArePlaced (expression_then a xs) = IsPlaced a × ArePlaced xs

  abbrev pub IsSomePlaced : Option Expression → Type 0
  IsSomePlaced None = Unit {0}
  IsSomePlaced (Some e) = IsPlaced e

  abbrev pub AreSettingsPlaced : List Setting → Type 0
  AreSettingsPlaced [] = Unit {0}
  AreSettingsPlaced (item ∷ items) = IsInFrame memory frame item.width item.offset × IsPlaced item.value × AreSettingsPlaced items

  abbrev pub AreSlotsPlaced : List (Option FrameSlot) → Type 0
  AreSlotsPlaced [] = Unit {0}
  AreSlotsPlaced (None ∷ slots) = AreSlotsPlaced slots
  AreSlotsPlaced (Some slot ∷ slots) = IsInFrame memory frame slot.width slot.offset × AreSlotsPlaced slots

  abbrev mutual
    pub AreStatementsPlaced : Statements → Type 0
    AreStatementsPlaced Done = Unit {0}
    AreStatementsPlaced (Evaluate p e k) = IsPlaced e × AreStatementsPlaced k
    AreStatementsPlaced (Initialise p offset size items k) =
        ((a : ℕ) → IsFrame memory frame a → AreGood size (plus a offset) memory) × AreSettingsPlaced items × AreStatementsPlaced k
    AreStatementsPlaced (Print p xs pieces k) = ArePlaced xs × AreStatementsPlaced k
    AreStatementsPlaced (If p e t u k) = IsPlaced e × AreStatementsPlaced t × AreStatementsPlaced u × AreStatementsPlaced k
    AreStatementsPlaced (Loop p test body step k) = IsSomePlaced test × AreStatementsPlaced body × IsSomePlaced step × AreStatementsPlaced k
    AreStatementsPlaced (Do p body test k) = AreStatementsPlaced body × IsPlaced test × AreStatementsPlaced k
    AreStatementsPlaced (Switch p e arms k) = IsPlaced e × AreArmsPlaced arms × AreStatementsPlaced k
    AreStatementsPlaced (Break p k) = AreStatementsPlaced k
    AreStatementsPlaced (Continue p k) = AreStatementsPlaced k
    AreStatementsPlaced (Return p e k) = IsSomePlaced e × AreStatementsPlaced k

    pub AreArmsPlaced : Arms → Type 0
    AreArmsPlaced no_arms = Unit {0}
    AreArmsPlaced (arm_then labels t rest) = AreStatementsPlaced t × AreArmsPlaced rest

-- a function in a memory of so many bytes; the frame of what it calls stands behind its own
pub record KeepsFrame (memory : ℕ) (f : Function) : Type 0 where
  pub aligned : f.frame % 4 ≡ 0
  pub parameters : AreSlotsPlaced f.address memory f.frame f.parameters
  pub statements : AreStatementsPlaced f.address memory f.frame f.body

abbrev pub KeepsFrames : ℕ → Program → Type 0
KeepsFrames memory p = (f : ℕ) → KeepsFrame memory (p.function f)

-- before main is called: no call is active, and the first frame stands inside the memory, from 16 on and at a multiple of 4
pub record IsBegin (w : World) : Type 0 where
  pub depth : w.depth ≡ 0
  pub fits : w.top ≤ length w.memory
  pub work : 1 ≤ w.items
  pub aligned : w.top % 4 ≡ 0
  pub low : 16 ≤ w.top
