-- What a typed program keeps to: each variable that it names is below the number of its function's variables, variable 0 is set
-- by a return alone, its numbers are words, and nobody calls main, which has no parameters.
use Rattle.std.specs.Prelude.{◌≡◌, ◌≢◌, ℕ, ◌+◌, ◌^◌, ◌<◌, ◌≤◌, List, [], ◌∷◌, length, Option, Some, None}
use Rattle.std.specs.List.{AllByRecursion}
use Rattle.dae_program.specs.declared.program.FrameSlot.{FrameSlot}
use Rattle.dae_program.specs.Switches.{count_arms}
use Rattle.dae_program.specs.Trees.{Expression, Target, Expressions, Setting, Statements, Arms, Program, Number, Address, Frame, Variable, Read, Convert, Not, Binary, Compare, And, Or, Conditional, Comma, Assign, Update, Step, Call, Putchar, Exit, Abort, InVariable, AtAddress, no_expressions, expression_then, Done, Evaluate, Initialise, Print, If, Loop, Do, Switch, Break, Continue, Return, no_arms, arm_then}

-- m is the number of variables
abbrev mutual
  pub IsIn : ℕ → Expression → Type 0
  IsIn m (Number k) = k < 2 ^ 32
  IsIn m (Address object offset) = offset < 2 ^ 32
  IsIn m (Frame p offset) = offset < 2 ^ 32
  IsIn m (Variable p v) = v < m
  IsIn m (Read p kind checked a) = IsIn m a
  IsIn m (Convert p kind a) = IsIn m a
  IsIn m (Not p a) = IsIn m a
  IsIn m (Binary p operator a b) = IsIn m a × IsIn m b
  IsIn m (Compare p comparison turned a b) = IsIn m a × IsIn m b
  IsIn m (And p a b) = IsIn m a × IsIn m b
  IsIn m (Or p a b) = IsIn m a × IsIn m b
  IsIn m (Conditional p a b c) = IsIn m a × IsIn m b × IsIn m c
  IsIn m (Comma a b) = IsIn m a × IsIn m b
  IsIn m (Assign p kind t a) = IsTargetIn m t × IsIn m a
  IsIn m (Update p kind t operator a) = IsTargetIn m t × IsIn m a
  IsIn m (Step p kind t change new) = IsTargetIn m t × (change < 2 ^ 32)
  IsIn m (Call p f xs) = AreIn m xs
  IsIn m (Putchar p a) = IsIn m a
  IsIn m (Exit p a) = IsIn m a
  IsIn m (Abort p) = Unit {0}

  pub IsTargetIn : ℕ → Target → Type 0
  IsTargetIn m (InVariable v) = (0 < v) × (v < m)
  IsTargetIn m (AtAddress checked a) = IsIn m a

  pub AreIn : ℕ → Expressions → Type 0
  AreIn m no_expressions = Unit {0}
  AreIn m (expression_then a xs) = IsIn m a × AreIn m xs

abbrev pub IsSomeIn : ℕ → Option Expression → Type 0
IsSomeIn m None = Unit {0}
IsSomeIn m (Some e) = IsIn m e

abbrev pub AreSettingsIn : ℕ → List Setting → Type 0
AreSettingsIn m [] = Unit {0}
AreSettingsIn m (item ∷ items) = (item.offset < 2 ^ 32) × IsIn m item.value × AreSettingsIn m items

abbrev pub IsLabel : Option ℕ → Type 0
IsLabel None = Unit {0}
IsLabel (Some k) = k < 2 ^ 32

abbrev mutual
  pub AreStatementsIn : ℕ → Statements → Type 0
  AreStatementsIn m Done = Unit {0}
  AreStatementsIn m (Evaluate p e k) = IsIn m e × AreStatementsIn m k
  AreStatementsIn m (Initialise p offset size items k) = (offset < 2 ^ 32) × (size < 2 ^ 32) × AreSettingsIn m items × AreStatementsIn m k
  AreStatementsIn m (Print p xs pieces k) = AreIn m xs × AreStatementsIn m k
  AreStatementsIn m (If p e t u k) = IsIn m e × AreStatementsIn m t × AreStatementsIn m u × AreStatementsIn m k
  AreStatementsIn m (Loop p test body step k) = IsSomeIn m test × AreStatementsIn m body × IsSomeIn m step × AreStatementsIn m k
  AreStatementsIn m (Do p body test k) = AreStatementsIn m body × IsIn m test × AreStatementsIn m k
  AreStatementsIn m (Switch p e arms k) = IsIn m e × (count_arms arms < 2 ^ 32) × AreArmsIn m arms × AreStatementsIn m k
  AreStatementsIn m (Break p k) = AreStatementsIn m k
  AreStatementsIn m (Continue p k) = AreStatementsIn m k
  AreStatementsIn m (Return p e k) = IsSomeIn m e × AreStatementsIn m k

  pub AreArmsIn : ℕ → Arms → Type 0
  AreArmsIn m no_arms = Unit {0}
  AreArmsIn m (arm_then labels t rest) = AllByRecursion IsLabel labels × AreStatementsIn m t × AreArmsIn m rest

abbrev pub AreSlotsIn : List (Option FrameSlot) → Type 0
AreSlotsIn [] = Unit {0}
AreSlotsIn (None ∷ slots) = AreSlotsIn slots
AreSlotsIn (Some slot ∷ slots) = (slot.offset < 2 ^ 32) × AreSlotsIn slots

-- a program, with how many variables each function has, and the number of main
pub record KeepsScope (p : Program) (variables : ℕ → ℕ) (main : ℕ) : Type 0 where
  pub statements : (f : ℕ) → AreStatementsIn (variables f) (let g = p.function f in g.body)
  pub parameters : (f : ℕ) → 1 + length (let g = p.function f in g.parameters) ≤ variables f
  pub slots : (f : ℕ) → AreSlotsIn (let g = p.function f in g.parameters)
  pub main_alone : (f g : ℕ) → (let h = p.function f in h.callee g) ≢ main
  pub main_plain : (let g = p.function main in g.parameters) ≡ []
