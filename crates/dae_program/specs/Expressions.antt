-- What expressions do (C90 6.3). Operands are evaluated from left to right, which C leaves open, and what can't go on ends
-- the program. In a world the items count the work, the loads the reads of objects in memory, and the stores the writes.
-- Each expression that is evaluated is one unit of work, and so is each argument of a call beside its expression.
use Rattle.std.specs.Prelude.{ℕ, ◌+◌, Bool, true, false, ◌&&◌, nat_eq, if◌then◌else◌, List, [], ◌∷◌, ◌++◌, length}
use Rattle.dae_base.specs.Words.{plus, extended}
use Rattle.dae_base.specs.declared.LoadKind.TheVariants.{U8}
use Rattle.dae_meaning.specs.Worlds.{World, ticked}
use Rattle.dae_meaning.specs.Results.{Halted, Trapped}
use Rattle.dae_meaning.specs.Variables.{Env}
use Rattle.dae_meaning.specs.Operations.{combined, compared, spelled}
use Rattle.dae_meaning.specs.declared.Operator.{Operator}
use Rattle.dae_meaning.specs.declared.Operator.TheVariants.{DivideSigned, DivideUnsigned, RemainderSigned, RemainderUnsigned}
use Rattle.dae_meaning.specs.declared.Spelling.TheVariants.{Byte}
use Rattle.dae_program.specs.Outcomes.{Outcome, Gives, Ends, ◌⟫◌, Object, Local, Placed, read, write}
use Rattle.dae_program.specs.Trees.{Expression, Target, Expressions, Number, Address, Frame, Variable, Read, Convert, Not, Binary, Compare, And, Or, Conditional, Comma, Assign, Update, Step, Call, Putchar, Exit, Abort, InVariable, AtAddress, no_expressions, expression_then}

-- ---- operators

abbrev pub divides : Operator → Bool
divides DivideSigned = true
divides DivideUnsigned = true
divides RemainderSigned = true
divides RemainderUnsigned = true
divides operator = false

-- C says nothing of a division by 0 (6.3.5): it is trap 1
abbrev pub operate : Operator → ℕ → ℕ → Env → World → Outcome ℕ
operate operator x y env w =
    if divides operator && nat_eq y 0 then Ends (Trapped 1) w else Gives (combined operator x y) env w

abbrev pub bit : Bool → ℕ
bit b = if b then 1 else 0

-- 0 for 0, and 1 for each other value
abbrev pub decide : ℕ → Env → World → Outcome ℕ
decide y env w = if nat_eq y 0 then Gives 0 env w else Gives 1 env w

-- ---- what an expression needs from outside

-- what a call does with its arguments: it gives a word, and the world is the caller's again
abbrev pub Calls : Type 0
Calls = ℕ → List ℕ → World → Outcome ℕ

-- the caller's variables stay as they were
abbrev pub return_to : Env → Outcome ℕ → Outcome ℕ
return_to env (Gives x e w) = Gives x env w
return_to env (Ends end w) = Ends end w

-- where the objects of the file with static storage are, and what calls do
pub record ProgramSetup : Type 0 where
  pub address : ℕ → ℕ
  pub calls : Calls

-- bytes are printed, each a unit of work
abbrev pub with_printed : List ℕ → World → World
with_printed bytes w = record w { printed = w.printed ++ bytes; items = w.items + length bytes }

-- ---- expressions

-- In order: constants (6.1.3, 6.4); addresses, which names of arrays, literals and functions' objects come to (6.2.2.1,
-- 6.3.3.2); variables (6.3.1); what is read at an address, by name, `*`, `[]`, `.` or `->` (6.3.2.1, 6.3.2.3, 6.3.3.2);
-- conversions (6.2.1.2, 6.3.4); `!` (6.3.3.3); operators (6.3.3.3, 6.3.5 to 6.3.7, 6.3.10 to 6.3.12); comparisons (6.3.8,
-- 6.3.9); `&&` (6.3.13); `||` (6.3.14); `?:` (6.3.15); `,` (6.3.17); `=` (6.3.16.1); `op=`, whose address is computed once
-- and which reads before its right side is evaluated (6.3.16.2); `++` and `--` (6.3.2.4, 6.3.3.1); calls (6.3.2.2); putchar
-- (7.9.7.9); exit (7.10.4.3); abort, which is trap 5 (7.10.4.1).
abbrev mutual
  pub evaluate : ProgramSetup → Expression → Env → World → Outcome ℕ
  evaluate s (Number k) env w = Gives k env (ticked w)
  evaluate s (Address number offset) env w = Gives (plus (s.address number) offset) env (ticked w)
  evaluate s (Frame p offset) env w = Gives (plus w.frame offset) env (ticked w)
  evaluate s (Variable p v) env w = Gives (env v) env (ticked w)
  evaluate s (Read p kind checked a) env w = evaluate s a env (ticked w) ⟫ λ x. read kind (Placed checked x)
  evaluate s (Convert p kind a) env w = evaluate s a env (ticked w) ⟫ λ x. Gives (extended kind x)
  evaluate s (Not p a) env w = evaluate s a env (ticked w) ⟫ λ x. Gives (bit (nat_eq x 0))
  evaluate s (Binary p operator a b) env w =
      evaluate s a env (ticked w) ⟫ λ x env w. evaluate s b env w ⟫ λ y. operate operator x y
  evaluate s (Compare p comparison turned a b) env w =
      evaluate s a env (ticked w) ⟫ λ x env w. evaluate s b env w ⟫ λ y.
      Gives (bit (if turned then compared comparison y x else compared comparison x y))
  evaluate s (And p a b) env w =
      evaluate s a env (ticked w) ⟫ λ x env w.
      if nat_eq x 0 then Gives 0 env w else (evaluate s b env w ⟫ decide)
  evaluate s (Or p a b) env w =
      evaluate s a env (ticked w) ⟫ λ x env w.
      if nat_eq x 0 then (evaluate s b env w ⟫ decide) else Gives 1 env w
  evaluate s (Conditional p a b c) env w =
      evaluate s a env (ticked w) ⟫ λ x env w. if nat_eq x 0 then evaluate s c env w else evaluate s b env w
  evaluate s (Comma a b) env w = evaluate s a env (ticked w) ⟫ λ x. evaluate s b
  evaluate s (Assign p kind t a) env w =
      object s t env (ticked w) ⟫ λ o env w. evaluate s a env w ⟫ λ y. write kind o y
  evaluate s (Update p kind t operator a) env w =
      object s t env (ticked w) ⟫ λ o env w. read kind o env w ⟫ λ x env w. evaluate s a env w ⟫ λ y env w.
      operate operator x y env w ⟫ λ z. write kind o (extended kind z)
  evaluate s (Step p kind t change new) env w =
      object s t env (ticked w) ⟫ λ o env w. read kind o env w ⟫ λ x env w.
      write kind o (extended kind (plus x change)) env w ⟫ λ y. Gives (if new then y else x)
  evaluate s (Call p f xs) env w = arguments s xs env (ticked w) ⟫ λ words env w. return_to env (s.calls f words w)
  evaluate s (Putchar p a) env w =
      evaluate s a env (ticked w) ⟫ λ x env w. Gives (extended U8 x) env (with_printed (spelled Byte x) w)
  evaluate s (Exit p a) env w = evaluate s a env (ticked w) ⟫ λ x env w. Ends (Halted x) w
  evaluate s (Abort p) env w = Ends (Trapped 5) (ticked w)

  -- which object is assigned; its address is computed here and once
  pub object : ProgramSetup → Target → Env → World → Outcome Object
  object s (InVariable v) env w = Gives (Local v) env w
  object s (AtAddress checked a) env w = evaluate s a env w ⟫ λ x. Gives (Placed checked x)

  -- arguments from left to right
  pub arguments : ProgramSetup → Expressions → Env → World → Outcome (List ℕ)
  arguments s no_expressions env w = Gives [] env w
  arguments s (expression_then a xs) env w =
      evaluate s a env (ticked w) ⟫ λ x env w. arguments s xs env w ⟫ λ words. Gives (x ∷ words)
