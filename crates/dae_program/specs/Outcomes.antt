-- How the evaluation of an expression ends, and what objects hold.
use Rattle.std.specs.Prelude.{ℕ, ◌+◌, Bool, true, if◌then◌else◌, length, Option, Some, None}
use Rattle.dae_base.specs.Words.{loaded, stored, width_of}
use Rattle.dae_base.specs.declared.LoadKind.{LoadKind}
use Rattle.dae_base.specs.declared.Width.{Width}
use Rattle.dae_meaning.specs.Worlds.{World}
use Rattle.dae_meaning.specs.Results.{Result, At, Over, Next, End, Trapped, Astray, Run, within}
use Rattle.dae_meaning.specs.Variables.{Env, put}
use Rattle.dae_meaning.specs.Operations.{misplaced}

-- an evaluation gives a value, or ends the program
pub data Outcome (X : Type 0) : Type 0 where
  Gives : (x : X) (env : Env) (w : World) → Outcome X
  Ends : (end : End) (w : World) → Outcome X

-- one evaluation, and then another that knows its value
infixl 10 ◌⟫◌
abbrev pub ◌⟫◌ : {X Y : Type 0} → Outcome X → (X → Env → World → Outcome Y) → Outcome Y
(Gives x env w) ⟫ f = f x env w
(Ends end w) ⟫ f = Ends end w

-- an evaluation, and then statements
infixl 10 ◌⊳◌
abbrev pub ◌⊳◌ : {X : Type 0} → Outcome X → (X → Run Env) → Result Env
(Gives x env w) ⊳ f = f x env w
(Ends end w) ⊳ f = Over end w

abbrev pub last_world : {X : Type 0} → Outcome X → World
last_world (Gives x env w) = w
last_world (Ends end w) = w

-- ---- objects (C90 6.1.2.4)

-- a variable, or the object at an address, which may have to be checked
pub data Object : Type 0 where
  Local : (v : ℕ) → Object
  Placed : (checked : Bool) (address : ℕ) → Object

-- it traps where there is a fault
abbrev pub unless : {X : Type 0} → Option ℕ → Outcome X → World → Outcome X
unless None r w = r
unless (Some code) r w = Ends (Trapped code) w

-- An access that isn't well placed traps where it is checked. C says nothing of it (3.16), and the language has the traps: 3
-- where the address isn't a multiple of the width, else 2 where it is below 16 or past the end. The object of a name is well
-- placed, so its accesses aren't checked.
abbrev pub access : {X : Type 0} → Bool → Option ℕ → Outcome X → World → Outcome X
access checked None r w = r
access checked (Some code) r w = Ends (if checked then Trapped code else Astray) w

abbrev pub with_read : World → World
with_read w = record w { loads = w.loads + 1 }

abbrev pub with_written : Width → ℕ → ℕ → World → World
with_written width x y w = record w { memory = stored width x y w.memory; stores = w.stores + 1 }

-- what an object holds. Words of narrower types are extended as the type says (C90 6.2.1.1, 6.2.1.2)
abbrev pub read : LoadKind → Object → Env → World → Outcome ℕ
read kind (Local v) env w = Gives (env v) env w
read kind (Placed checked x) env w =
    access checked (misplaced (width_of kind) x (length w.memory)) (Gives (loaded kind x w.memory) env (with_read w)) w

-- an object gets a word, which is given (C90 6.3.16)
abbrev pub write : LoadKind → Object → ℕ → Env → World → Outcome ℕ
write kind (Local v) y env w = Gives y (put true v y env) w
write kind (Placed checked x) y env w =
    access checked (misplaced (width_of kind) x (length w.memory)) (Gives y env (with_written (width_of kind) x y w)) w

-- the same of a statement, for an object of a name
abbrev pub store : Width → ℕ → ℕ → Run Env
store width x y env w = within (misplaced width x (length w.memory)) w (At Next env (with_written width x y w))
