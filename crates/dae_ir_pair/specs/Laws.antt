-- What is proved of a form and its pair.
use Rattle.std.specs.Prelude.{◌≡◌, ℕ, true, List}
use Rattle.dae_meaning.specs.Worlds.{World}
use Rattle.dae_meaning.specs.Alike.{Alike, Same}
use Rattle.dae_meaning.specs.Variables.{Env}
use Rattle.dae_ir.specs.Form.{Program, calls_of}
use Rattle.dae_ir.specs.Classes.{VariableSet, Classes}
use Rattle.dae_ir.specs.Canonical.{Sides, issued, pair_calls_of}

abbrev pub AgreeOn : VariableSet → Env → Env → Type 0
AgreeOn c x y = (v : ℕ) → c v ≡ true → y v ≡ x v

-- A's variables agree with the form's on what A needs, and E's on what E needs
pub record Agree (c : Classes) (env : Env) (b : Sides) : Type 0 where
  pub a : AgreeOn c.s env b.a
  pub e : AgreeOn c.needs env b.e

-- the pair of a whole program does what its form does, for every bound and from every world
abbrev pub PairKeeps : Program → (ℕ → Classes) → Type 0
PairKeeps p of =
    (cap n limit f : ℕ) (xs : List ℕ) (w : World)
    → Alike (Agree (of f)) Same (calls_of p (issued of) n limit f xs w) (pair_calls_of p of cap n limit f xs xs w)
