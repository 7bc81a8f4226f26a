-- A load is met in a stretch.
use Rattle.std.specs.Prelude.{◌≡◌, ℕ, ◌+◌, List, Option}
use Rattle.dae_base.specs.declared.LoadKind.{LoadKind}
use Rattle.dae_ir.specs.declared.form.Operand.{Operand}
use Rattle.dae_alias.specs.declared.held.Held.{Held}
use Rattle.dae_alias.specs.declared.walking.Walk.{Walk}
use Rattle.dae_alias.specs.Listed.{known_of}
use Rattle.dae_alias.specs.Stretches.{KnownInStretch, symbol}
use Rattle.dae_alias.specs.Reuse.{held_in, known_behind, held_behind}

abbrev pub known_in : Walk → KnownInStretch
known_in w = known_of w.sets

abbrev pub held_by : Walk → List Held
held_by w = let held = w.held in held.items

-- a load into v, which repeats what is given
pub record Meets (v : ℕ) (kind : LoadKind) (x : Operand) (old new : Walk)
    (given : Option Held) : Type 0 where
  pub is : given ≡ held_in (held_by old) kind (symbol (known_in old) x)
  pub known : known_in new ≡ known_behind (known_in old) v given
  pub held : held_by new ≡ held_behind (known_in old) (held_by old) old.loads v kind x given
  pub loads : new.loads ≡ old.loads + 1
