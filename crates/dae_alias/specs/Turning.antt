-- Statements that are written one behind another.
use Rattle.std.specs.Prelude.{◌≡◌, ℕ, ◌+◌, List, [], ◌∷◌, slice_get, Option, Some, None}
use Rattle.dae_ir.specs.Code.{Done}
use Rattle.dae_ir.specs.Form.{Form, before, form_of}
use Rattle.dae_ir.specs.declared.form.Item.{Item}
use Rattle.dae_ir.specs.declared.form.Item.TheVariants.{Assign, Load, Store, Print, Expect, Break, Continue, Call, Return, Halt}
use Rattle.dae_ir.specs.declared.form.Statement.{Statement}
use Rattle.dae_alias.specs.declared.held.Held.{Held}
use Rattle.dae_alias.specs.declared.walking.Walk.{Walk}
use Rattle.dae_alias.specs.declared.turning.ReusedList.{ReusedList}
use Rattle.dae_alias.specs.Meeting.{known_in, held_by}
use Rattle.dae_alias.specs.Stretches.{KnownInStretch, nothing, symbol, after}
use Rattle.dae_alias.specs.Reuse.{Holders, loads_in, reused, still_held}

-- the form of statements, and then k
abbrev pub onto : List Statement → Form → Form
onto [] k = k
onto (s ∷ ss) k = before s (onto ss k)

-- so much was written: with any k behind it, it is what f gives
abbrev pub Writes : (Form → Form) → List Statement → List Statement → Type 0
Writes f old new = (k : Form) → onto new k ≡ onto old (f k)

abbrev pub holder_or_none : Option (Option ℕ) → Option ℕ
holder_or_none None = None
holder_or_none (Some holder) = holder

-- the variables of loads in a table
abbrev pub holders_of : List (Option ℕ) → Holders
holders_of table i = holder_or_none (slice_get table i)

-- what is held behind an item that is no load
abbrev pub held_after : KnownInStretch → List Held → Item → List Held
held_after s held (Assign v x) = held
held_after s held (Load v kind x) = held
held_after s held (Store width x y) = still_held held (symbol s x) width
held_after s held (Expect check) = held
held_after s held (Print spelling x) = []
held_after s held Break = []
held_after s held Continue = []
held_after s held (Call v f xs) = []
held_after s held (Return x) = []
held_after s held (Halt x) = []

-- the walk goes on behind an item that is no load
pub record Passes (item : Item) (old new : Walk) : Type 0 where
  pub known : known_in new ≡ after (known_in old) item
  pub held : held_by new ≡ held_after (known_in old) (held_by old) item
  pub loads : new.loads ≡ old.loads

-- the code behind what a walk has met
abbrev pub reused_from : Holders → Walk → Form → Form
reused_from h w code = reused h (known_in w) (held_by w) w.loads code

-- a statement is met, and what it is turned into is written
pub record TurnsInto (h : Holders) (s : Statement) (old new : Walk)
    (out out' : List Statement) : Type 0 where
  pub written : (k : Form)
      → onto out' (reused_from h new k) ≡ onto out (reused_from h old (before s k))
  pub loads : new.loads ≡ old.loads + loads_in (before s Done)

-- a list of statements with its loads reused, and the number of loads up to its end
pub record IsTurned (h : Holders) (ss : List Statement) (l : ℕ) (part : ReusedList) : Type 0 where
  pub code : form_of (let xs = part.statements in xs.items) ≡ reused h nothing [] l (form_of ss)
  pub loads : part.loads ≡ l + loads_in (form_of ss)
