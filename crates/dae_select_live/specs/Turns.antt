-- What is told of the loops of a function: what is live where a turn begins, whatever is live behind the loop.
use Rattle.std.specs.Prelude.{◌≡◌, ℕ, ◌+◌, ◌*◌, nat_eq, Bool, false, List, Option, Some, None}
use Rattle.indexmap.specs.IndexMap.{get}
use Rattle.dae_ir.specs.Code.{Done, Do, If, Loop}
use Rattle.dae_ir.specs.Classes.{VariableSet}
use Rattle.dae_ir.specs.Streams.{Actions}
use Rattle.dae_ir.specs.declared.stream.Mark.{Mark}
use Rattle.dae_select_walks.specs.Live.{turn, with_all}
use Rattle.dae_select_walks.specs.Facts.{only_leaves}
use Rattle.dae_select_live.specs.Members.{member}
use Rattle.dae_select_live.specs.declared.turns.Turns.{Turns}

-- the number of the place of a loop
abbrev pub key_of : Mark → ℕ
key_of m = m.place.line * 4294967296 + m.place.col

-- ---- one loop

-- these are live where a turn begins, and what is live behind the loop; or nothing is told
abbrev pub IsTurn : Actions → Actions → Option (List ℕ) → Type 0
IsTurn body step None = Unit {0}
IsTurn body step (Some set) = (n : VariableSet) → turn body step n ≡ with_all (member set) n

-- something is told, and it is so
abbrev pub IsTurnTold : Actions → Actions → Option (Option (List ℕ)) → Type 0
IsTurnTold body step None = ⊥
IsTurnTold body step (Some row) = IsTurn body step row

-- a turn may leave the loop at its begin
abbrev pub leaves_at_once : Actions → Bool
leaves_at_once (If m b p q k) = only_leaves q
leaves_at_once code = false

-- ---- the loops of code

-- by the numbers of their places
abbrev pub Told : Type 0
Told = ℕ → Option (Option (List ℕ))

abbrev pub turns_told : Turns → Told
turns_told turns k = get nat_eq turns.rows k

-- each loop is told of
abbrev pub TellsTurns : Told → Actions → Type 0
TellsTurns told Done = Unit {0}
TellsTurns told (Do m a k) = TellsTurns told k
TellsTurns told (If m b p q k) = TellsTurns told p × TellsTurns told q × TellsTurns told k
TellsTurns told (Loop m body step k) =
    IsTurnTold body step (told (key_of m)) × TellsTurns told body × TellsTurns told step × TellsTurns told k

-- what was told of a place is told later, or nothing is
abbrev pub IsLater : Option (Option (List ℕ)) → Option (Option (List ℕ)) → Type 0
IsLater None new = Unit {0}
IsLater (Some row) None = ⊥
IsLater (Some row) (Some None) = Unit {0}
IsLater (Some row) (Some (Some set)) = row ≡ Some set

abbrev pub AreToldLater : Told → Told → Type 0
AreToldLater old new = (k : ℕ) → IsLater (old k) (new k)
