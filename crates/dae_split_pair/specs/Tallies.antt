-- The largest number of actions in one group, of lists whose groups come in order.
use Rattle.std.specs.Prelude.{ℕ, ◌+◌, ◌≤◌, ◌<◌, ◌^◌, Bool, nat_eq, max, List, [], ◌∷◌, if◌then◌else◌}
use Rattle.dae_ir.specs.Code.{Done, Do, If, Loop}
use Rattle.dae_ir.specs.Streams.{Actions, actions_of}
use Rattle.dae_ir.specs.Budgets.{in_group, is_load_for_e, is_copy, AllLists}
use Rattle.dae_ir.specs.declared.stream.Action.{Action}
use Rattle.dae_ir.specs.declared.stream.StreamFunction.{StreamFunction}
use Rattle.dae_ir.specs.declared.stream.Pair.{Pair}
use Rattle.dae_split_pair.specs.Kinds.{is_counted}
use Rattle.dae_split_pair.specs.declared.kinds.Counted.{Counted}
use Rattle.dae_split_pair.specs.declared.tally.Tally.{Tally}

-- the numbers of the groups of a list don't fall from g on
abbrev pub IsOrdered : ℕ → Actions → Type 0
IsOrdered g Done = Unit {0}
IsOrdered g (Do mark action k) = (g ≤ mark.group) × IsOrdered mark.group k
IsOrdered g (If mark branch p q k) = IsOrdered g k
IsOrdered g (Loop mark body step k) = IsOrdered g k

abbrev pub IsSmall : (Action → Bool) → Actions → Type 0
IsSmall f code = (g : ℕ) → in_group f g code < 2 ^ 16

-- the groups of each list come in order, and they have fewer than 65,536 loads for E and copies each
pub record HasSmallGroups (pair : Pair) : Type 0 where
  pub ordered : AllLists (IsOrdered 0) pair.a.functions
  pub loads : AllLists (IsSmall is_load_for_e) pair.a.functions
  pub copies : AllLists (IsSmall is_copy) pair.a.functions

-- ---- the largest number in one group, where n were in group g before the list

abbrev pub one : Bool → ℕ
one b = if b then 1 else 0

abbrev pub most : Counted → ℕ → ℕ → Actions → ℕ
most kind g n Done = n
most kind g n (Do mark action k) =
    if nat_eq mark.group g then most kind g (n + one (is_counted kind action)) k
    else max n (most kind mark.group (one (is_counted kind action)) k)
most kind g n (If mark branch p q k) = max (max (most kind 0 0 p) (most kind 0 0 q)) (most kind g n k)
most kind g n (Loop mark body step k) = max (max (most kind 0 0 body) (most kind 0 0 step)) (most kind g n k)

abbrev pub most_of_all : Counted → List StreamFunction → ℕ
most_of_all kind [] = 0
most_of_all kind (f ∷ fs) = max (most kind 0 0 (actions_of f.body)) (most_of_all kind fs)

-- with what has been counted before the list
abbrev pub total : Counted → Tally → Actions → ℕ
total kind t k = max t.largest (most kind t.group t.count k)
