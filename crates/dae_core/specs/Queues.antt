-- The seven queues of the machine, and what an instruction does to them.
use Rattle.std.specs.Prelude.{ℕ, Bool, true, ◌&&◌, ◌||◌, nat_lt, List, [], ◌∷◌, ◌++◌, length, Option, None, is_some}
use Rattle.dae_base.specs.declared.Side.{Side}
use Rattle.dae_base.specs.declared.Side.TheVariants.{A, E}
use Rattle.dae_base.specs.declared.Queue.{Queue}
use Rattle.dae_base.specs.declared.Queue.TheVariants.{Ld, Al, Sa, Sd, Ab, Eb, Cq}
use Rattle.dae_base.specs.declared.LoadKind.{LoadKind}
use Rattle.dae_base.specs.declared.Depths.{Depths}
use Rattle.dae_base.specs.Budgets.{depth}
use Rattle.dae_encode.specs.declared.QueueUse.{QueueUse}
use Rattle.dae_encode.specs.declared.QueueUse.TheVariants.{Nothing, Take, Push, Load, StoreAddress}
use Rattle.dae_encode.specs.Uses.{belongs}
use Rattle.dae_queues.specs.declared.Slot.{Slot}
use Rattle.dae_queues.specs.Lists.{Slots, Stores, no_slots, no_stores, first, first_value, rest, without_front, with_datum, with_address, with_slot}
use Rattle.dae_core.specs.Moves.{offered_by}

pub record Queues : Type 0 where
  pub ld : Slots
  pub al : Slots
  pub stores : Stores
  pub ab : List ℕ
  pub eb : List ℕ
  pub cq : List ℕ

abbrev pub empty_queues : Queues
empty_queues = record { ld = no_slots; al = no_slots; stores = no_stores; ab = []; eb = []; cq = [] }

-- ---- the two ends of a queue

abbrev pub count : Queue → Queues → ℕ
count Ld q = length q.ld.slots
count Al q = length q.al.slots
count Sa q = length q.stores.sa
count Sd q = length q.stores.sd
count Ab q = length q.ab
count Eb q = length q.eb
count Cq q = length q.cq

-- the word that a take would give
abbrev pub front : Queue → Queues → Option ℕ
front Ld q = first_value q.ld.slots
front Al q = first_value q.al.slots
front Ab q = first q.ab
front Eb q = first q.eb
front Cq q = first q.cq
front Sa q = None
front Sd q = None

abbrev pub taken_from : Queue → Queues → Queues
taken_from Ld q = record q { ld = without_front q.ld }
taken_from Al q = record q { al = without_front q.al }
taken_from Ab q = record q { ab = rest q.ab }
taken_from Eb q = record q { eb = rest q.eb }
taken_from Cq q = record q { cq = rest q.cq }
taken_from Sa q = q
taken_from Sd q = q

abbrev pub pushed_to : Queue → ℕ → Queues → Queues
pushed_to Sd w q = record q { stores = with_datum w q.stores }
pushed_to Ab w q = record q { ab = q.ab ++ w ∷ [] }
pushed_to Eb w q = record q { eb = q.eb ++ w ∷ [] }
pushed_to Cq w q = record q { cq = q.cq ++ w ∷ [] }
pushed_to Ld w q = q
pushed_to Al w q = q
pushed_to Sa w q = q

abbrev pub reserved_in : Queue → LoadKind → ℕ → Queues → Queues
reserved_in Ld kind addr q = record q { ld = with_slot kind addr q.stores.issued q.ld }
reserved_in Al kind addr q = record q { al = with_slot kind addr q.stores.issued q.al }
reserved_in Sa kind addr q = q
reserved_in Sd kind addr q = q
reserved_in Ab kind addr q = q
reserved_in Eb kind addr q = q
reserved_in Cq kind addr q = q

-- the words of a queue of words
abbrev pub words_of : Queue → Queues → List ℕ
words_of Sd q = q.stores.sd
words_of Ab q = q.ab
words_of Eb q = q.eb
words_of Cq q = q.cq
words_of Ld q = []
words_of Al q = []
words_of Sa q = []

-- the load queue that a side takes from
abbrev pub loads_of : Side → Queues → Slots
loads_of A q = q.al
loads_of E q = q.ld

abbrev pub with_loads_of : Side → List Slot → Queues → Queues
with_loads_of A ss q = record q { al = record q.al { slots = ss } }
with_loads_of E ss q = record q { ld = record q.ld { slots = ss } }

-- ---- what an instruction does to the queues

-- whether the queue has what the access takes, or room for what it puts in
abbrev pub possible : Depths → QueueUse → Queues → Bool
possible d Nothing q = true
possible d (Take k) q = is_some (front k q)
possible d (Push k) q = nat_lt (count k q) (depth k d)
possible d (Load k kind) q = nat_lt (count k q) (depth k d)
possible d (StoreAddress width) q = nat_lt (count Sa q) (depth Sa d)

-- the access is one of A's or of E's, and its queue allows it now
abbrev pub ready : Depths → QueueUse → Queues → Bool
ready d use' q = (belongs A use' || belongs E use') && possible d use' q

-- the word that the access gives
abbrev pub peek : QueueUse → Queues → ℕ
peek use' q = offered_by (λ q k. front k q) q use'

-- the queues after the access, with the word that goes in: a datum or an address
abbrev pub commit : QueueUse → ℕ → Queues → Queues
commit Nothing w q = q
commit (Take k) w q = taken_from k q
commit (Push k) w q = pushed_to k w q
commit (Load k kind) w q = reserved_in k kind w q
commit (StoreAddress width) w q = record q { stores = with_address width w q.stores }
