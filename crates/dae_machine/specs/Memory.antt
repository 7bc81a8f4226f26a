-- What memory does to the queues.
use Rattle.std.specs.Prelude.{ℕ, List, Option, option_map}
use Rattle.dae_base.specs.declared.Side.{Side}
use Rattle.dae_base.specs.Words.{stored}
use Rattle.dae_queues.specs.declared.StoreAt.{StoreAt}
use Rattle.dae_queues.specs.Lists.{with_value, filling_of, draining_of, without_store}
use Rattle.dae_queues.specs.Numbers.{SlotsCount, StoresCount}
use Rattle.dae_core.specs.Queues.{Queues}
pub use Rattle.dae_core.specs.Queues.{loads_of, with_loads_of}

-- the word that a fill of this slot would put, where the slot may be filled
abbrev pub filling : Side → ℕ → Queues → List ℕ → Option ℕ
filling side number q memory = filling_of q.stores.sa number (loads_of side q).slots memory

-- the queues after it is filled
abbrev pub fill : Side → ℕ → Queues → List ℕ → Option Queues
fill side number q memory =
    option_map (λ w. with_loads_of side (with_value number w (loads_of side q).slots) q) (filling side number q memory)

-- the store that may be drained
abbrev pub draining : Queues → Option (StoreAt × ℕ)
draining q = draining_of q.stores q.ld.slots q.al.slots

-- the queues and the memory after it is drained
abbrev pub drain : Queues → List ℕ → Option (Queues × List ℕ)
drain q memory =
    option_map (λ n. (record q { stores = without_store q.stores }, stored n.0.width n.0.addr n.1 memory)) (draining q)

-- the numbers of slots and stores are in order
pub record QueuesCount (q : Queues) : Type 0 where
  pub ld : SlotsCount q.stores.issued q.ld
  pub al : SlotsCount q.stores.issued q.al
  pub sa : StoresCount q.stores
