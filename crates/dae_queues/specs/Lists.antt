-- The queues as plain lists: what may be put in and taken out, and what memory may fill and drain. They are those of
-- Smith, "Decoupled Access/Execute Computer Architectures", architecture overview: operands wait in queues between the
-- processors, a store address waits for its datum, and a load is compared with the store addresses that wait.
use Rattle.std.specs.Prelude.{ℕ, suc, ◌+◌, Bool, not, ◌&&◌, nat_eq, nat_lt, nat_le, if◌then◌else◌, List, [], ◌∷◌, ◌++◌, map, Option, Some, None, is_none, option_and_then}
use Rattle.std.specs.List.{list_any, find}
use Rattle.std.specs.Bool.{then_some}
use Rattle.dae_base.specs.Words.{width_of, overlap, loaded}
use Rattle.dae_base.specs.declared.Width.{Width}
use Rattle.dae_base.specs.declared.LoadKind.{LoadKind}
use Rattle.dae_queues.specs.declared.Slot.{Slot}
use Rattle.dae_queues.specs.declared.StoreAt.{StoreAt}

-- a load queue: how many slots it ever took in and gave out, and the slots between, oldest first
pub record Slots : Type 0 where
  pub taken : ℕ
  pub reserved : ℕ
  pub slots : List Slot

-- the stores: how many addresses were ever pushed and drained, the addresses between, and the data
pub record Stores : Type 0 where
  pub drained : ℕ
  pub issued : ℕ
  pub sa : List StoreAt
  pub sd : List ℕ

abbrev pub no_slots : Slots
no_slots = record { taken = 0; reserved = 0; slots = [] }

abbrev pub no_stores : Stores
no_stores = record { drained = 0; issued = 0; sa = []; sd = [] }

-- ---- the two ends of a queue

abbrev pub first : {X : Type 0} → List X → Option X
first [] = None
first (x ∷ xs) = Some x

abbrev pub rest {ℓ} : {X : Type ℓ} → List X → List X
rest [] = []
rest (x ∷ xs) = xs

-- the value of the front slot, where that is filled
abbrev pub first_value : List Slot → Option ℕ
first_value [] = None
first_value (s ∷ ss) = s.value

-- a slot that waits for its value
abbrev pub waits : Slot → Bool
waits s = is_none s.value

-- the place of the first slot that waits for its value, or past the last where none waits
abbrev pub first_unfilled : List Slot → ℕ
first_unfilled [] = 0
first_unfilled (s ∷ ss) = if is_none s.value then 0 else suc (first_unfilled ss)

abbrev pub without_front : Slots → Slots
without_front s = record { taken = s.taken + 1; reserved = s.reserved; slots = rest s.slots }

abbrev pub with_datum : ℕ → Stores → Stores
with_datum w s = record s { sd = s.sd ++ w ∷ [] }

abbrev pub with_address : Width → ℕ → Stores → Stores
with_address width addr s = record {
  drained = s.drained;
  issued = s.issued + 1;
  sa = s.sa ++ record { number = s.issued; addr = addr; width = width } ∷ [];
  sd = s.sd;
}

-- a slot that waits for its value
abbrev pub new_slot : ℕ → LoadKind → ℕ → ℕ → Slot
new_slot number kind addr stamp = record { number = number; addr = addr; kind = kind; stamp = stamp; value = None }

-- one more slot, whose stamp is the number of store addresses that were pushed before it
abbrev pub with_slot : LoadKind → ℕ → ℕ → Slots → Slots
with_slot kind addr stamp s = record {
  taken = s.taken;
  reserved = s.reserved + 1;
  slots = s.slots ++ new_slot s.reserved kind addr stamp ∷ [];
}

-- ---- what memory does to the queues

abbrev pub is_waiting : ℕ → Slot → Bool
is_waiting number s = nat_eq s.number number && is_none s.value

-- the slot of this number, where it waits for its value
abbrev pub waiting : ℕ → List Slot → Option Slot
waiting number ss = find (is_waiting number) ss

abbrev pub give : ℕ → ℕ → Slot → Slot
give number w s = if is_waiting number s then record s { value = Some w } else s

-- the slots once the one of this number has its value
abbrev pub with_value : ℕ → ℕ → List Slot → List Slot
with_value number w ss = map (give number w) ss

-- an older store that waits keeps a load of its bytes from being filled
abbrev pub bars : Slot → StoreAt → Bool
bars s a = nat_lt a.number s.stamp && overlap a.addr a.width s.addr (width_of s.kind)

-- a slot that may be filled: it waits, and no older waiting store has a byte of it
abbrev pub can_be_filled : List StoreAt → Slot → Bool
can_be_filled sa s = is_none s.value && not (list_any (bars s) sa)

-- an older load that waits keeps a store to its bytes from being drained
abbrev pub holds : StoreAt → Slot → Bool
holds a s = is_none s.value && (nat_le s.stamp a.number && overlap a.addr a.width s.addr (width_of s.kind))

-- the word that a fill of this slot would put, where the slot may be filled: it waits, and no older waiting store has a
-- byte of it
abbrev pub filling_of : List StoreAt → ℕ → List Slot → List ℕ → Option ℕ
filling_of sa number slots memory =
    option_and_then (λ s. then_some (not (list_any (bars s) sa)) (loaded s.kind s.addr memory)) (waiting number slots)

-- the store that is next to be drained, with its datum
abbrev pub next_store : List StoreAt → List ℕ → Option (StoreAt × ℕ)
next_store [] ws = None
next_store (a ∷ as') [] = None
next_store (a ∷ as') (w ∷ ws) = Some (a, w)

abbrev pub without_store : Stores → Stores
without_store s = record { drained = s.drained + 1; issued = s.issued; sa = rest s.sa; sd = rest s.sd }

-- that store, where it may be drained: no older waiting load, of either load queue, has a byte of it
abbrev pub draining_of : Stores → List Slot → List Slot → Option (StoreAt × ℕ)
draining_of stores ld al =
    option_and_then (λ n. then_some (not (list_any (holds n.0) ld) && not (list_any (holds n.0) al)) n) (next_store stores.sa stores.sd)
