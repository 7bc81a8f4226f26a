-- What the checker knows of the queues: what an access, a fill and a drain make of it.
use Rattle.std.specs.Prelude.{ℕ, ◌-◌, Bool, true, not, ◌&&◌, nat_lt, nat_eq, is_none, is_some, if◌then◌else◌, List, [], ◌∷◌, ◌++◌, length, map, take, Option, Some, None, option_map, option_and_then, unwrap_or}
use Rattle.std.specs.List.{list_any}
use Rattle.dae_base.specs.declared.Queue.{Queue}
use Rattle.dae_base.specs.declared.Queue.TheVariants.{Ld, Al, Sa, Sd, Ab, Eb, Cq}
use Rattle.dae_base.specs.declared.Depths.{Depths}
use Rattle.dae_base.specs.declared.LoadKind.{LoadKind}
use Rattle.dae_base.specs.Budgets.{depth}
use Rattle.dae_base.specs.Words.{width_of}
use Rattle.dae_encode.specs.declared.QueueUse.{QueueUse}
use Rattle.dae_encode.specs.declared.QueueUse.TheVariants.{Nothing, Take, Push, Load, StoreAddress}
use Rattle.dae_queues.specs.Lists.{first, rest}
use Rattle.dae_ranges.specs.declared.Range.{Range}
use Rattle.dae_ranges.specs.Ranges.{single, meet, loaded_range}
use Rattle.dae_guard.specs.Sets.{Cell}
use Rattle.dae_guard.specs.declared.StoreCell.{StoreCell}
use Rattle.dae_guard.specs.Sets.{Waiting}

-- ---- accesses

abbrev pub length_of : Queue → Waiting → ℕ
length_of Ld q = length q.ld
length_of Al q = length q.al
length_of Sa q = length q.sa
length_of Sd q = length q.sd
length_of Ab q = length q.ab
length_of Eb q = length q.eb
length_of Cq q = length q.cq

abbrev pub front_cell : List Cell → Option Range
front_cell [] = None
front_cell (c ∷ cs) = c.value

abbrev pub front_of : Queue → Waiting → Option Range
front_of Ld q = front_cell q.ld
front_of Al q = front_cell q.al
front_of Ab q = first q.ab
front_of Eb q = first q.eb
front_of Cq q = first q.cq
front_of Sa q = None
front_of Sd q = None

-- the queue has what the access takes, or room for what it puts in
abbrev pub allows : Depths → QueueUse → Waiting → Bool
allows d Nothing q = true
allows d (Take k) q = is_some (front_of k q)
allows d (Push k) q = nat_lt (length_of k q) (depth k d)
allows d (Load k kind) q = nat_lt (length_of k q) (depth k d)
allows d (StoreAddress width) q = nat_lt (length_of Sa q) (depth Sa d)

-- what the access gives
abbrev pub given : QueueUse → Waiting → Range
given (Take k) q = unwrap_or (front_of k q) (single 0)
given Nothing q = single 0
given (Push k) q = single 0
given (Load k kind) q = single 0
given (StoreAddress width) q = single 0

abbrev pub without : Queue → Waiting → Waiting
without Ld q = record q { ld = rest q.ld }
without Al q = record q { al = rest q.al }
without Ab q = record q { ab = rest q.ab }
without Eb q = record q { eb = rest q.eb }
without Cq q = record q { cq = rest q.cq }
without Sa q = q
without Sd q = q

abbrev pub with_word : Queue → Range → Waiting → Waiting
with_word Sd r q = record q { sd = q.sd ++ r ∷ [] }
with_word Ab r q = record q { ab = q.ab ++ r ∷ [] }
with_word Eb r q = record q { eb = q.eb ++ r ∷ [] }
with_word Cq r q = record q { cq = q.cq ++ r ∷ [] }
with_word Ld r q = q
with_word Al r q = q
with_word Sa r q = q

abbrev pub new_cell : LoadKind → Range → Waiting → Cell
new_cell kind addr q = record { value = None; addr = addr; kind = kind; older = length q.sa }

abbrev pub with_load : Queue → LoadKind → Range → Waiting → Waiting
with_load Ld kind addr q = record q { ld = q.ld ++ new_cell kind addr q ∷ [] }
with_load Al kind addr q = record q { al = q.al ++ new_cell kind addr q ∷ [] }
with_load Sa kind addr q = q
with_load Sd kind addr q = q
with_load Ab kind addr q = q
with_load Eb kind addr q = q
with_load Cq kind addr q = q

-- what waits after the access, with what goes in
abbrev pub after_use : QueueUse → Range → Waiting → Waiting
after_use Nothing r q = q
after_use (Take k) r q = without k q
after_use (Push k) r q = with_word k r q
after_use (Load k kind) r q = with_load k kind r q
after_use (StoreAddress width) r q =
    record q { sa = q.sa ++ record { addr = r; width = width } ∷ [] }

-- ---- fills and drains

-- the slot and the store may have a byte in common
abbrev pub touches : Cell → StoreCell → Bool
touches c s = meet s.addr s.width c.addr (width_of c.kind)

-- a slot that may be filled whatever the addresses are: it waits, and meets none of the older
-- stores
abbrev pub is_fillable : List StoreCell → Cell → Bool
is_fillable sa c = is_none c.value && not (list_any (touches c) (take c.older sa))

abbrev pub filled_cell : Cell → Cell
filled_cell c = record c { value = Some (loaded_range c.kind) }

-- the slots with the first one filled that may be
abbrev pub fill_first : List StoreCell → List Cell → Option (List Cell)
fill_first sa [] = None
fill_first sa (c ∷ cs) =
    if is_fillable sa c then Some (filled_cell c ∷ cs)
    else option_map (λ ds. c ∷ ds) (fill_first sa cs)

abbrev pub fill_al : Waiting → Option Waiting
fill_al q = option_map (λ cs. record q { al = cs }) (fill_first q.sa q.al)

abbrev pub fill_ld : Waiting → Option Waiting
fill_ld q = option_map (λ cs. record q { ld = cs }) (fill_first q.sa q.ld)

-- a waiting slot without older stores may have a byte of this one
abbrev pub delays : StoreCell → Cell → Bool
delays s c = is_none c.value && (nat_eq c.older 0 && touches c s)

abbrev pub younger : Cell → Cell
younger c = record c { older = c.older - 1 }

abbrev pub next_store : List StoreCell → List Range → Option StoreCell
next_store [] ds = None
next_store (s ∷ ss) [] = None
next_store (s ∷ ss) (d ∷ ds) = Some s

abbrev pub without_store : Waiting → Waiting
without_store q =
    record q { ld = map younger q.ld; al = map younger q.al; sa = rest q.sa; sd = rest q.sd }

abbrev pub drain_next : Waiting → Option Waiting
drain_next q =
    option_and_then (λ s.
    if not (list_any (delays s) q.ld) && not (list_any (delays s) q.al)
    then Some (without_store q) else None) (next_store q.sa q.sd)
