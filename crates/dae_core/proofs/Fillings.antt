-- The word of a possible fill is what its slot finds in memory.
use Rattle.std.proofs.Common.{◌≡◌, ℕ, Bool, true, false, not, List, refl}
use Rattle.std.specs.Prelude.{Some, IsSome}
use Rattle.std.specs.List.{list_any}
use Rattle.std.specs.Bool.{then_some}
use Rattle.dae_base.specs.Words.{loaded}
use Rattle.dae_queues.specs.declared.Slot.{Slot}
use Rattle.dae_queues.specs.declared.StoreAt.{StoreAt}
use Rattle.dae_queues.specs.Lists.{bars, waiting, filling_of}

some_is : (b : Bool) (x : ℕ) → IsSome (then_some b x) → then_some b x ≡ Some x
some_is true x h = refl
some_is false x h = cc

pub filling_where : (sa : List StoreAt) (n : ℕ) (ss : List Slot) (m : List ℕ) (s : Slot) → IsSome (filling_of sa n ss m) → waiting n ss ≡ Some s → filling_of sa n ss m ≡ Some (loaded s.kind s.addr m)
filling_where sa n ss m s h found =
    rw found (some_is (not (list_any (bars s) sa)) (loaded s.kind s.addr m) (rw found at h))
