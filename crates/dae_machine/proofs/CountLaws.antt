-- Each step keeps the numbers of slots and stores in order.
use Rattle.std.proofs.Common.{◌≡◌, ℕ, true, [], ◌∷◌, map}
use Rattle.std.specs.Prelude.{Some}
use Rattle.std.proofs.lemmas.List.{map-append}
use Rattle.dae_base.specs.declared.Side.{Side}
use Rattle.dae_base.specs.declared.Side.TheVariants.{A, E}
use Rattle.dae_encode.specs.declared.QueueUse.{QueueUse}
use Rattle.dae_queues.specs.declared.StoreAt.{StoreAt}
use Rattle.dae_core.specs.Queues.{Queues, commit, possible}
use Rattle.dae_queues.specs.Lists.{with_value, next_store, without_store}
use Rattle.dae_machine.specs.Memory.{loads_of, with_loads_of}
use Rattle.dae_base.specs.declared.Depths.{Depths}
use Rattle.dae_core.proofs.Laws.{UseOfA, UseOfE, a_nothing, a_load_ld, a_load_al, a_take_al, a_address, a_push_ab, a_push_cq, a_take_eb, e_nothing, e_take_ld}
use Rattle.dae_machine.specs.Memory.{QueuesCount}
use Rattle.dae_queues.proofs.LawsOfLists.{counts_more, slots_more, slots_up, slots_rest, slots_given, sa_rest}

-- ---- each change keeps the counts

pub counted_a : {u : QueueUse} (d : Depths) (x : ℕ) (q : Queues) → UseOfA u → possible d u q ≡ true → QueuesCount q → QueuesCount (commit u x q)
counted_a d x q a_nothing h c = c
counted_a d x q (a_load_ld {kind}) h c = record { ld = slots_more q.stores.issued x kind q.ld c.ld; al = c.al; sa = c.sa }
counted_a d x q (a_load_al {kind}) h c = record { ld = c.ld; al = slots_more q.stores.issued x kind q.al c.al; sa = c.sa }
counted_a d x q a_take_al h c = record { ld = c.ld; al = slots_rest q.stores.issued q.al h c.al; sa = c.sa }
counted_a d x q (a_address {width}) h c = record {
  ld = slots_up q.stores.issued q.ld c.ld;
  al = slots_up q.stores.issued q.al c.al;
  sa = rw (map-append (λ (a : StoreAt). a.number) q.stores.sa (record { number = q.stores.issued; addr = x; width = width } ∷ [])) (counts_more q.stores.drained (map (λ (a : StoreAt). a.number) q.stores.sa) q.stores.issued c.sa);
}
counted_a d x q a_push_ab h c = record { ld = c.ld; al = c.al; sa = c.sa }
counted_a d x q a_push_cq h c = record { ld = c.ld; al = c.al; sa = c.sa }
counted_a d x q a_take_eb h c = record { ld = c.ld; al = c.al; sa = c.sa }

pub counted_e : {u : QueueUse} (d : Depths) (x : ℕ) (q : Queues) → UseOfE u → possible d u q ≡ true → QueuesCount q → QueuesCount (commit u x q)
counted_e d x q e_nothing h c = c
counted_e d x q e_take_ld h c = record { ld = slots_rest q.stores.issued q.ld h c.ld; al = c.al; sa = c.sa }
counted_e d x q _ h c = record { ld = c.ld; al = c.al; sa = c.sa }

pub counted_fill : (side : Side) (n w : ℕ) (q : Queues) → QueuesCount q → QueuesCount (with_loads_of side (with_value n w (loads_of side q).slots) q)
counted_fill A n w q c = record { ld = c.ld; al = slots_given q.stores.issued n w q.al c.al; sa = c.sa }
counted_fill E n w q c = record { ld = slots_given q.stores.issued n w q.ld c.ld; al = c.al; sa = c.sa }

pub counted_drain : (q : Queues) (s : StoreAt × ℕ) → next_store q.stores.sa q.stores.sd ≡ Some s → QueuesCount q → QueuesCount (record q { stores = without_store q.stores })
counted_drain q s n c = record { ld = c.ld; al = c.al; sa = sa_rest q.stores.drained q.stores.issued q.stores.sa q.stores.sd s n c.sa }
