-- Two accesses of the two sides do not disturb each other.
use Rattle.std.proofs.Common.{◌≡◌, ℕ, ◌+◌, true, [], ◌∷◌, refl, ap, sym}
use Rattle.std.specs.Prelude.{unwrap_or}
use Rattle.dae_base.specs.declared.Side.TheVariants.{A, E}
use Rattle.dae_base.specs.declared.Queue.TheVariants.{Ld, Al, Sd, Ab, Eb, Cq}
use Rattle.dae_base.specs.declared.Width.{Width}
use Rattle.dae_base.specs.declared.LoadKind.{LoadKind}
use Rattle.dae_base.specs.declared.Depths.{Depths}
use Rattle.dae_encode.specs.declared.QueueUse.{QueueUse}
use Rattle.dae_encode.specs.declared.QueueUse.TheVariants.{Nothing, Take, Push, Load, StoreAddress}
use Rattle.dae_encode.specs.Uses.{belongs}
use Rattle.dae_core.specs.Queues.{Queues, possible, peek, commit}
use Rattle.dae_queues.proofs.LawsOfLists.{first_more, first_value_more, rest_more, rest_slots_more, room_more, some_first_more, some_value_more}

-- the accesses of A
pub data UseOfA : QueueUse → Type 0 where
  a_nothing : UseOfA Nothing
  a_load_ld : {kind : LoadKind} → UseOfA (Load Ld kind)
  a_load_al : {kind : LoadKind} → UseOfA (Load Al kind)
  a_take_al : UseOfA (Take Al)
  a_address : {width : Width} → UseOfA (StoreAddress width)
  a_push_ab : UseOfA (Push Ab)
  a_push_cq : UseOfA (Push Cq)
  a_take_eb : UseOfA (Take Eb)

pub data UseOfE : QueueUse → Type 0 where
  e_nothing : UseOfE Nothing
  e_take_ld : UseOfE (Take Ld)
  e_push_sd : UseOfE (Push Sd)
  e_take_ab : UseOfE (Take Ab)
  e_take_cq : UseOfE (Take Cq)
  e_push_eb : UseOfE (Push Eb)

pub of_a : (u : QueueUse) → belongs A u ≡ true → UseOfA u
of_a Nothing h = a_nothing
of_a (Load Ld kind) h = a_load_ld
of_a (Load Al kind) h = a_load_al
of_a (Take Al) h = a_take_al
of_a (StoreAddress width) h = a_address
of_a (Push Ab) h = a_push_ab
of_a (Push Cq) h = a_push_cq
of_a (Take Eb) h = a_take_eb
of_a u h = cc

pub of_e : (u : QueueUse) → belongs E u ≡ true → UseOfE u
of_e Nothing h = e_nothing
of_e (Take Ld) h = e_take_ld
of_e (Push Sd) h = e_push_sd
of_e (Take Ab) h = e_take_ab
of_e (Take Cq) h = e_take_cq
of_e (Push Eb) h = e_push_eb
of_e u h = cc

-- a fact of each access of a side
pub by_a : (P : QueueUse → Type 0) → P Nothing → ((k : LoadKind) → P (Load Ld k)) → ((k : LoadKind) → P (Load Al k)) → P (Take Al) → ((w : Width) → P (StoreAddress w)) → P (Push Ab) → P (Push Cq) → P (Take Eb) → {u : QueueUse} → UseOfA u → P u
by_a P n l m t s p c e a_nothing = n
by_a P n l m t s p c e (a_load_ld {kind}) = l kind
by_a P n l m t s p c e (a_load_al {kind}) = m kind
by_a P n l m t s p c e a_take_al = t
by_a P n l m t s p c e (a_address {width}) = s width
by_a P n l m t s p c e a_push_ab = p
by_a P n l m t s p c e a_push_cq = c
by_a P n l m t s p c e a_take_eb = e

pub by_e : (P : QueueUse → Type 0) → P Nothing → P (Take Ld) → P (Push Sd) → P (Take Ab) → P (Take Cq) → P (Push Eb) → {u : QueueUse} → UseOfE u → P u
by_e P n t s m c p e_nothing = n
by_e P n t s m c p e_take_ld = t
by_e P n t s m c p e_push_sd = s
by_e P n t s m c p e_take_ab = m
by_e P n t s m c p e_take_cq = c
by_e P n t s m c p e_push_eb = p

-- ---- A's accesses and E's

pub commits_ae : {u v : QueueUse} (d : Depths) (x y : ℕ) (q : Queues) → UseOfA u → UseOfE v → possible d u q ≡ true → possible d v q ≡ true → commit v y (commit u x q) ≡ commit u x (commit v y q)
commits_ae d x y q a_push_ab e_take_ab hu hv = ap (λ z. record q { ab = z }) (rest_more q.ab (x ∷ []) hv)
commits_ae d x y q a_push_cq e_take_cq hu hv = ap (λ z. record q { cq = z }) (rest_more q.cq (x ∷ []) hv)
commits_ae d x y q a_take_eb e_push_eb hu hv = ap (λ z. record q { eb = z }) (sym (rest_more q.eb (y ∷ []) hu))
commits_ae d x y q (a_load_ld {kind}) e_take_ld hu hv = ap (λ z. record q { ld = record { taken = q.ld.taken + 1; reserved = q.ld.reserved + 1; slots = z } }) (rest_slots_more q.ld.slots _ hv)
commits_ae d x y q _ e_nothing hu hv = refl
commits_ae d x y q _ e_take_ld hu hv = refl
commits_ae d x y q a e_push_sd hu hv = by_a (λ u. commit (Push Sd) y (commit u x q) ≡ commit u x (commit (Push Sd) y q)) refl (λ k. refl) (λ k. refl) refl (λ w. refl) refl refl refl a
commits_ae d x y q _ e_take_ab hu hv = refl
commits_ae d x y q _ e_take_cq hu hv = refl
commits_ae d x y q _ e_push_eb hu hv = refl

pub e_kept_by_a : {u v : QueueUse} (d : Depths) (x : ℕ) (q : Queues) → UseOfA u → UseOfE v → possible d u q ≡ true → possible d v q ≡ true → possible d v (commit u x q) ≡ true
e_kept_by_a d x q a_push_ab e_take_ab hu hv = some_first_more q.ab _ hv
e_kept_by_a d x q a_push_cq e_take_cq hu hv = some_first_more q.cq _ hv
e_kept_by_a d x q a_take_eb e_push_eb hu hv = room_more q.eb d.eb hv
e_kept_by_a d x q a_load_ld e_take_ld hu hv = some_value_more q.ld.slots _ hv
e_kept_by_a d x q _ e_nothing hu hv = hv
e_kept_by_a d x q _ e_take_ld hu hv = hv
e_kept_by_a d x q a e_push_sd hu hv = by_a (λ u. possible d (Push Sd) (commit u x q) ≡ true) hv (λ k. hv) (λ k. hv) hv (λ w. hv) hv hv hv a
e_kept_by_a d x q _ e_take_ab hu hv = hv
e_kept_by_a d x q _ e_take_cq hu hv = hv
e_kept_by_a d x q _ e_push_eb hu hv = hv

pub a_kept_by_e : {u v : QueueUse} (d : Depths) (y : ℕ) (q : Queues) → UseOfA u → UseOfE v → possible d u q ≡ true → possible d v q ≡ true → possible d u (commit v y q) ≡ true
a_kept_by_e d y q a_push_ab e_take_ab hu hv = room_more q.ab d.ab hu
a_kept_by_e d y q a_push_cq e_take_cq hu hv = room_more q.cq d.cq hu
a_kept_by_e d y q a_take_eb e_push_eb hu hv = some_first_more q.eb _ hu
a_kept_by_e d y q a_load_ld e_take_ld hu hv = room_more q.ld.slots d.ld hu
a_kept_by_e d y q a_nothing _ hu hv = hu
a_kept_by_e d y q a_load_ld _ hu hv = hu
a_kept_by_e d y q (a_load_al {kind}) e hu hv = by_e (λ v. possible d (Load Al kind) (commit v y q) ≡ true) hu hu hu hu hu hu e
a_kept_by_e d y q a_take_al e hu hv = by_e (λ v. possible d (Take Al) (commit v y q) ≡ true) hu hu hu hu hu hu e
a_kept_by_e d y q (a_address {width}) e hu hv = by_e (λ v. possible d (StoreAddress width) (commit v y q) ≡ true) hu hu hu hu hu hu e
a_kept_by_e d y q a_push_ab _ hu hv = hu
a_kept_by_e d y q a_push_cq _ hu hv = hu
a_kept_by_e d y q a_take_eb _ hu hv = hu

pub e_peek_by_a : {u v : QueueUse} (d : Depths) (x : ℕ) (q : Queues) → UseOfA u → UseOfE v → possible d v q ≡ true → peek v (commit u x q) ≡ peek v q
e_peek_by_a d x q a_push_ab e_take_ab hv = ap (λ o. unwrap_or o 0) (first_more q.ab _ hv)
e_peek_by_a d x q a_push_cq e_take_cq hv = ap (λ o. unwrap_or o 0) (first_more q.cq _ hv)
e_peek_by_a d x q a_load_ld e_take_ld hv = ap (λ o. unwrap_or o 0) (first_value_more q.ld.slots _ hv)
e_peek_by_a d x q _ e_nothing hv = refl
e_peek_by_a d x q _ e_take_ld hv = refl
e_peek_by_a d x q _ e_push_sd hv = refl
e_peek_by_a d x q _ e_take_ab hv = refl
e_peek_by_a d x q _ e_take_cq hv = refl
e_peek_by_a d x q _ e_push_eb hv = refl

pub a_peek_by_e : {u v : QueueUse} (d : Depths) (y : ℕ) (q : Queues) → UseOfA u → UseOfE v → possible d u q ≡ true → peek u (commit v y q) ≡ peek u q
a_peek_by_e d y q a_take_eb e_push_eb hu = ap (λ o. unwrap_or o 0) (first_more q.eb _ hu)
a_peek_by_e d y q a_nothing _ hu = refl
a_peek_by_e d y q a_load_ld _ hu = refl
a_peek_by_e d y q a_load_al _ hu = refl
a_peek_by_e d y q a_take_al e hu = by_e (λ v. peek (Take Al) (commit v y q) ≡ peek (Take Al) q) refl refl refl refl refl refl e
a_peek_by_e d y q a_address _ hu = refl
a_peek_by_e d y q a_push_ab _ hu = refl
a_peek_by_e d y q a_push_cq _ hu = refl
a_peek_by_e d y q a_take_eb _ hu = refl
