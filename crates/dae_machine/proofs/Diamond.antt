-- Two different picks that are enabled can follow each other in both orders, and both orders give one state.
use Rattle.std.proofs.Common.{◌≡◌, ◌≢◌, ℕ, ◌<◌, ◌≤◌, ◌⊎◌, inl, inr, refl, ap, ap₂, sym, ◌∙◌, subst}
use Rattle.std.specs.Prelude.{Option, Some, option_map}
use Rattle.std.proofs.lemmas.Bool.Decides.{eqb_tells}
use Rattle.dae_base.proofs.Laws.{map_some_is}
use Rattle.dae_base.specs.declared.Side.{Side}
use Rattle.dae_base.specs.declared.Side.TheVariants.{A, E}
use Rattle.dae_base.specs.declared.Depths.{Depths}
use Rattle.dae_queues.specs.declared.Slot.{Slot}
use Rattle.dae_machine.specs.declared.Pick.{Pick}
use Rattle.dae_machine.specs.declared.Pick.TheVariants.{A as MoveA, E as MoveE, Fill, Drain}
use Rattle.dae_base.specs.Words.{loaded}
use Rattle.dae_core.specs.Queues.{Queues, commit}
use Rattle.dae_queues.specs.Lists.{is_waiting}
use Rattle.dae_machine.specs.Memory.{loads_of, fill, drain}
use Rattle.dae_machine.specs.Memory.{QueuesCount}
use Rattle.dae_encode.specs.declared.Request.{Request}
use Rattle.dae_encode.specs.Processor.{Processor, After}
use Rattle.dae_machine.specs.Machine.{Setup, State, move, moved_a, moved_e, filled, drained, step, IsCounted}
use Rattle.dae_core.proofs.Laws.{of_a, of_e, commits_ae, e_kept_by_a, a_kept_by_e, e_peek_by_a, a_peek_by_e}
use Rattle.dae_machine.proofs.Grants.{Moved, MovedOf, move_was, granted_again}
use Rattle.dae_machine.proofs.FillLaws.{Filled, after_fill, fill_was, fill_after_a, a_after_fill, a_peek_after_fill, fill_after_e, e_after_fill, e_peek_after_fill, fill_after_fill, fills_commute}
use Rattle.dae_machine.proofs.DrainLaws.{Drained, after_drain, drain_was, drain_after_a, a_after_drain, a_peek_after_drain, drain_after_e, e_after_drain, e_peek_after_drain, fill_after_drain, drain_after_fill}
use Rattle.dae_queues.proofs.LawsOfLists.{drained_memory, counts_find, all_find, counts_next}
use Rattle.dae_machine.proofs.CountLaws.{counted_a, counted_e, counted_fill, counted_drain}

pub map_some : {X Y : Type 0} (f : X → Y) (o : Option X) (x : X) → o ≡ Some x → option_map f o ≡ Some (f x)
map_some f o x e = ap (option_map f) e

-- one state to which both lead, the other pick after each
abbrev pub Meets : Setup → State → Pick → State → Pick → Type 0
Meets setup s p t q = (u : State) × (step setup s q ≡ Some u) × (step setup t p ≡ Some u)

abbrev pub MovedBy : Setup → State → Side → Processor → Type 0
MovedBy setup s side p = MovedOf setup side p s.queues

abbrev pub left_by : {d : Depths} {side : Side} {p : Processor} {q : Queues} {asked : Request} → Moved d side p q asked → After × Queues
left_by {q = q} m = (m.result, commit m.use' m.word q)

-- a slot that is filled is older than the next one, and its stamp is no newer than the next address
pub filled_number : (side : Side) (n : ℕ) (q : Queues) → QueuesCount q → (f : Filled side n q) → n < (loads_of side q).reserved
filled_number A n q c f = counts_find q.al.taken n q.al.reserved q.al.slots f.slot c.al.numbers f.found
filled_number E n q c f = counts_find q.ld.taken n q.ld.reserved q.ld.slots f.slot c.ld.numbers f.found

pub filled_stamp : (side : Side) (n : ℕ) (q : Queues) → QueuesCount q → (f : Filled side n q) → f.slot.stamp ≤ q.stores.issued
filled_stamp A n q c f = all_find (λ (slot : Slot). slot.stamp ≤ q.stores.issued) (is_waiting n) q.al.slots f.slot c.al.stamps f.found
filled_stamp E n q c f = all_find (λ (slot : Slot). slot.stamp ≤ q.stores.issued) (is_waiting n) q.ld.slots f.slot c.ld.stamps f.found

module _ (setup : Setup) (s : State) (c : IsCounted s) where
  pub meet_ae : (x : MovedBy setup s A s.a) (y : MovedBy setup s E s.e) → Meets setup (moved_a s (left_by x)) MoveA (moved_e s (left_by y)) MoveE
  meet_ae x y =
      let u = of_a x.use' x.owns in
      let v = of_e y.use' y.owns in
      let d = setup.depths in
      let q = s.queues in
      let q1 = commit x.use' x.word q in
      let q2 = commit y.use' y.word q in
      let e_next = granted_again d E s.e q q1 _ y (e_kept_by_a d x.word q u v x.can y.can) (e_peek_by_a d x.word q u v y.can) in
      let a_next = granted_again d A s.a q q2 _ x (a_kept_by_e d y.word q u v x.can y.can) (a_peek_by_e d y.word q u v x.can) in (
        moved_e (moved_a s (left_by x)) (y.result, commit y.use' y.word q1),
        map_some (moved_e (moved_a s (left_by x))) _ _ e_next,
        map_some (moved_a (moved_e s (left_by y))) _ _ a_next ∙ ap (λ z. Some (moved_a (moved_e s (left_by y)) (x.result, z))) (sym (commits_ae d x.word y.word q u v x.can y.can)),
      )

  pub meet_af : (side : Side) (n : ℕ) (x : MovedBy setup s A s.a) (f : Filled side n s.queues) → Meets setup (moved_a s (left_by x)) MoveA (filled s (after_fill side n s.queues s.memory f.slot)) (Fill side n)
  meet_af side n x f =
      let u = of_a x.use' x.owns in
      let d = setup.depths in
      let q = s.queues in
      let v = loaded f.slot.kind f.slot.addr s.memory in
      let a_next = granted_again d A s.a q (after_fill side n q s.memory f.slot) _ x (a_after_fill d n v q side u x.can) (a_peek_after_fill d n v q side u x.can) in (
        _,
        map_some (filled (moved_a s (left_by x))) _ _ (fill_after_a d x.word n q s.memory side f.slot u x.can f.found f.free (filled_number side n q c f) (filled_stamp side n q c f)),
        map_some (moved_a (filled s (after_fill side n q s.memory f.slot))) _ _ a_next,
      )

  pub meet_ef : (side : Side) (n : ℕ) (x : MovedBy setup s E s.e) (f : Filled side n s.queues) → Meets setup (moved_e s (left_by x)) MoveE (filled s (after_fill side n s.queues s.memory f.slot)) (Fill side n)
  meet_ef side n x f =
      let u = of_e x.use' x.owns in
      let d = setup.depths in
      let q = s.queues in
      let v = loaded f.slot.kind f.slot.addr s.memory in
      let e_next = granted_again d E s.e q (after_fill side n q s.memory f.slot) _ x (e_after_fill d n v q side u x.can) (e_peek_after_fill d n v q side u x.can) in (
        _,
        map_some (filled (moved_e s (left_by x))) _ _ (fill_after_e d x.word n q s.memory side f.slot u x.can f.found f.free),
        map_some (moved_e (filled s (after_fill side n q s.memory f.slot))) _ _ e_next,
      )

  pub meet_ad : (x : MovedBy setup s A s.a) (f : Drained s.queues) → Meets setup (moved_a s (left_by x)) MoveA (drained s (after_drain s.queues, drained_memory f.store s.memory)) Drain
  meet_ad x f =
      let u = of_a x.use' x.owns in
      let d = setup.depths in
      let q = s.queues in
      let s2 = drained s (after_drain q, drained_memory f.store s.memory) in
      let lt = counts_next q.stores.drained q.stores.issued q.stores.sa q.stores.sd f.store c.sa f.is_next in
      let a_next = granted_again d A s.a q (after_drain q) _ x (a_after_drain d q u x.can) (a_peek_after_drain q u) in (
        _,
        map_some (drained (moved_a s (left_by x))) _ _ (drain_after_a d x.word q s.memory f.store u f.is_next f.free_ld f.free_al lt),
        map_some (moved_a s2) _ _ a_next,
      )

  pub meet_ed : (x : MovedBy setup s E s.e) (f : Drained s.queues) → Meets setup (moved_e s (left_by x)) MoveE (drained s (after_drain s.queues, drained_memory f.store s.memory)) Drain
  meet_ed x f =
      let u = of_e x.use' x.owns in
      let d = setup.depths in
      let q = s.queues in
      let s2 = drained s (after_drain q, drained_memory f.store s.memory) in
      let e_next = granted_again d E s.e q (after_drain q) _ x (e_after_drain d q u x.can) (e_peek_after_drain q u) in (
        _,
        map_some (drained (moved_e s (left_by x))) _ _ (drain_after_e d x.word q s.memory f.store u f.is_next f.free_ld f.free_al),
        map_some (moved_e s2) _ _ e_next,
      )

  pub meet_ff : (side side' : Side) (n k : ℕ) → (side ≡ side' → n ≢ k) → (f : Filled side n s.queues) (g : Filled side' k s.queues) → Meets setup (filled s (after_fill side n s.queues s.memory f.slot)) (Fill side n) (filled s (after_fill side' k s.queues s.memory g.slot)) (Fill side' k)
  meet_ff side side' n k ne f g =
      let q = s.queues in
      let m = s.memory in (
        _,
        map_some (filled (filled s (after_fill side n q m f.slot))) _ _ (fill_after_fill side side' n k q m f g ne),
        map_some (filled (filled s (after_fill side' k q m g.slot))) _ _ (fill_after_fill side' side k n q m g f (λ e h. ne (sym e) (sym h)))
            ∙ ap (λ z. Some (filled (filled s (after_fill side' k q m g.slot)) z)) (sym (fills_commute side side' n k q m f.slot g.slot ne)),
      )

  pub meet_fd : (side : Side) (n : ℕ) (f : Filled side n s.queues) (g : Drained s.queues) → Meets setup (filled s (after_fill side n s.queues s.memory f.slot)) (Fill side n) (drained s (after_drain s.queues, drained_memory g.store s.memory)) Drain
  meet_fd side n f g =
      let q = s.queues in
      let m = s.memory in (
        _,
        map_some (drained (filled s (after_fill side n q m f.slot))) _ _ (drain_after_fill side n (loaded f.slot.kind f.slot.addr m) q m g),
        map_some (filled (drained s (after_drain q, drained_memory g.store m))) _ _ (fill_after_drain side n q m f g),
      )

-- what an enabled pick did
pub data Did (setup : Setup) (s : State) : Pick → State → Type 0 where
  by_a : (m : MovedBy setup s A s.a) → Did setup s MoveA (moved_a s (left_by m))
  by_e : (m : MovedBy setup s E s.e) → Did setup s MoveE (moved_e s (left_by m))
  by_fill : {side : Side} {n : ℕ} → (f : Filled side n s.queues) → Did setup s (Fill side n) (filled s (after_fill side n s.queues s.memory f.slot))
  by_drain : (f : Drained s.queues) → Did setup s Drain (drained s (after_drain s.queues, drained_memory f.store s.memory))

pub did : (setup : Setup) (s t : State) (p : Pick) → step setup s p ≡ Some t → Did setup s p t
did setup s t MoveA h =
    let x = map_some_is (moved_a s) (move setup A s.a s.queues) t h in
    let m = move_was setup A s.a s.queues x.0 x.1 in
    subst (λ (v : State). Did setup s MoveA v) (ap (moved_a s) m.1 ∙ x.2) (by_a m.0)
did setup s t MoveE h =
    let x = map_some_is (moved_e s) (move setup E s.e s.queues) t h in
    let m = move_was setup E s.e s.queues x.0 x.1 in
    subst (λ (v : State). Did setup s MoveE v) (ap (moved_e s) m.1 ∙ x.2) (by_e m.0)
did setup s t (Fill side n) h =
    let x = map_some_is (filled s) (fill side n s.queues s.memory) t h in
    let f = fill_was side n s.queues x.0 s.memory x.1 in
    subst (λ (v : State). Did setup s (Fill side n) v) (ap (filled s) f.1 ∙ x.2) (by_fill f.0)
did setup s t Drain h =
    let x = map_some_is (drained s) (drain s.queues s.memory) t h in
    let f = drain_was s.queues s.memory x.0 x.1 in
    subst (λ (v : State). Did setup s Drain v) (ap (drained s) f.1 ∙ x.2) (by_drain f.0)

pub meet : {setup : Setup} {s t u : State} {p q : Pick} → IsCounted s → p ≢ q → Did setup s p t → Did setup s q u → Meets setup t p u q
meet {setup} {s} c ne (by_a x) (by_a y) = absurd (ne refl)
meet {setup} {s} c ne (by_a x) (by_e y) = meet_ae setup s c x y
meet {setup} {s} c ne (by_a x) (by_fill {side} {n} f) = meet_af setup s c side n x f
meet {setup} {s} c ne (by_a x) (by_drain f) = meet_ad setup s c x f
meet {setup} {s} c ne (by_e y) (by_a x) = let m = meet_ae setup s c x y in (m.0, m.2, m.1)
meet {setup} {s} c ne (by_e x) (by_e y) = absurd (ne refl)
meet {setup} {s} c ne (by_e x) (by_fill {side} {n} f) = meet_ef setup s c side n x f
meet {setup} {s} c ne (by_e x) (by_drain f) = meet_ed setup s c x f
meet {setup} {s} c ne (by_fill {side} {n} f) (by_a x) = let m = meet_af setup s c side n x f in (m.0, m.2, m.1)
meet {setup} {s} c ne (by_fill {side} {n} f) (by_e x) = let m = meet_ef setup s c side n x f in (m.0, m.2, m.1)
meet {setup} {s} c ne (by_fill {side = side} {n = n} f) (by_fill {side = side'} {n = k} g) = meet_ff setup s c side side' n k (λ e h. ne (ap₂ Fill e h)) f g
meet {setup} {s} c ne (by_fill {side} {n} f) (by_drain g) = meet_fd setup s c side n f g
meet {setup} {s} c ne (by_drain f) (by_a x) = let m = meet_ad setup s c x f in (m.0, m.2, m.1)
meet {setup} {s} c ne (by_drain f) (by_e x) = let m = meet_ed setup s c x f in (m.0, m.2, m.1)
meet {setup} {s} c ne (by_drain g) (by_fill {side} {n} f) = let m = meet_fd setup s c side n f g in (m.0, m.2, m.1)
meet {setup} {s} c ne (by_drain f) (by_drain g) = absurd (ne refl)

pub counted_did : {setup : Setup} {s t : State} {p : Pick} → IsCounted s → Did setup s p t → IsCounted t
counted_did {setup} {s} c (by_a m) = counted_a setup.depths m.word s.queues (of_a m.use' m.owns) m.can c
counted_did {setup} {s} c (by_e m) = counted_e setup.depths m.word s.queues (of_e m.use' m.owns) m.can c
counted_did {setup} {s} c (by_fill {side} {n} f) = counted_fill side n (loaded f.slot.kind f.slot.addr s.memory) s.queues c
counted_did {setup} {s} c (by_drain f) = counted_drain s.queues f.store f.is_next c

pub diamond : (setup : Setup) (s t u : State) (p q : Pick) → IsCounted s → p ≢ q → step setup s p ≡ Some t → step setup s q ≡ Some u → Meets setup t p u q
diamond setup s t u p q c ne h k = meet c ne (did setup s t p h) (did setup s u q k)

pub counted_step : (setup : Setup) (s t : State) (p : Pick) → IsCounted s → step setup s p ≡ Some t → IsCounted t
counted_step setup s t p c h = counted_did c (did setup s t p h)

-- two picks are the same, or not
same_side : (s t : Side) → (s ≡ t) ⊎ (s ≢ t)
same_side A A = inl refl
same_side E E = inl refl
same_side A E = inr (λ e. cc)
same_side E A = inr (λ e. cc)

pub same_pick : (p q : Pick) → (p ≡ q) ⊎ (p ≢ q)
same_pick MoveA MoveA = inl refl
same_pick MoveE MoveE = inl refl
same_pick Drain Drain = inl refl
same_pick (Fill s n) (Fill t k) = elim (same_side s t) [
  | inl e ↦ elim (eqb_tells n k) [ inl h ↦ inl (ap₂ Fill e h.1) | inr h ↦ inr (λ f. h.1 cc) ]
  | inr ne ↦ inr (λ f. ne cc)
]
same_pick p q = inr (λ e. cc)
