-- The pick of a node is enabled in each of its states, and leads to a state of one of the nodes that it gives.
use Rattle.std.proofs.Common.{◌≡◌, ℕ, zero, suc, ◌%◌, ◌/◌, ◌+◌, ◌<◌, ◌^◌, ◌⊎◌, inl, inr, Bool, true, false, List, [], ◌∷◌, map, refl, ap, ◌∙◌, subst}
use Rattle.std.specs.Prelude.{Option, Some, None, if◌then◌else◌, ◌==◌, slice_get}
use Rattle.std.specs.List.{AllByRecursion}
use Rattle.dae_base.proofs.Laws.{map_some_is, and_then_some, if_some_is, stored_bytes}
use Rattle.dae_base.specs.declared.Side.{Side}
use Rattle.dae_base.specs.declared.Side.TheVariants.{A, E}
use Rattle.dae_base.specs.Words.{loaded, stored}
use Rattle.dae_encode.specs.declared.Inst.{Inst}
use Rattle.dae_encode.specs.declared.QueueUse.{QueueUse}
use Rattle.dae_encode.specs.declared.Request.TheVariants.{Asks}
use Rattle.dae_encode.specs.Instructions.{form}
use Rattle.dae_encode.specs.Spelling.{decode}
use Rattle.dae_encode.specs.Uses.{queue_use}
use Rattle.dae_encode.specs.Processor.{Processor, After as Came, request, put_word, early_fault, finish}
use Rattle.dae_encode.proofs.Laws.{asks_own, encoded_decode}
use Rattle.dae_queues.specs.Lists.{with_value, rest}
use Rattle.dae_core.specs.Queues.{Queues, with_loads_of, ready, peek, commit}
use Rattle.dae_machine.specs.declared.Pick.{Pick}
use Rattle.dae_machine.specs.declared.Pick.TheVariants.{A as MoveA, E as MoveE, Fill, Drain}
use Rattle.dae_machine.specs.Machine.{Setup, State, code, step, move, moved_a as came_a, moved_e as came_e, filled, drained, IsCounted}
use Rattle.dae_machine.proofs.LawsOfRuns.{counted_step, ready_where}
use Rattle.dae_certificate.specs.declared.SideNode.{SideNode}
use Rattle.dae_guard.specs.Sets.{Node}
use Rattle.dae_guard.specs.Sets.{Waiting}
use Rattle.dae_guard.specs.Waiting.{allows, fill_first, fill_al, fill_ld, drain_next}
use Rattle.dae_guard.specs.Moves.{Terms, private, SideAfter, on, did, with_access, with_inst, with_code_word, at_counter, moved, moved_a, moved_e, by_memory, or_else, next_nodes}
use Rattle.dae_guard.specs.StandsFor.{StandsAt, IsSide, Wait, StandsFor, AnyStands, CodesFit, Advances}
use Rattle.dae_guard.proofs.Does.{AnyAfter, does_any}
use Rattle.dae_guard.proofs.Waits.{allowed}
use Rattle.dae_guard.proofs.Fills.{fillable, drainable}
use Rattle.dae_guard.proofs.Memories.{loaded_has}

-- ---- the memory

pub drains : (t : Terms) (n : Node) (s : State) (ns : List Node) → by_memory n (drain_next n.waiting) ≡ Some ns → StandsFor t n s → Advances t s ns
drains t n s ns h x =
    let m = map_some_is (λ (q : Waiting). record n { waiting = q } ∷ []) (drain_next n.waiting) ns h in
    let d = drainable n.waiting m.0 s.queues s.queues.stores.issued x.waiting x.counted.sa m.1 in
    let u = drained s (record s.queues { stores = record { drained = s.queues.stores.drained + 1; issued = s.queues.stores.issued; sa = rest s.queues.stores.sa; sd = rest s.queues.stores.sd } }, stored d.store.width d.store.addr d.word s.memory) in
    let e : step t.setup s Drain ≡ Some u = rw d.next refl in
    record {
      pick = Drain;
      state = u;
      steps = e;
      stands = subst (λ (ns : List Node). AnyStands t ns u) m.2 (inl (record {
        a = x.a;
        e = x.e;
        waiting = d.after;
        memory = stored_bytes d.store.width d.store.addr d.word s.memory x.memory;
        counted = counted_step t.setup s u Drain x.counted e;
      }));
    }

pub fills_al : (t : Terms) (n : Node) (s : State) (ns : List Node) → by_memory n (fill_al n.waiting) ≡ Some ns → StandsFor t n s → Advances t s ns
fills_al t n s ns h x =
    let m = map_some_is (λ (q : Waiting). record n { waiting = q } ∷ []) (fill_al n.waiting) ns h in
    let k = map_some_is _ (fill_first n.waiting.sa n.waiting.al) m.0 m.1 in
    let f = fillable s.queues.stores.drained s.queues.stores.issued n.waiting.sa s.queues.stores.sa x.waiting.sa x.counted.sa n.waiting.al k.0 s.queues.al.slots s.queues.al.taken s.queues.al.reserved x.counted.al.numbers x.waiting.al k.1 in
    let w = loaded f.slot.kind f.slot.addr s.memory in
    let u = filled s (with_loads_of A (with_value f.number w s.queues.al.slots) s.queues) in
    let e : step t.setup s (Fill A f.number) ≡ Some u = rw (f.waits, f.free) refl in
    record {
      pick = Fill A f.number;
      state = u;
      steps = e;
      stands = subst (λ (ns : List Node). AnyStands t ns u) (ap (λ (q : Waiting). record n { waiting = q } ∷ []) k.2 ∙ m.2) (inl (record {
        a = x.a;
        e = x.e;
        waiting = record { ld = x.waiting.ld; al = f.after w (loaded_has f.slot.kind f.slot.addr s.memory x.memory); sa = x.waiting.sa; sd = x.waiting.sd; ab = x.waiting.ab; eb = x.waiting.eb; cq = x.waiting.cq };
        memory = x.memory;
        counted = counted_step t.setup s u (Fill A f.number) x.counted e;
      }));
    }

pub fills_ld : (t : Terms) (n : Node) (s : State) (ns : List Node) → by_memory n (fill_ld n.waiting) ≡ Some ns → StandsFor t n s → Advances t s ns
fills_ld t n s ns h x =
    let m = map_some_is (λ (q : Waiting). record n { waiting = q } ∷ []) (fill_ld n.waiting) ns h in
    let k = map_some_is _ (fill_first n.waiting.sa n.waiting.ld) m.0 m.1 in
    let f = fillable s.queues.stores.drained s.queues.stores.issued n.waiting.sa s.queues.stores.sa x.waiting.sa x.counted.sa n.waiting.ld k.0 s.queues.ld.slots s.queues.ld.taken s.queues.ld.reserved x.counted.ld.numbers x.waiting.ld k.1 in
    let w = loaded f.slot.kind f.slot.addr s.memory in
    let u = filled s (with_loads_of E (with_value f.number w s.queues.ld.slots) s.queues) in
    let e : step t.setup s (Fill E f.number) ≡ Some u = rw (f.waits, f.free) refl in
    record {
      pick = Fill E f.number;
      state = u;
      steps = e;
      stands = subst (λ (ns : List Node). AnyStands t ns u) (ap (λ (q : Waiting). record n { waiting = q } ∷ []) k.2 ∙ m.2) (inl (record {
        a = x.a;
        e = x.e;
        waiting = record { ld = f.after w (loaded_has f.slot.kind f.slot.addr s.memory x.memory); al = x.waiting.al; sa = x.waiting.sa; sd = x.waiting.sd; ab = x.waiting.ab; eb = x.waiting.eb; cq = x.waiting.cq };
        memory = x.memory;
        counted = counted_step t.setup s u (Fill E f.number) x.counted e;
      }));
    }

-- ---- the processors

-- the move of a side that is sure
pub record Moves (t : Terms) (side : Side) (p : Processor) (qs : Queues) (ms : List SideAfter) : Type 0 where
  pub result : Came × Queues
  pub is : move t.setup side p qs ≡ Some result
  pub stands : AnyAfter (private t side) ms result.0.0 result.1

fetched_small : (xs : List ℕ) (b : Bool) (k w : ℕ) → AllByRecursion (λ (w : ℕ). w < 2 ^ 32) xs → (if b then slice_get xs k else None) ≡ Some w → w < 2 ^ 32
fetched_small xs false k w h e = cc
fetched_small [] true k w h e = cc
fetched_small (x ∷ xs) true zero w h e = let same : x ≡ w = cc in rw (← same) h.0
fetched_small (x ∷ xs) true (suc k) w h e = fetched_small xs true k w h.1 e

code_fits : (t : Terms) (side : Side) → CodesFit t → AllByRecursion (λ (w : ℕ). w < 2 ^ 32) (code t.setup side)
code_fits t A h = h.a
code_fits t E h = h.e

asks_is : (copies : Bool) (side : Side) (xs : List ℕ) (memory : ℕ) (p : Processor) (c w : ℕ) (i : Inst) (u : QueueUse) → p.halt ≡ None → p.counter ≡ c → (if c % 4 == 0 then slice_get xs (c / 4) else None) ≡ Some w → decode w ≡ Some i
    → queue_use copies side (form i) ≡ Some u → early_fault side memory p u (form i) ≡ None → request copies side xs memory p ≡ Asks u (put_word p u i (form i)) i
unfolding request early_fault put_word
asks_is copies side xs memory p c w i u h k f d l e = rw (h, k, f, d, l, e) refl

granted_is : (setup : Setup) (side : Side) (p : Processor) (qs : Queues) (u : QueueUse) (w : ℕ) (i : Inst) (came : Came) → request setup.copies side (code setup side) setup.memory p ≡ Asks u w i
    → ready setup.depths u qs ≡ true → finish side p u i (form i) (peek u qs) ≡ Some came → move setup side p qs ≡ Some (came, commit u w qs)
granted_is setup side p qs u w i came a r f = rw (a, r, f) refl

pub moves : (t : Terms) (side : Side) (n : SideNode) (q : Waiting) (p : Processor) (s : State) (ms : List SideAfter) → CodesFit t → IsSide (private t side) n p → Wait q s.queues → IsCounted s → moved t side n q ≡ Some ms → Moves t side p s.queues ms
moves t side n q p s ms fit h w c e =
    let a = and_then_some (at_counter t side n.registers q) n.counter ms e in
    let b = and_then_some (with_code_word t side n.registers a.0 q) (if a.0 % 4 == 0 then slice_get (code t.setup side) (a.0 / 4) else None) ms a.2 in
    let d = and_then_some (with_inst t side n.registers a.0 q) (decode b.0) ms b.2 in
    let f = and_then_some (with_access t side n.registers a.0 q d.0) (queue_use t.setup.copies side (form d.0)) ms d.2 in
    let g = if_some_is (allows t.setup.depths f.0 q) (did t side n.registers a.0 q f.0 d.0 (form d.0)) ms f.2 in
    let at = subst (λ (o : Option ℕ). StandsAt o p) a.1 h.at in
    let stands : IsSide (private t side) (on a.0 n.registers) p = record { at = at; registers = h.registers; size = h.size; bytes = h.bytes } in
    let small = fetched_small (code t.setup side) (a.0 % 4 == 0) (a.0 / 4) b.0 (code_fits t side fit) b.1 in
    let inside = (encoded_decode b.0 d.0 small d.1).0 in
    let k = does_any t side n.registers a.0 q p s.queues f.0 d.0 ms (form d.0) stands w c.sa g.0 inside f.1 refl g.1 in
    let asks = asks_is t.setup.copies side (code t.setup side) t.setup.memory p a.0 b.0 d.0 f.0 at.0 at.1 b.1 d.1 f.1 k.quiet in
    let own = asks_own t.setup.copies side (code t.setup side) t.setup.memory p f.0 (put_word p f.0 d.0 (form d.0)) d.0 asks in
    let can = ready_where t.setup.depths side f.0 s.queues own (allowed t.setup.depths f.0 q s.queues w g.0) in
    record {
      result = (k.came, commit f.0 (put_word p f.0 d.0 (form d.0)) s.queues);
      is = granted_is t.setup side p s.queues f.0 (put_word p f.0 d.0 (form d.0)) d.0 k.came asks can k.does;
      stands = k.stands;
    }

a_nodes : (t : Terms) (n : Node) (s u : State) (ms : List SideAfter) (p : Processor) → StandsFor t n s → u.a ≡ p → u.e ≡ s.e → u.memory ≡ s.memory → IsCounted u → AnyAfter t.private_a ms u.a u.queues → AnyStands t (map (λ (r : SideAfter). record { a = r.0; e = n.e; waiting = r.1 }) ms) u
a_nodes t n s u [] p x ep ee em c h = absurd h
a_nodes t n s u (m ∷ ms) p x ep ee em c (inl h) = inl (record { a = h.0; e = rw ee x.e; waiting = h.1; memory = rw em x.memory; counted = c })
a_nodes t n s u (m ∷ ms) p x ep ee em c (inr h) = inr (a_nodes t n s u ms p x ep ee em c h)

e_nodes : (t : Terms) (n : Node) (s u : State) (ms : List SideAfter) → StandsFor t n s → u.a ≡ s.a → u.memory ≡ s.memory → IsCounted u → AnyAfter t.private_e ms u.e u.queues → AnyStands t (map (λ (r : SideAfter). record { a = n.a; e = r.0; waiting = r.1 }) ms) u
e_nodes t n s u [] x ea em c h = absurd h
e_nodes t n s u (m ∷ ms) x ea em c (inl h) = inl (record { a = rw ea x.a; e = h.0; waiting = h.1; memory = rw em x.memory; counted = c })
e_nodes t n s u (m ∷ ms) x ea em c (inr h) = inr (e_nodes t n s u ms x ea em c h)

pub steps_a : (t : Terms) (n : Node) (s : State) (ns : List Node) → CodesFit t → moved_a t n ≡ Some ns → StandsFor t n s → Advances t s ns
steps_a t n s ns fit h x =
    let m = map_some_is (map (λ (r : SideAfter). record { a = r.0; e = n.e; waiting = r.1 })) (moved t A n.a n.waiting) ns h in
    let g = moves t A n.a n.waiting s.a s m.0 fit x.a x.waiting x.counted m.1 in
    let u = came_a s g.result in
    let e : step t.setup s MoveA ≡ Some u = rw g.is refl in
    record {
      pick = MoveA;
      state = u;
      steps = e;
      stands = subst (λ (ns : List Node). AnyStands t ns u) m.2 (a_nodes t n s u m.0 u.a x refl refl refl (counted_step t.setup s u MoveA x.counted e) g.stands);
    }

pub steps_e : (t : Terms) (n : Node) (s : State) (ns : List Node) → CodesFit t → moved_e t n ≡ Some ns → StandsFor t n s → Advances t s ns
steps_e t n s ns fit h x =
    let m = map_some_is (map (λ (r : SideAfter). record { a = n.a; e = r.0; waiting = r.1 })) (moved t E n.e n.waiting) ns h in
    let g = moves t E n.e n.waiting s.e s m.0 fit x.e x.waiting x.counted m.1 in
    let u = came_e s g.result in
    let e : step t.setup s MoveE ≡ Some u = rw g.is refl in
    record {
      pick = MoveE;
      state = u;
      steps = e;
      stands = subst (λ (ns : List Node). AnyStands t ns u) m.2 (e_nodes t n s u m.0 x refl refl (counted_step t.setup s u MoveE x.counted e) g.stands);
    }

-- ---- the first sure pick

first_of_two : {X : Type 0} (o p : Option X) (x : X) → or_else o p ≡ Some x → (o ≡ Some x) ⊎ (p ≡ Some x)
first_of_two None p x h = inr h
first_of_two (Some y) p x h = inl h

pub advances : (t : Terms) (n : Node) (s : State) (ns : List Node) → CodesFit t → next_nodes t n ≡ Some ns → StandsFor t n s → Advances t s ns
unfolding next_nodes
advances t n s ns fit h x =
    elim (first_of_two (by_memory n (drain_next n.waiting)) _ ns h) [
      | inl e ↦ drains t n s ns e x
      | inr e ↦ elim (first_of_two (by_memory n (fill_al n.waiting)) _ ns e) [
        | inl e ↦ fills_al t n s ns e x
        | inr e ↦ elim (first_of_two (by_memory n (fill_ld n.waiting)) _ ns e) [
          | inl e ↦ fills_ld t n s ns e x
          | inr e ↦ elim (first_of_two (moved_e t n) (moved_a t n) ns e) [
            | inl e ↦ steps_e t n s ns fit e x
            | inr e ↦ steps_a t n s ns fit e x
          ]
        ]
      ]
    ]
