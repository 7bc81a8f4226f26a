-- A final node stands for final states, a covered one for states of a certificate's node.
use Rattle.std.proofs.Common.{◌≡◌, ℕ, zero, suc, ◌<◌, ◌⊎◌, inl, inr, Bool, true, false, ◌&&◌, ◌||◌, List, [], ◌∷◌, refl, sym, ◌∙◌, arith}
use Rattle.std.specs.Prelude.{Option, Some, None, is_some, is_none, nat_eq, if◌then◌else◌, slice_index}
use Rattle.std.specs.List.{list_any}
use Rattle.std.proofs.lemmas.Bool.Decides.{nat_tests}
use Rattle.dae_base.proofs.Laws.{and_false, and_true}
use Rattle.dae_base.specs.declared.Side.{Side}
use Rattle.dae_base.specs.declared.Side.TheVariants.{A, E}
use Rattle.dae_encode.specs.declared.Halt.{Halt}
use Rattle.dae_encode.specs.declared.Request.TheVariants.{Halted}
use Rattle.dae_encode.specs.Processor.{Processor, request}
use Rattle.dae_queues.specs.declared.Slot.{Slot}
use Rattle.dae_queues.specs.Lists.{is_waiting, waiting}
use Rattle.dae_machine.specs.declared.Pick.TheVariants.{A as MoveA, E as MoveE, Fill, Drain}
use Rattle.dae_machine.specs.Machine.{State, IsQuiet, IsFinal}
use Rattle.dae_ranges.specs.declared.Range.{Range}
use Rattle.dae_ranges.specs.Ranges.{Has, within}
use Rattle.dae_ranges.proofs.Laws.{within_has}
use Rattle.dae_certificate.specs.declared.SideNode.{SideNode}
use Rattle.dae_guard.specs.Sets.{Cell}
use Rattle.dae_guard.specs.Sets.{Waiting}
use Rattle.dae_guard.specs.Sets.{Node}
use Rattle.dae_certificate.specs.declared.CertificateNode.{CertificateNode}
use Rattle.dae_guard.specs.Nodes.{range_at, is_nil, all_filled, is_final, nothing_left, nothing_waits, same_counter, registers_within, side_within, covers, is_covered, known_node}
use Rattle.dae_guard.specs.Moves.{Terms}
use Rattle.dae_guard.specs.StandsFor.{Pairs, IsSlot, IsStore, StandsAt, Registers, IsSide, StandsFor}
use Rattle.dae_guard.proofs.Waits.{same_none}
use Rattle.dae_guard.proofs.Walking.{IsKnown}

-- ---- final

none_is : {X : Type 0} (o : Option X) → is_none o ≡ true → o ≡ None
none_is None h = refl
none_is (Some x) h = cc

halt_there : (o : Option ℕ) (p : Processor) → is_none o ≡ true → StandsAt o p → is_some p.halt ≡ true
halt_there o p h s = let e = none_is o h in rw e at s

nil_pairs : {X Y : Type 0} (R : X → Y → Type 0) (xs : List X) (ys : List Y) → is_nil xs ≡ true → Pairs R xs ys → ys ≡ []
nil_pairs R [] [] h p = refl
nil_pairs R [] (y ∷ ys) h p = absurd p
nil_pairs R (x ∷ xs) ys h p = cc

-- no slot waits where each is filled
none_waits : (d n : ℕ) (cs : List Cell) (ss : List Slot) → all_filled cs ≡ true → Pairs (IsSlot d) cs ss → waiting n ss ≡ None
none_waits d n [] [] h p = refl
none_waits d n [] (s ∷ ss) h p = absurd p
none_waits d n (c ∷ cs) [] h p = absurd p
none_waits d n (c ∷ cs) (s ∷ ss) h p =
    let both = and_true (if is_none c.value then false else true) (all_filled cs) h in
    let full = flip (is_none c.value) both.0 in
    let v : is_none s.value ≡ false = sym (same_none c.value s.value p.0.value) ∙ full in
    let no : is_waiting n s ≡ false = rw v (and_false (nat_eq s.number n)) in
    rw (no, none_waits d n cs ss both.1 p.1) refl
  where
    flip : (b : Bool) → (if b then false else true) ≡ true → b ≡ false
    flip true e = cc
    flip false e = refl

request_halted : (copies : Bool) (side : Side) (code : List ℕ) (memory : ℕ) (p : Processor) → is_some p.halt ≡ true → request copies side code memory p ≡ Halted
unfolding request
request_halted copies side code memory p h = by p.halt refl h
  where
    by : (o : Option Halt) → p.halt ≡ o → is_some o ≡ true → request copies side code memory p ≡ Halted
    by None e k = cc
    by (Some x) e k = rw e refl

pub final_is : (t : Terms) (n : Node) (s : State) → is_final n ≡ true → StandsFor t n s → IsFinal t.setup s
final_is t n s h x =
    let a = and_true _ _ h in
    let b = and_true _ _ a.1 in
    let c = and_true _ _ b.1 in
    let d = and_true _ _ c.1 in
    let e = and_true _ _ d.1 in
    let ha = halt_there n.a.counter s.a a.0 x.a.at in
    let he = halt_there n.e.counter s.e b.0 x.e.at in
    let sa = nil_pairs IsStore n.waiting.sa s.queues.stores.sa c.0 x.waiting.sa in
    let sd = nil_pairs Has n.waiting.sd s.queues.stores.sd d.0 x.waiting.sd in
    record { quiet = quiet ha he sa e.0 e.1; a = ha; e = he; sa = sa; sd = sd }
  where
    quiet : is_some s.a.halt ≡ true → is_some s.e.halt ≡ true → s.queues.stores.sa ≡ [] → all_filled n.waiting.ld ≡ true → all_filled n.waiting.al ≡ true → IsQuiet t.setup s
    quiet ha he sa ld al MoveA = rw (request_halted t.setup.copies A t.setup.code_a t.setup.memory s.a ha) refl
    quiet ha he sa ld al MoveE = rw (request_halted t.setup.copies E t.setup.code_e t.setup.memory s.e he) refl
    quiet ha he sa ld al (Fill A k) = rw (none_waits s.queues.stores.drained k n.waiting.al s.queues.al.slots al x.waiting.al) refl
    quiet ha he sa ld al (Fill E k) = rw (none_waits s.queues.stores.drained k n.waiting.ld s.queues.ld.slots ld x.waiting.ld) refl
    quiet ha he sa ld al Drain = rw sa refl

-- ---- covered

same_at : (o m : Option ℕ) (p : Processor) → same_counter o m ≡ true → StandsAt m p → StandsAt o p
same_at None None p h s = s
same_at None (Some d) p h s = cc
same_at (Some c) None p h s = cc
same_at (Some c) (Some d) p h s = let e : c ≡ d = grind (arith, nat_tests) in (s.0, s.1 ∙ sym e)

each_within : (k : ℕ) (outer rs : List Range) (xs : List ℕ) → registers_within k outer rs ≡ true → Registers rs xs → (r : ℕ) → 0 < r → r < k → r < 28 → Has (range_at outer r) (slice_index xs r)
each_within zero outer rs xs h g r z l few = absurd (omega arith)
each_within (suc k) outer rs xs h g r z l few = by (nat_eq r k) refl (λ w m. each_within k outer rs xs w g r z m few)
  where
    both : ((nat_eq k 0 || within (range_at outer k) (range_at rs k)) ≡ true) × (registers_within k outer rs ≡ true)
    both = and_true _ _ h

    by : (b : Bool) → nat_eq r k ≡ b → (registers_within k outer rs ≡ true → r < k → Has (range_at outer r) (slice_index xs r)) → Has (range_at outer r) (slice_index xs r)
    by true e more =
        let same : r ≡ k = grind (arith, nat_tests) in
        let some : nat_eq k 0 ≡ false = grind (arith, nat_tests) in
        let w : within (range_at outer k) (range_at rs k) ≡ true = rw some at both.0 in
        rw same (within_has (range_at outer k) (range_at rs k) (slice_index xs k) w (g.each k (omega arith) (omega arith)))
    by false e more =
        let other : r < k = grind (arith, nat_tests) in
        more both.1 other

side_is : (size : ℕ) (outer n : SideNode) (p : Processor) → side_within outer n ≡ true → IsSide size n p → IsSide size outer p
side_is size outer n p h s =
    let both = and_true (same_counter outer.counter n.counter) (registers_within 28 outer.registers n.registers) h in
    record {
      at = same_at outer.counter n.counter p both.0 s.at;
      registers = record { count = s.registers.count; each = λ r z l. each_within 28 outer.registers n.registers p.registers both.1 s.registers r z l l };
      size = s.size;
      bytes = s.bytes;
    }

nil_is : {X : Type 0} (xs : List X) → is_nil xs ≡ true → xs ≡ []
nil_is [] h = refl
nil_is (x ∷ xs) h = cc

empty_waits : (q : Waiting) → nothing_left q ≡ true → q ≡ nothing_waits
empty_waits q h =
    let a = and_true _ _ h in
    let b = and_true _ _ a.1 in
    let c = and_true _ _ b.1 in
    let d = and_true _ _ c.1 in
    let e = and_true _ _ d.1 in
    let f = and_true _ _ e.1 in
    let ld = nil_is q.ld a.0 in let al = nil_is q.al b.0 in let sa = nil_is q.sa c.0 in let sd = nil_is q.sd d.0 in
    let ab = nil_is q.ab e.0 in let eb = nil_is q.eb f.0 in let cq = nil_is q.cq f.1 in
    rw (ld, al, sa, sd, ab, eb, cq) refl

known_is : (t : Terms) (certificate : List CertificateNode) (n : Node) (s : State) → n.waiting ≡ nothing_waits → list_any (covers n) certificate ≡ true → StandsFor t n s → IsKnown t certificate s
known_is t [] n s e h x = cc
known_is t (k ∷ ks) n s e h x = by (covers n k) refl h (λ h. known_is t ks n s e h x)
  where
    by : (b : Bool) → covers n k ≡ b → (b || list_any (covers n) ks) ≡ true → (list_any (covers n) ks ≡ true → IsKnown t ks s) → StandsFor t (known_node k) s ⊎ IsKnown t ks s
    by true c h more =
        let both = and_true (side_within k.a n.a) (side_within k.e n.e) c in
        inl (record { a = side_is t.private_a k.a n.a s.a both.0 x.a; e = side_is t.private_e k.e n.e s.e both.1 x.e; waiting = rw e at x.waiting; memory = x.memory; counted = x.counted })
    by false c h more = inr (more h)

pub covered_is : (t : Terms) (certificate : List CertificateNode) (n : Node) (s : State) → is_covered certificate n ≡ true → StandsFor t n s → IsKnown t certificate s
covered_is t certificate n s h x =
    let both = and_true (nothing_left n.waiting) (list_any (covers n) certificate) h in
    known_is t certificate n s (empty_waits n.waiting both.0) both.1 x
