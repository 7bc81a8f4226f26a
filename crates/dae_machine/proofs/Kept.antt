-- Each step keeps the numbers in order and at most the number of steps.
use Rattle.std.proofs.Common.{◌≡◌, ℕ, ◌+◌, ◌≤◌, Bool, true, false, refl, subst, arith}
use Rattle.std.specs.Prelude.{Option, Some, None, ◌==◌, if◌then◌else◌, slice_index}
use Rattle.dae_base.specs.declared.Side.{Side}
use Rattle.dae_base.specs.declared.Side.TheVariants.{A, E}
use Rattle.dae_encode.specs.declared.QueueUse.{QueueUse}
use Rattle.dae_base.specs.Words.{width_of}
use Rattle.dae_encode.specs.declared.Inst.{Inst}
use Rattle.dae_encode.specs.declared.InstructionForm.{InstructionForm}
use Rattle.dae_encode.specs.declared.InstructionForm.TheVariants.{Computes, Loads, Stores, Calls}
use Rattle.dae_encode.specs.Instructions.{form}
use Rattle.dae_encode.specs.Processor.{Processor, After, address, is_good_private, is_shared, finish}
use Rattle.dae_core.specs.Queues.{Queues, peek, commit, loads_of, with_loads_of}
use Rattle.dae_queues.specs.Lists.{with_value}
use Rattle.dae_core.proofs.Laws.{UseOfA, UseOfE, a_nothing, a_load_ld, a_load_al, a_take_al, a_address, a_push_ab, a_push_cq, a_take_eb, e_nothing, e_take_ld, e_push_sd, e_take_ab, e_take_cq, e_push_eb, of_a, of_e}
use Rattle.dae_machine.specs.declared.Pick.{Pick}
use Rattle.dae_machine.specs.Machine.{Setup, State, step}
use Rattle.dae_machine.specs.Held.{AreCounted, is_plain}
use Rattle.dae_machine.proofs.CountLaws.{counted_fill}
use Rattle.dae_machine.proofs.Diamond.{Did, by_a, by_e, by_fill, by_drain, did, counted_did}

-- the numbers are at most so many
record AtMost (q : Queues) (n : ℕ) : Type 0 where
  ld : q.ld.reserved ≤ n
  al : q.al.reserved ≤ n
  stores : q.stores.issued ≤ n

after_a : {u : QueueUse} (w n : ℕ) (q : Queues) → UseOfA u → AtMost q n → AtMost (commit u w q) (n + 1)
after_a w n q a_nothing m = record { ld = omega (arith, m.ld); al = omega (arith, m.al); stores = omega (arith, m.stores) }
after_a w n q a_load_ld m = record { ld = omega (arith, m.ld); al = omega (arith, m.al); stores = omega (arith, m.stores) }
after_a w n q a_load_al m = record { ld = omega (arith, m.ld); al = omega (arith, m.al); stores = omega (arith, m.stores) }
after_a w n q a_take_al m = record { ld = omega (arith, m.ld); al = omega (arith, m.al); stores = omega (arith, m.stores) }
after_a w n q a_address m = record { ld = omega (arith, m.ld); al = omega (arith, m.al); stores = omega (arith, m.stores) }
after_a w n q a_push_ab m = record { ld = omega (arith, m.ld); al = omega (arith, m.al); stores = omega (arith, m.stores) }
after_a w n q a_push_cq m = record { ld = omega (arith, m.ld); al = omega (arith, m.al); stores = omega (arith, m.stores) }
after_a w n q a_take_eb m = record { ld = omega (arith, m.ld); al = omega (arith, m.al); stores = omega (arith, m.stores) }

after_e : {u : QueueUse} (w n : ℕ) (q : Queues) → UseOfE u → AtMost q n → AtMost (commit u w q) (n + 1)
after_e w n q e_nothing m = record { ld = omega (arith, m.ld); al = omega (arith, m.al); stores = omega (arith, m.stores) }
after_e w n q e_take_ld m = record { ld = omega (arith, m.ld); al = omega (arith, m.al); stores = omega (arith, m.stores) }
after_e w n q e_push_sd m = record { ld = omega (arith, m.ld); al = omega (arith, m.al); stores = omega (arith, m.stores) }
after_e w n q e_take_ab m = record { ld = omega (arith, m.ld); al = omega (arith, m.al); stores = omega (arith, m.stores) }
after_e w n q e_take_cq m = record { ld = omega (arith, m.ld); al = omega (arith, m.al); stores = omega (arith, m.stores) }
after_e w n q e_push_eb m = record { ld = omega (arith, m.ld); al = omega (arith, m.al); stores = omega (arith, m.stores) }

at_most : (s : State) → AreCounted s.queues s.steps → AtMost s.queues s.steps
at_most s c = record { ld = c.ld; al = c.al; stores = c.stores }

after_did : {setup : Setup} {s t : State} {p : Pick} → AtMost s.queues s.steps → Did setup s p t → AtMost t.queues t.steps
after_did {setup} {s} m (by_a x) = after_a x.word s.steps s.queues (of_a x.use' x.owns) m
after_did {setup} {s} m (by_e x) = after_e x.word s.steps s.queues (of_e x.use' x.owns) m
after_did {setup} {s} m (by_fill {side = A} f) = record { ld = omega (arith, m.ld); al = omega (arith, m.al); stores = omega (arith, m.stores) }
after_did {setup} {s} m (by_fill {side = E} f) = record { ld = omega (arith, m.ld); al = omega (arith, m.al); stores = omega (arith, m.stores) }
after_did {setup} {s} m (by_drain f) = record { ld = omega (arith, m.ld); al = omega (arith, m.al); stores = omega (arith, m.stores) }

pub counted_after : (setup : Setup) (s t : State) (p : Pick) → AreCounted s.queues s.steps → step setup s p ≡ Some t → AreCounted t.queues t.steps
counted_after setup s t p c h =
    let d = did setup s t p h in
    let m = after_did (at_most s c) d in
    record { counts = counted_did c.counts d; ld = m.ld; al = m.al; stores = m.stores }

pub counted_filled : (side : Side) (n w : ℕ) (q : Queues) (steps : ℕ) → AreCounted q steps → AreCounted (with_loads_of side (with_value n w (loads_of side q).slots) q) (steps + 1)
counted_filled A n w q steps c = record { counts = counted_fill A n w q c.counts; ld = omega (arith, c.ld); al = omega (arith, c.al); stores = omega (arith, c.stores) }
counted_filled E n w q steps c = record { counts = counted_fill E n w q c.counts; ld = omega (arith, c.ld); al = omega (arith, c.al); stores = omega (arith, c.stores) }

-- ---- a halt of the execute processor gives an end

Unplain : Option After → Type 0
Unplain None = Unit
Unplain (Some r) = is_plain r.0.halt ≡ false

if_unplain : (b : Bool) (x y : Option After) → Unplain x → Unplain y → Unplain (if b then x else y)
if_unplain true x y h k = h
if_unplain false x y h k = k

unplain_finish : (p : Processor) (u : QueueUse) (i : Inst) (f : InstructionForm) (w : ℕ) → is_plain p.halt ≡ false → Unplain (finish E p u i f w)
unfolding finish Unplain
unplain_finish p u i (Computes rd first second) w h = h
unplain_finish p u i (Loads kind rd base offset) w h = if_unplain (is_shared u) _ _ h (if_unplain (is_good_private p (width_of kind) (address p w base offset)) _ _ h tt)
unplain_finish p u i (Stores width base source offset) w h = if_unplain (is_shared u) _ _ h (if_unplain (is_good_private p width (address p w base offset)) _ _ h tt)
unplain_finish p u i Calls w h =
    let what : ℕ = slice_index p.registers 17 in
    if_unplain (what == 0) _ _ refl (if_unplain (what == 1) _ _ h (if_unplain (what == 2) _ _ h (if_unplain (what == 3) _ _ h (if_unplain (what == 4) _ _ h refl))))

unplain_did : {setup : Setup} {s t : State} {p : Pick} → is_plain s.e.halt ≡ false → Did setup s p t → is_plain t.e.halt ≡ false
unfolding Unplain
unplain_did {setup} {s} h (by_a m) = h
unplain_did {setup} {s} h (by_e m) = subst (λ (o : Option After). Unplain o) m.does (unplain_finish s.e m.use' m.inst (form m.inst) (peek m.use' s.queues) h)
unplain_did {setup} {s} h (by_fill f) = h
unplain_did {setup} {s} h (by_drain f) = h

pub unplain_after : (setup : Setup) (s t : State) (p : Pick) → is_plain s.e.halt ≡ false → step setup s p ≡ Some t → is_plain t.e.halt ≡ false
unplain_after setup s t p h k = unplain_did h (did setup s t p k)
