use Rattle.std.proofs.Common.{◌≡◌, ◌+◌, true, false, refl, sym, ap, ◌∙◌}
use Rattle.std.specs.Prelude.{Some, nat_le, ◌&&◌, slice_get}
use Rattle.dae_machine.specs.declared.Entry.{Entry}
use Rattle.dae_machine.specs.declared.Pick.TheVariants.{Fill}
use Rattle.dae_machine.specs.Entries.{entries}
use Rattle.dae_machine.specs.Memory.{loads_of}
use Rattle.dae_machine.specs.Turns.{is_enabled}
use Rattle.dae_timing.specs.Clocks.{load_queue}
use Rattle.dae_timing.proofs.Slots.{entry_slot, none_from, ripe_here, ripe_next, skip_all}
use Rattle.dae_timing.proofs.Rising.{old_is, young_not}
use Rattle.dae_timing.proofs.ripe.first_ripe.Goals as goal

pub loop-at-init : goal.loop-at-init
loop-at-init c = rw c.first_unfilled-at.ensures (skip_all c.args.machine.now.setup c.args.machine.now.state c.args.side c.args.load c.args.now c.args.issues.now.held c.requires.counted)

pub returns-then-is_young-clause-pick : goal.returns-then-is_young-clause-pick
returns-then-is_young-clause-pick c =
    let s = c.args.machine.now.state in
    let tick : slice_get c.args.issues.now.held c.loop-at.at ≡ Some c.in-Some-Some.tick = sym c.at.ensures ∙ c.in-Some-Some.is-1 in
    sym (none_from c.args.machine.now.setup s c.args.side c.args.load c.args.now (let q = loads_of c.args.side s.queues in q.slots) c.args.issues.now.held c.loop-at.at c.in-Some-Some.tick c.requires.rise tick (young_not _ _ (sym c.is_young.ensures ∙ c.if-is_young.true)))
    ∙ c.loop-at.invariant

pub returns-then-enabled-clause-pick : goal.returns-then-enabled-clause-pick
returns-then-enabled-clause-pick c =
    let s = c.args.machine.now.state in
    let found : slice_get (entries (load_queue c.args.side) s.queues) c.loop-at.at ≡ Some c.in-Some-Some.slot = rw (← c.load_queue-queue.ensures) (sym c.entry.ensures ∙ c.in-Some-Some.is-0) in
    let x = entry_slot c.args.side s.queues c.loop-at.at c.in-Some-Some.slot found in
    let tick : slice_get c.args.issues.now.held c.loop-at.at ≡ Some c.in-Some-Some.tick = sym c.at.ensures ∙ c.in-Some-Some.is-1 in
    let number : x.0.number ≡ c.in-Some-Some.slot.number = ap (λ (e : Entry). e.number) x.2 in
    let old : nat_le (c.in-Some-Some.tick + c.args.load) c.args.now ≡ true = old_is _ _ (sym c.is_young.ensures ∙ c.if-is_young.false) in
    let on : is_enabled c.args.machine.now.setup s (Fill c.args.side x.0.number) ≡ true = rw number (sym c.enabled.ensures ∙ c.if-enabled.true) in
    let yes : (nat_le (c.in-Some-Some.tick + c.args.load) c.args.now && is_enabled c.args.machine.now.setup s (Fill c.args.side x.0.number)) ≡ true = rw (old, on) refl in
    ap (λ n. Some (Fill c.args.side n)) (sym number)
    ∙ ripe_here c.args.machine.now.setup s c.args.side c.args.load c.args.now (let q = loads_of c.args.side s.queues in q.slots) c.args.issues.now.held c.loop-at.at x.0 c.in-Some-Some.tick x.1 tick yes
    ∙ c.loop-at.invariant

pub loop-at-preserved : goal.loop-at-preserved
loop-at-preserved c =
    let s = c.args.machine.now.state in
    let found : slice_get (entries (load_queue c.args.side) s.queues) c.loop-at.at ≡ Some c.in-Some-Some.slot = rw (← c.load_queue-queue.ensures) (sym c.entry.ensures ∙ c.in-Some-Some.is-0) in
    let x = entry_slot c.args.side s.queues c.loop-at.at c.in-Some-Some.slot found in
    let tick : slice_get c.args.issues.now.held c.loop-at.at ≡ Some c.in-Some-Some.tick = sym c.at.ensures ∙ c.in-Some-Some.is-1 in
    let number : x.0.number ≡ c.in-Some-Some.slot.number = ap (λ (e : Entry). e.number) x.2 in
    let old : nat_le (c.in-Some-Some.tick + c.args.load) c.args.now ≡ true = old_is _ _ (sym c.is_young.ensures ∙ c.if-is_young.false) in
    let off : is_enabled c.args.machine.now.setup s (Fill c.args.side x.0.number) ≡ false = rw number (sym c.enabled.ensures ∙ c.if-enabled.false) in
    let no : (nat_le (c.in-Some-Some.tick + c.args.load) c.args.now && is_enabled c.args.machine.now.setup s (Fill c.args.side x.0.number)) ≡ false = rw (old, off) refl in
    ripe_next c.args.machine.now.setup s c.args.side c.args.load c.args.now (let q = loads_of c.args.side s.queues in q.slots) c.args.issues.now.held c.loop-at.at x.0 c.in-Some-Some.tick x.1 tick no
    ∙ c.loop-at.invariant
