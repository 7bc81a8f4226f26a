use Rattle.std.proofs.Common.{◌≡◌, ◌∙◌, length, map, ap, sym}
use Rattle.std.specs.Prelude.{Some}
use Rattle.std.specs.Vec.{with_items}
use Rattle.std.proofs.lemmas.List.{length-map, with_items_is}
use Rattle.dae_guard.specs.Kept.{aged}
use Rattle.dae_guard.proofs.QueueLaws.{after_drain, drains, few_drained, kept_drained}
use Rattle.dae_guard.proofs.queues.RangeQueues.drain.Goals as goal

pub returns-clause-made : goal.returns-clause-made
returns-clause-made c =
    let ld : (with_items c.args.self.now.ld c.age.new.slots).items ≡ map aged c.args.self.now.ld.items =
    with_items_is c.args.self.now.ld c.age.new.slots
    (ap length (c.age.ensures ∙ ap (map aged) c.as_mut_slice.ensures.value) ∙ (length-map c.args.self.now.ld.items aged ∙ sym c.args.self.now.ld.ok.0))
    ∙ (c.age.ensures ∙ ap (map aged) c.as_mut_slice.ensures.value) in
    let al : (with_items c.args.self.now.al c.age-2.new.slots).items ≡ map aged c.args.self.now.al.items =
    with_items_is c.args.self.now.al c.age-2.new.slots
    (ap length (c.age-2.ensures ∙ ap (map aged) c.as_mut_slice-2.ensures.value) ∙ (length-map c.args.self.now.al.items aged ∙ sym c.args.self.now.al.ok.0))
    ∙ (c.age-2.ensures ∙ ap (map aged) c.as_mut_slice-2.ensures.value) in
    drains c.args.self.now (sym c.can_drain.ensures ∙ c.if-not-can_drain.false)
    ∙ ap Some (after_drain c.args.self.now (with_items c.args.self.now.ld c.age.new.slots).items (with_items c.args.self.now.al c.age-2.new.slots).items
    c.drop_front.new.items.items c.drop_front-2.new.items.items c.drop_front.ensures c.drop_front-2.ensures ld al)

pub returns-clause-holds : goal.returns-clause-holds
returns-clause-holds c =
    let ld : (with_items c.args.self.now.ld c.age.new.slots).items ≡ map aged c.args.self.now.ld.items =
    with_items_is c.args.self.now.ld c.age.new.slots
    (ap length (c.age.ensures ∙ ap (map aged) c.as_mut_slice.ensures.value) ∙ (length-map c.args.self.now.ld.items aged ∙ sym c.args.self.now.ld.ok.0))
    ∙ (c.age.ensures ∙ ap (map aged) c.as_mut_slice.ensures.value) in
    let al : (with_items c.args.self.now.al c.age-2.new.slots).items ≡ map aged c.args.self.now.al.items =
    with_items_is c.args.self.now.al c.age-2.new.slots
    (ap length (c.age-2.ensures ∙ ap (map aged) c.as_mut_slice-2.ensures.value) ∙ (length-map c.args.self.now.al.items aged ∙ sym c.args.self.now.al.ok.0))
    ∙ (c.age-2.ensures ∙ ap (map aged) c.as_mut_slice-2.ensures.value) in
    record {
      ld = kept_drained c.args.self.now.sa.items c.drop_front.new.items.items c.args.self.now.ld.items (with_items c.args.self.now.ld c.age.new.slots).items c.drop_front.ensures ld c.requires.ld;
      al = kept_drained c.args.self.now.sa.items c.drop_front.new.items.items c.args.self.now.al.items (with_items c.args.self.now.al c.age-2.new.slots).items c.drop_front.ensures al c.requires.al;
      few = few_drained c.args.self.now.sa.items c.drop_front.new.items.items c.drop_front.ensures c.requires.few;
      ab = c.requires.ab;
      eb = c.requires.eb;
      cq = c.requires.cq;
    }
